use Rattle.iox_laws.proofs.WorkedExamples.WorkedWeavesHold.{stops_and_is_forgotten, keeps_two, refuses_growing_ports}
use Rattle.iox_laws.proofs.worked_examples.weaves.Goals as goal

pub returns-clause-stopped : goal.returns-clause-stopped
returns-clause-stopped c = stops_and_is_forgotten

pub returns-clause-outstanding : goal.returns-clause-outstanding
returns-clause-outstanding c = keeps_two

pub returns-clause-growing : goal.returns-clause-growing
returns-clause-growing c = refuses_growing_ports
