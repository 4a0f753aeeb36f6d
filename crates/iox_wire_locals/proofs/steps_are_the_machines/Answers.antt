use Rattle.iox_wire_locals.proofs.StepProofs.{steps_go_on}
use Rattle.iox_wire_locals.proofs.steps_are_the_machines.Goals as goal

pub returns : goal.returns
returns c = steps_go_on
