use Rattle.iox_wire_needs.proofs.Tidying.{begun_nodes_are_tidy, stepped_nodes_are_tidy}
use Rattle.iox_wire_needs.proofs.nodes_stay_tidy.Goals as goal

pub returns-clause-begins : goal.returns-clause-begins
returns-clause-begins c = begun_nodes_are_tidy

pub returns-clause-steps : goal.returns-clause-steps
returns-clause-steps c = stepped_nodes_are_tidy
