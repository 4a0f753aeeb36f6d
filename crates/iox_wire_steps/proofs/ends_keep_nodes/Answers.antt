use Rattle.iox_wire_steps.proofs.EndLaws.{ends_keep_nodes}
use Rattle.iox_wire_steps.proofs.ends_keep_nodes.Goals as goal

pub returns : goal.returns
returns c = ends_keep_nodes
