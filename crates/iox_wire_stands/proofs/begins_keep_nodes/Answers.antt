use Rattle.iox_wire_stands.proofs.BeginsKept.{begins_keep_nodes}
use Rattle.iox_wire_stands.proofs.begins_keep_nodes.Goals as goal

pub returns : goal.returns
returns c = begins_keep_nodes
