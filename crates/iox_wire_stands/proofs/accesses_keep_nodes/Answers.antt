use Rattle.iox_wire_stands.proofs.NodesFollow.{accesses_keep_nodes}
use Rattle.iox_wire_stands.proofs.accesses_keep_nodes.Goals as goal

pub returns : goal.returns
returns c = accesses_keep_nodes
