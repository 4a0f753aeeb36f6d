use Rattle.iox_wire_weaves.proofs.NodesKnown.{nodes_are_known}
use Rattle.iox_wire_weaves.proofs.nodes_are_known.Goals as goal

pub returns : goal.returns
returns c = nodes_are_known
