use Rattle.iox_wire_stands.proofs.OthersKept.{others_leave_nodes}
use Rattle.iox_wire_stands.proofs.others_leave_nodes.Goals as goal

pub returns : goal.returns
returns c = others_leave_nodes
