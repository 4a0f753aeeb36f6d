use Rattle.iox_wire_nodes.proofs.RoomsKept.{room_suffices}
use Rattle.iox_wire_nodes.proofs.laws.nodes_with_as_much_room_begin.Goals as goal

pub returns : goal.returns
returns c = room_suffices
