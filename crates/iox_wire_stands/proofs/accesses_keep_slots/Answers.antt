use Rattle.iox_wire_stands.proofs.SlotsFollow.{accesses_keep_slots}
use Rattle.iox_wire_stands.proofs.accesses_keep_slots.Goals as goal

pub returns : goal.returns
returns c = accesses_keep_slots
