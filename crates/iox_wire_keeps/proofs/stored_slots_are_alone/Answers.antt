use Rattle.iox_wire_keeps.proofs.Alone.{stored_slots_are_alone}
use Rattle.iox_wire_keeps.proofs.stored_slots_are_alone.Goals as goal

pub returns : goal.returns
returns c = stored_slots_are_alone
