use Rattle.iox_wire_keeps.proofs.NamedSlots.{named_slots_hold_lent}
use Rattle.iox_wire_keeps.proofs.named_slots_hold_lent.Goals as goal

pub returns : goal.returns
returns c = named_slots_hold_lent
