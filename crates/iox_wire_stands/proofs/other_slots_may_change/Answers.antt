use Rattle.iox_wire_stands.proofs.OtherSlots.{other_slots_may_change}
use Rattle.iox_wire_stands.proofs.other_slots_may_change.Goals as goal

pub returns : goal.returns
returns c = other_slots_may_change
