use Rattle.iox_wire_laws.proofs.WireSlots.Deciding.{pools_decide_by_free_slots}
use Rattle.iox_wire_laws.proofs.wire_slots.pools_decide_by_free_slots.Goals as goal

pub returns : goal.returns
returns c = pools_decide_by_free_slots
