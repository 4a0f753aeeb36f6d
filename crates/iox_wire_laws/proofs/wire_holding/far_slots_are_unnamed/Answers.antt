use Rattle.iox_wire_laws.proofs.WireHolding.FarSlots.{far_slots_are_unnamed}
use Rattle.iox_wire_laws.proofs.wire_holding.far_slots_are_unnamed.Goals as goal

pub returns : goal.returns
returns c = far_slots_are_unnamed
