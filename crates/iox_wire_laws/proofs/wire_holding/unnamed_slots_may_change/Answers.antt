use Rattle.iox_wire_laws.proofs.WireHolding.UnnamedSlots.{unnamed_slots_may_change}
use Rattle.iox_wire_laws.proofs.wire_holding.unnamed_slots_may_change.Goals as goal

pub returns : goal.returns
returns c = unnamed_slots_may_change
