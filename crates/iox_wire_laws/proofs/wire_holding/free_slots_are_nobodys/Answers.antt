use Rattle.iox_wire_laws.proofs.WireHolding.FreeSlots.{free_slots_are_nobodys}
use Rattle.iox_wire_laws.proofs.wire_holding.free_slots_are_nobodys.Goals as goal

pub returns : goal.returns
returns c = free_slots_are_nobodys
