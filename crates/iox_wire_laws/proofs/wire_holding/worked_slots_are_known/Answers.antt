use Rattle.std.specs.Prelude.{refl}
use Rattle.iox_wire_laws.proofs.WireHolding.WorkedSlots.{worked_slots_are_known}
use Rattle.iox_wire_laws.proofs.wire_holding.worked_slots_are_known.Goals as goal

pub returns-clause-known : goal.returns-clause-known
returns-clause-known c = worked_slots_are_known

pub returns-clause-again : goal.returns-clause-again
returns-clause-again c = (refl, refl, refl, refl, refl, refl, refl)
