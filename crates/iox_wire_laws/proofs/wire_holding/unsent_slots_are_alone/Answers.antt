use Rattle.iox_wire_laws.proofs.WireHolding.UnsentSlots.{filled_loans_are_alone, new_loans_are_unnamed}
use Rattle.iox_wire_laws.proofs.wire_holding.unsent_slots_are_alone.Goals as goal

pub returns-clause-lent : goal.returns-clause-lent
returns-clause-lent c = new_loans_are_unnamed

pub returns-clause-written : goal.returns-clause-written
returns-clause-written c = filled_loans_are_alone
