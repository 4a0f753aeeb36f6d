use Rattle.iox_wire_laws.proofs.WireHolding.HoldingLaws.{ended_slots_hold_payloads, one_slot_changes, taken_slots_hold_their_loans}
use Rattle.iox_wire_laws.proofs.wire_holding.slots_change_alone.Goals as goal

pub returns-clause-one : goal.returns-clause-one
returns-clause-one c = one_slot_changes

pub returns-clause-taken : goal.returns-clause-taken
returns-clause-taken c = taken_slots_hold_their_loans

pub returns-clause-ended : goal.returns-clause-ended
returns-clause-ended c = ended_slots_hold_payloads
