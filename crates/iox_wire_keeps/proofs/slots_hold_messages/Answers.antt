use Rattle.iox_wire_keeps.proofs.Stored.{deaths_leave_slots, opened_slots_hold_messages}
use Rattle.iox_wire_keeps.proofs.slots_hold_messages.Goals as goal

pub returns-clause-first : goal.returns-clause-first
returns-clause-first c = opened_slots_hold_messages

pub returns-clause-dead : goal.returns-clause-dead
returns-clause-dead c = deaths_leave_slots
