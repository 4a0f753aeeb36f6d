use Rattle.iox_wire_laws.proofs.WireOwners.SentStates.{accesses_leave_opened, others_leave_opened, sent_requests_have_states}
use Rattle.iox_wire_laws.proofs.wire_owners.sent_requests_have_own_states.Goals as goal

pub returns-clause-accesses : goal.returns-clause-accesses
returns-clause-accesses c = accesses_leave_opened

pub returns-clause-others : goal.returns-clause-others
returns-clause-others c = others_leave_opened

pub returns-clause-sent : goal.returns-clause-sent
returns-clause-sent c = sent_requests_have_states
