use Rattle.iox_wire_laws.proofs.WireOwners.SentStates.{accesses_leave_states}
use Rattle.iox_wire_laws.proofs.WireOwners.Releases.{others_leave_states, moments_leave_states, opened_states_are_own}
use Rattle.iox_wire_laws.proofs.wire_owners.pending_responses_have_own_states.Goals as goal

pub returns-clause-others : goal.returns-clause-others
returns-clause-others c = others_leave_states

pub returns-clause-moments : goal.returns-clause-moments
returns-clause-moments c = moments_leave_states

pub returns-clause-opened : goal.returns-clause-opened
returns-clause-opened c = opened_states_are_own

pub returns-clause-accesses : goal.returns-clause-accesses
returns-clause-accesses c = accesses_leave_states
