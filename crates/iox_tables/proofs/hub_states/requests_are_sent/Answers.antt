use Rattle.iox_tables.proofs.HubStates.Sending.{requests_are_sent, requests_are_sent_over, spent_requests_are_refused}
use Rattle.iox_tables.proofs.hub_states.requests_are_sent.Goals as goal

pub returns-clause-plain : goal.returns-clause-plain
returns-clause-plain c = requests_are_sent

pub returns-clause-over : goal.returns-clause-over
returns-clause-over c = requests_are_sent_over

pub returns-clause-spent : goal.returns-clause-spent
returns-clause-spent c = spent_requests_are_refused
