use Rattle.iox_tables.proofs.HubStates.Sending.{responses_are_sent, responses_are_sent_over, unawaited_go_to_nobody}
use Rattle.iox_tables.proofs.hub_states.responses_are_sent.Goals as goal

pub returns-clause-plain : goal.returns-clause-plain
returns-clause-plain c = responses_are_sent

pub returns-clause-over : goal.returns-clause-over
returns-clause-over c = responses_are_sent_over

pub returns-clause-unawaited : goal.returns-clause-unawaited
returns-clause-unawaited c = unawaited_go_to_nobody
