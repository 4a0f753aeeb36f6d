use Rattle.iox_laws.proofs.RunLaws.Received.{responses_name_their_request, requests_are_named}
use Rattle.iox_laws.proofs.run_laws.messages_come_at_their_request.Goals as goal

pub returns-clause-responses : goal.returns-clause-responses
returns-clause-responses c = responses_name_their_request

pub returns-clause-requests : goal.returns-clause-requests
returns-clause-requests c = requests_are_named
