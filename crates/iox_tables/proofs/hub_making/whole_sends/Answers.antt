use Rattle.iox_tables.proofs.HubMaking.Ending.{request_sends_end, request_sends_over_end, response_sends_end, response_sends_over_end, spent_requests_end, unawaited_end}
use Rattle.iox_tables.proofs.hub_making.whole_sends.Goals as goal

pub returns-clause-spent : goal.returns-clause-spent
returns-clause-spent c = spent_requests_end

pub returns-clause-requests : goal.returns-clause-requests
returns-clause-requests c = request_sends_end

pub returns-clause-requests_over : goal.returns-clause-requests_over
returns-clause-requests_over c = request_sends_over_end

pub returns-clause-unawaited : goal.returns-clause-unawaited
returns-clause-unawaited c = unawaited_end

pub returns-clause-responses : goal.returns-clause-responses
returns-clause-responses c = response_sends_end

pub returns-clause-responses_over : goal.returns-clause-responses_over
returns-clause-responses_over c = response_sends_over_end
