use Rattle.iox_hub_delivering.proofs.Sent.{request_pushes_keep_order, request_sends_keep_order, response_pushes_keep_order, response_sends_keep_order}
use Rattle.iox_hub_delivering.proofs.sends.Goals as goal

pub returns-clause-requests : goal.returns-clause-requests
returns-clause-requests c = request_sends_keep_order

pub returns-clause-pushed_requests : goal.returns-clause-pushed_requests
returns-clause-pushed_requests c = request_pushes_keep_order

pub returns-clause-responses : goal.returns-clause-responses
returns-clause-responses c = response_sends_keep_order

pub returns-clause-pushed_responses : goal.returns-clause-pushed_responses
returns-clause-pushed_responses c = response_pushes_keep_order
