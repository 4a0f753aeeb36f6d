use Rattle.iox_hub_delivering.proofs.CopySent.{failed_copy_sends_in_order, request_copies_push_in_order, request_copies_send_in_order}
use Rattle.iox_hub_delivering.proofs.CopySent.{response_copies_push_in_order, response_copies_send_in_order}
use Rattle.iox_hub_delivering.proofs.copy_sends.Goals as goal

pub returns-clause-requests : goal.returns-clause-requests
returns-clause-requests c = request_copies_send_in_order

pub returns-clause-pushed_requests : goal.returns-clause-pushed_requests
returns-clause-pushed_requests c = request_copies_push_in_order

pub returns-clause-responses : goal.returns-clause-responses
returns-clause-responses c = response_copies_send_in_order

pub returns-clause-pushed_responses : goal.returns-clause-pushed_responses
returns-clause-pushed_responses c = response_copies_push_in_order

pub returns-clause-failed : goal.returns-clause-failed
returns-clause-failed c = failed_copy_sends_in_order
