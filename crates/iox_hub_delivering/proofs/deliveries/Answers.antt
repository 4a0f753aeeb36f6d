use Rattle.iox_hub_delivering.proofs.Delivered.{delivered_requests_keep_order, delivered_responses_keep_order}
use Rattle.iox_hub_delivering.proofs.deliveries.Goals as goal

pub returns-clause-requests : goal.returns-clause-requests
returns-clause-requests c = delivered_requests_keep_order

pub returns-clause-responses : goal.returns-clause-responses
returns-clause-responses c = delivered_responses_keep_order
