use Rattle.iox_hub_delivering.proofs.Copied.{failed_copies_keep_order, request_copies_keep_order, response_copies_keep_order}
use Rattle.iox_hub_delivering.proofs.LoanCounted.{counted_loans_keep_order}
use Rattle.iox_hub_delivering.proofs.copies.Goals as goal

pub returns-clause-requests : goal.returns-clause-requests
returns-clause-requests c = request_copies_keep_order

pub returns-clause-responses : goal.returns-clause-responses
returns-clause-responses c = response_copies_keep_order

pub returns-clause-failed : goal.returns-clause-failed
returns-clause-failed c = failed_copies_keep_order

pub returns-clause-counted : goal.returns-clause-counted
returns-clause-counted c = counted_loans_keep_order
