use Rattle.iox_tables.proofs.HubBooks.LoanDeliveries.{request_deliveries_keep_order, response_deliveries_keep_order}
use Rattle.iox_tables.proofs.HubBooks.Targets.{each_has_its_targets}
use Rattle.iox_tables.proofs.hub_books.deliveries.Goals as goal

pub returns-clause-requests : goal.returns-clause-requests
returns-clause-requests c = request_deliveries_keep_order

pub returns-clause-responses : goal.returns-clause-responses
returns-clause-responses c = response_deliveries_keep_order

pub returns-clause-targets : goal.returns-clause-targets
returns-clause-targets c = each_has_its_targets
