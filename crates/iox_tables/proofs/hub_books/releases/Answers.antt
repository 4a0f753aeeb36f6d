use Rattle.iox_tables.proofs.HubBooks.Released.{loan_releases_keep_order, pending_releases_keep_order}
use Rattle.iox_tables.proofs.HubBooks.Released.{request_releases_keep_order, response_releases_keep_order}
use Rattle.iox_tables.proofs.hub_books.releases.Goals as goal

pub returns-clause-loans : goal.returns-clause-loans
returns-clause-loans c = loan_releases_keep_order

pub returns-clause-pendings : goal.returns-clause-pendings
returns-clause-pendings c = pending_releases_keep_order

pub returns-clause-responses : goal.returns-clause-responses
returns-clause-responses c = response_releases_keep_order

pub returns-clause-requests : goal.returns-clause-requests
returns-clause-requests c = request_releases_keep_order
