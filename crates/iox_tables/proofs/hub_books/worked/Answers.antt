use Rattle.iox_tables.proofs.HubBooks.WorkedHolds.{two_have_the_request}
use Rattle.iox_tables.proofs.hub_books.worked.Goals as goal

pub returns : goal.returns
returns c = two_have_the_request
