use Rattle.iox_tables.proofs.HubBooks.Reaching.{each_call_is_reached}
use Rattle.iox_tables.proofs.hub_books.calls.Goals as goal

pub returns : goal.returns
returns c = each_call_is_reached
