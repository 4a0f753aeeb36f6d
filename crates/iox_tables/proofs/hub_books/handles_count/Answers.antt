use Rattle.iox_tables.proofs.HubBooks.HandleTotals.{handle_changed, handle_dropped}
use Rattle.iox_tables.proofs.HubBooks.Totals.{total-last}
use Rattle.iox_tables.proofs.hub_books.handles_count.Goals as goal

pub returns-clause-adds : goal.returns-clause-adds
returns-clause-adds c = total-last

pub returns-clause-changes : goal.returns-clause-changes
returns-clause-changes c = handle_changed

pub returns-clause-drops : goal.returns-clause-drops
returns-clause-drops c = handle_dropped
