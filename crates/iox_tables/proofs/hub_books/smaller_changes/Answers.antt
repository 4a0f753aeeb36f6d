use Rattle.iox_tables.proofs.HubLending.Emptied.{emptying_keeps_order}
use Rattle.iox_tables.proofs.HubBooks.Little.{little_changes_keep_order}
use Rattle.iox_tables.proofs.hub_books.smaller_changes.Goals as goal

pub returns-clause-empties : goal.returns-clause-empties
returns-clause-empties c = emptying_keeps_order

pub returns-clause-others : goal.returns-clause-others
returns-clause-others c = little_changes_keep_order
