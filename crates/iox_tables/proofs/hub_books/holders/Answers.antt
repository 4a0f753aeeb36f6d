use Rattle.iox_tables.proofs.HubBooks.Bounds.{holders_can_be_counted, uses_are_bounded}
use Rattle.iox_tables.proofs.HubBooks.Rooms.{bare_pools_show_the_same}
use Rattle.iox_tables.proofs.hub_books.holders.Goals as goal

pub returns-clause-bounded : goal.returns-clause-bounded
returns-clause-bounded c = uses_are_bounded

pub returns-clause-counted : goal.returns-clause-counted
returns-clause-counted c = holders_can_be_counted

pub returns-clause-hidden : goal.returns-clause-hidden
returns-clause-hidden c = bare_pools_show_the_same
