use Rattle.iox_tables.proofs.HubBooks.Drying.{dry_pools_are_used_up, kept_are_used}
use Rattle.iox_tables.proofs.hub_books.pools.Goals as goal

pub returns-clause-kept : goal.returns-clause-kept
returns-clause-kept c = kept_are_used

pub returns-clause-dry : goal.returns-clause-dry
returns-clause-dry c = dry_pools_are_used_up
