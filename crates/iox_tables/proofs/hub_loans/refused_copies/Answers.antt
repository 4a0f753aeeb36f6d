use Rattle.iox_tables.proofs.HubLoans.Copying.{copies_are_refused, copies_find_dry_pools, copies_want_memory}
use Rattle.iox_tables.proofs.hub_loans.refused_copies.Goals as goal

pub returns-clause-refused : goal.returns-clause-refused
returns-clause-refused c = copies_are_refused

pub returns-clause-memory : goal.returns-clause-memory
returns-clause-memory c = copies_want_memory

pub returns-clause-dry : goal.returns-clause-dry
returns-clause-dry c = copies_find_dry_pools
