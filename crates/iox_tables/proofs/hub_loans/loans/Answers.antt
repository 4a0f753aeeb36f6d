use Rattle.iox_tables.proofs.HubLoans.Loaning.{loans_are_made, loans_are_refused, loans_find_dry_pools, loans_want_memory}
use Rattle.iox_tables.proofs.hub_loans.loans.Goals as goal

pub returns-clause-refused : goal.returns-clause-refused
returns-clause-refused c = loans_are_refused

pub returns-clause-memory : goal.returns-clause-memory
returns-clause-memory c = loans_want_memory

pub returns-clause-dry : goal.returns-clause-dry
returns-clause-dry c = loans_find_dry_pools

pub returns-clause-made : goal.returns-clause-made
returns-clause-made c = loans_are_made
