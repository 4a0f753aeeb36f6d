use Rattle.iox_tables.proofs.HubLoans.GotBack.{dry_pools_are_foretold, dry_pools_are_kept}
use Rattle.iox_tables.proofs.HubLoans.Spare.{unused_slots_may_be_lent}
use Rattle.iox_tables.proofs.hub_loans.pools.Goals as goal

pub returns-clause-kept : goal.returns-clause-kept
returns-clause-kept c = dry_pools_are_kept

pub returns-clause-foretold : goal.returns-clause-foretold
returns-clause-foretold c = dry_pools_are_foretold

pub returns-clause-unused : goal.returns-clause-unused
returns-clause-unused c = unused_slots_may_be_lent
