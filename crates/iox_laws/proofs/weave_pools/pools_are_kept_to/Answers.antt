use Rattle.iox_laws.proofs.WeavePools.Laws.{pools_hold, next_is_fresh}
use Rattle.iox_laws.proofs.weave_pools.pools_are_kept_to.Goals as goal

pub returns-clause-kept : goal.returns-clause-kept
returns-clause-kept c = pools_hold

pub returns-clause-fresh : goal.returns-clause-fresh
returns-clause-fresh c = next_is_fresh
