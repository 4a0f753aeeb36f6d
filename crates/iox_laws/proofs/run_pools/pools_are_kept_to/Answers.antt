use Rattle.iox_laws.proofs.RunPools.Keeps.{pools_rest_within, next_rests_fresh}
use Rattle.iox_laws.proofs.run_pools.pools_are_kept_to.Goals as goal

pub returns-clause-kept : goal.returns-clause-kept
returns-clause-kept c = pools_rest_within

pub returns-clause-fresh : goal.returns-clause-fresh
returns-clause-fresh c = next_rests_fresh
