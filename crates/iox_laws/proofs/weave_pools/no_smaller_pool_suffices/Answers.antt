use Rattle.iox_laws.proofs.WeavePools.Tight.{no_less_would_do}
use Rattle.iox_laws.proofs.weave_pools.no_smaller_pool_suffices.Goals as goal

pub returns : goal.returns
returns c = no_less_would_do
