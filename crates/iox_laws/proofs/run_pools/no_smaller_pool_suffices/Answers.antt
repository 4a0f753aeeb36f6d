use Rattle.iox_laws.proofs.RunPools.Lasts.{no_less_would_do_there}
use Rattle.iox_laws.proofs.run_pools.no_smaller_pool_suffices.Goals as goal

pub returns : goal.returns
returns c = no_less_would_do_there
