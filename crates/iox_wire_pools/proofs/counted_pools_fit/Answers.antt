use Rattle.iox_wire_pools.proofs.PoolsFit.{counted_pools_fit}
use Rattle.iox_wire_pools.proofs.counted_pools_fit.Goals as goal

pub returns : goal.returns
returns c = counted_pools_fit
