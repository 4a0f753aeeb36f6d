use Rattle.iox_wire_pools.proofs.AccessesFound.{accesses_find_used}
use Rattle.iox_wire_pools.proofs.accesses_find_used.Goals as goal

pub returns : goal.returns
returns c = accesses_find_used
