use Rattle.iox_tables.proofs.HubMaking.Pooling.{free_pools_may_change, free_pools_may_go, new_pools_are_put}
use Rattle.iox_tables.proofs.hub_making.pools.Goals as goal

pub returns-clause-change : goal.returns-clause-change
returns-clause-change c = free_pools_may_change

pub returns-clause-go : goal.returns-clause-go
returns-clause-go c = free_pools_may_go

pub returns-clause-put : goal.returns-clause-put
returns-clause-put c = new_pools_are_put
