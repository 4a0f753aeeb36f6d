use Rattle.iox_tables.proofs.HubLending.Back.{dry_pools_have_holders, getting_back_keeps_order}
use Rattle.iox_tables.proofs.HubLending.Emptied.{emptying_keeps_order}
use Rattle.iox_tables.proofs.hub_lending.emptying.Goals as goal

pub returns-clause-lanes : goal.returns-clause-lanes
returns-clause-lanes c = emptying_keeps_order

pub returns-clause-port : goal.returns-clause-port
returns-clause-port c = getting_back_keeps_order

pub returns-clause-dry : goal.returns-clause-dry
returns-clause-dry c = dry_pools_have_holders
