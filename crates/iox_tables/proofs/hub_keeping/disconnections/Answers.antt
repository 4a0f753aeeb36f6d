use Rattle.iox_tables.proofs.HubKeeping.GonePools.{pools_may_go}
use Rattle.iox_tables.proofs.HubKeeping.LeftHandles.{disconnections_keep_order}
use Rattle.iox_tables.proofs.hub_keeping.disconnections.Goals as goal

pub returns-clause-ports : goal.returns-clause-ports
returns-clause-ports c = disconnections_keep_order

pub returns-clause-pools : goal.returns-clause-pools
returns-clause-pools c = pools_may_go
