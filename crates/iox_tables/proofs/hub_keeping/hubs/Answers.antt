use Rattle.iox_tables.proofs.HubKeeping.Reaching.{hubs_drop_pools, hubs_release_ports, hubs_start, hubs_take_ports}
use Rattle.iox_tables.proofs.hub_keeping.hubs.Goals as goal

pub returns-clause-start : goal.returns-clause-start
returns-clause-start c = hubs_start

pub returns-clause-ports : goal.returns-clause-ports
returns-clause-ports c = hubs_take_ports

pub returns-clause-releases : goal.returns-clause-releases
returns-clause-releases c = hubs_release_ports

pub returns-clause-pools : goal.returns-clause-pools
returns-clause-pools c = hubs_drop_pools
