-- What keeps all values as they were keeps all values.
use Rattle.iox_hub_laws.specs.Hubs.{HubState}
use Rattle.iox_hub_laws.specs.Keeping.{KeepsAll}
use Rattle.iceoryx2_ports.specs.Holding.{KeepsValues}

pub keeps_values : (old new : HubState) → KeepsAll old new → KeepsValues old new
keeps_values old new all node n some = (all node n tt some).kind
