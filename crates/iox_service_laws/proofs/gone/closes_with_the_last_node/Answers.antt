use Rattle.iox_service_laws.proofs.OfServices.{closes_with_the_last_node}
use Rattle.iox_service_laws.proofs.gone.closes_with_the_last_node.Goals as goal

pub returns : goal.returns
returns g c = closes_with_the_last_node c.is_served.ensures
