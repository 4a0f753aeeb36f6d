use Rattle.iox_service_laws.proofs.OfServices.{pools_suffice}
use Rattle.iox_service_laws.proofs.limits.pools_suffice.Goals as goal

pub returns : goal.returns
returns g c = pools_suffice c.is_served.ensures
