use Rattle.iox_service_laws.proofs.OfServices.{limits_hold}
use Rattle.iox_service_laws.proofs.limits.limits_hold.Goals as goal

pub returns : goal.returns
returns g c = limits_hold c.is_served.ensures
