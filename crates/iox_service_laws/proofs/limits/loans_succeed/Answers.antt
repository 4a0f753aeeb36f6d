use Rattle.iox_service_laws.proofs.OfServices.{loans_succeed}
use Rattle.iox_service_laws.proofs.limits.loans_succeed.Goals as goal

pub returns : goal.returns
returns g c = loans_succeed c.is_served.ensures
