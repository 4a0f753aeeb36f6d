use Rattle.iox_service_laws.proofs.OfServices.{keeps_nothing_for_the_gone}
use Rattle.iox_service_laws.proofs.gone.keeps_nothing_for_the_gone.Goals as goal

pub returns : goal.returns
returns g c = keeps_nothing_for_the_gone c.is_served.ensures
