use Rattle.iox_service_laws.proofs.OfServices.{the_dead_do_nothing}
use Rattle.iox_service_laws.proofs.gone.the_dead_do_nothing.Goals as goal

pub returns : goal.returns
returns g c = the_dead_do_nothing c.is_served.ensures
