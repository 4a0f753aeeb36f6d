use Rattle.iox_service_laws.proofs.OfServices.{listings_are_exact}
use Rattle.iox_service_laws.proofs.asked.listings_are_exact.Goals as goal

pub returns : goal.returns
returns g c = listings_are_exact c.is_served.ensures
