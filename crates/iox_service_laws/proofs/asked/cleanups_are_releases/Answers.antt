use Rattle.iox_service_laws.proofs.OfServices.{cleanups_are_releases}
use Rattle.iox_service_laws.proofs.asked.cleanups_are_releases.Goals as goal

pub returns : goal.returns
returns g c = cleanups_are_releases c.is_served.ensures
