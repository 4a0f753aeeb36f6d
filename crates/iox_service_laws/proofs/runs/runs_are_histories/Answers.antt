use Rattle.iox_service_laws.proofs.OfServices.{runs_are_histories}
use Rattle.iox_service_laws.proofs.runs.runs_are_histories.Goals as goal

pub returns : goal.returns
returns g c = runs_are_histories c.is_served.ensures
