use Rattle.iox_service_laws.proofs.OfServices.{refusals_leave_the_state}
use Rattle.iox_service_laws.proofs.asked.refusals_leave_the_state.Goals as goal

pub returns : goal.returns
returns g c = refusals_leave_the_state c.is_served.ensures
