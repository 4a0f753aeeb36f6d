use Rattle.iox_service_laws.proofs.OfServices.{messages_come_at_their_request}
use Rattle.iox_service_laws.proofs.messages.messages_come_at_their_request.Goals as goal

pub returns : goal.returns
returns g c = messages_come_at_their_request c.is_served.ensures
