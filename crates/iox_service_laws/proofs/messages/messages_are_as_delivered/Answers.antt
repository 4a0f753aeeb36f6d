use Rattle.iox_service_laws.proofs.OfServices.{messages_are_as_delivered, reached}
use Rattle.iox_service_laws.proofs.messages.messages_are_as_delivered.Goals as goal

pub returns-clause-reached : goal.returns-clause-reached
returns-clause-reached g c = reached c.is_served.ensures

pub returns-clause-delivered : goal.returns-clause-delivered
returns-clause-delivered g c = messages_are_as_delivered c.is_served.ensures
