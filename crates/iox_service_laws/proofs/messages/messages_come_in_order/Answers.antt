use Rattle.iox_service_laws.proofs.OfServices.{messages_come_in_order, reached}
use Rattle.iox_service_laws.proofs.messages.messages_come_in_order.Goals as goal

pub returns-clause-reached : goal.returns-clause-reached
returns-clause-reached g c = reached c.is_served.ensures

pub returns-clause-order : goal.returns-clause-order
returns-clause-order g c = messages_come_in_order c.is_served.ensures
