use Rattle.iox_service_laws.proofs.OfServices.{messages_come_at_most_once, reached}
use Rattle.iox_service_laws.proofs.messages.messages_come_at_most_once.Goals as goal

pub returns-clause-reached : goal.returns-clause-reached
returns-clause-reached g c = reached c.is_served.ensures

pub returns-clause-once : goal.returns-clause-once
returns-clause-once g c = messages_come_at_most_once c.is_served.ensures
