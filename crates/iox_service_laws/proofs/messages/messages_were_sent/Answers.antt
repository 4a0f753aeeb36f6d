use Rattle.iox_service_laws.proofs.OfServices.{messages_were_sent, reached}
use Rattle.iox_service_laws.proofs.messages.messages_were_sent.Goals as goal

pub returns-clause-reached : goal.returns-clause-reached
returns-clause-reached g c = reached c.is_served.ensures

pub returns-clause-sent : goal.returns-clause-sent
returns-clause-sent g c = messages_were_sent c.is_served.ensures
