use Rattle.iox_hub_laws.proofs.OfHubs.{were_sent}
use Rattle.iox_hub_laws.proofs.histories.messages_were_sent.Goals as goal

pub returns-clause-reached : goal.returns-clause-reached
returns-clause-reached g c = c.is_in_order.ensures.reached

pub returns-clause-sent : goal.returns-clause-sent
returns-clause-sent g c = were_sent c.args.hub.now
