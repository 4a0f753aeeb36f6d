use Rattle.iox_hub_laws.proofs.OfHubs.{come_at_most_once}
use Rattle.iox_hub_laws.proofs.histories.messages_come_at_most_once.Goals as goal

pub returns-clause-reached : goal.returns-clause-reached
returns-clause-reached g c = c.is_in_order.ensures.reached

pub returns-clause-once : goal.returns-clause-once
returns-clause-once g c = come_at_most_once c.args.hub.now
