use Rattle.iox_hub_laws.proofs.OfHubs.{come_in_order}
use Rattle.iox_hub_laws.proofs.histories.messages_come_in_order.Goals as goal

pub returns-clause-reached : goal.returns-clause-reached
returns-clause-reached g c = c.is_in_order.ensures.reached

pub returns-clause-order : goal.returns-clause-order
returns-clause-order g c = come_in_order c.args.hub.now
