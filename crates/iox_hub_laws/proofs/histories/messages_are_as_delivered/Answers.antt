use Rattle.iox_hub_laws.proofs.OfHubs.{are_as_delivered}
use Rattle.iox_hub_laws.proofs.histories.messages_are_as_delivered.Goals as goal

pub returns-clause-reached : goal.returns-clause-reached
returns-clause-reached g c = c.is_in_order.ensures.reached

pub returns-clause-delivered : goal.returns-clause-delivered
returns-clause-delivered g c = are_as_delivered c.args.hub.now
