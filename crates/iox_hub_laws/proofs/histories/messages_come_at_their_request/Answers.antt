use Rattle.iox_hub_laws.proofs.OfHubs.{come_at_their_request}
use Rattle.iox_hub_laws.proofs.histories.messages_come_at_their_request.Goals as goal

pub returns-clause-reached : goal.returns-clause-reached
returns-clause-reached g c = c.is_in_order.ensures.reached

pub returns-clause-request : goal.returns-clause-request
returns-clause-request g c = come_at_their_request c.args.hub.now
