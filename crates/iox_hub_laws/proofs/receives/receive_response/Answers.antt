use Rattle.iox_hub_laws.proofs.BringsOnly.{response_gets_only}
use Rattle.iox_hub_laws.proofs.Receiving.{takes_response}
use Rattle.iox_hub_laws.proofs.Waited.{waited_for_response}
use Rattle.iox_hub_laws.proofs.receives.receive_response.Goals as goal

pub returns-clause-takes : goal.returns-clause-takes
returns-clause-takes g c =
    takes_response c.args.hub.now c.receive_response.new.self c.is_in_order.ensures c.args.node c.args.number c.receive_response.result
    c.receive_response.ensures.whole c.receive_response.ensures.has

pub returns-clause-waited : goal.returns-clause-waited
returns-clause-waited g c =
    waited_for_response c.args.hub.now c.receive_response.new.self c.is_in_order.ensures c.args.node c.args.number c.receive_response.result
    c.requires.has c.requires.calls c.receive_response.ensures.whole

pub returns-clause-carries : goal.returns-clause-carries
returns-clause-carries g c =
    response_gets_only c.args.hub.now c.receive_response.new.self c.args.node c.args.number c.receive_response.result c.requires.has
    (takes_response c.args.hub.now c.receive_response.new.self c.is_in_order.ensures c.args.node c.args.number c.receive_response.result
    c.receive_response.ensures.whole c.receive_response.ensures.has)
