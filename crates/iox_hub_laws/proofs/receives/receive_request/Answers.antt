use Rattle.iox_hub_laws.proofs.BringsOnly.{request_gets_only}
use Rattle.iox_hub_laws.proofs.Receiving.{takes_request}
use Rattle.iox_hub_laws.proofs.Waited.{waited_for_request}
use Rattle.iox_hub_laws.proofs.receives.receive_request.Goals as goal

pub returns-clause-takes : goal.returns-clause-takes
returns-clause-takes g c =
    takes_request c.args.hub.now c.receive_request.new.self c.is_in_order.ensures c.args.node c.args.server c.receive_request.result c.requires.has
    c.receive_request.ensures.whole c.receive_request.ensures.has

pub returns-clause-waited : goal.returns-clause-waited
returns-clause-waited g c =
    waited_for_request c.args.hub.now c.receive_request.new.self c.is_in_order.ensures c.args.node c.args.server c.receive_request.result
    c.requires.has c.requires.calls c.receive_request.ensures.whole

pub returns-clause-carries : goal.returns-clause-carries
returns-clause-carries g c =
    request_gets_only c.args.hub.now c.receive_request.new.self c.args.node c.args.server c.receive_request.result
    (takes_request c.args.hub.now c.receive_request.new.self c.is_in_order.ensures c.args.node c.args.server c.receive_request.result c.requires.has
    c.receive_request.ensures.whole c.receive_request.ensures.has)
