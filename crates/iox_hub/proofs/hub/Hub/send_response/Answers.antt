use Rattle.std.proofs.Common.{subst}
use Rattle.iox_hub.specs.Hubs.{HubState}
use Rattle.iox_hub.specs.SendCalls.{SendsResponse}
use Rattle.iox_hub.proofs.hub.Hub.send_response.Goals as goal

pub returns-in-Some-clause-reply : goal.returns-in-Some-clause-reply
returns-in-Some-clause-reply g c = c.in-Some.ensures.sent.reply

pub returns-in-Some-clause-left : goal.returns-in-Some-clause-left
returns-in-Some-clause-left g c = c.in-Some.ensures.sent.left

pub returns-in-Some-clause-whole : goal.returns-in-Some-clause-whole
returns-in-Some-clause-whole g c = c.in-Some.ensures.sent.whole

pub returns-in-Some-clause-gone : goal.returns-in-Some-clause-gone
returns-in-Some-clause-gone g c = c.in-Some.ensures.sent.gone

pub returns-in-Some-clause-keeps : goal.returns-in-Some-clause-keeps
returns-in-Some-clause-keeps g c = c.in-Some.ensures.sent.keeps

pub returns-in-Some-clause-tidy : goal.returns-in-Some-clause-tidy
returns-in-Some-clause-tidy g c = c.in-Some.ensures.sent.tidy

pub returns-clause-reply : goal.returns-clause-reply
returns-clause-reply g c =
    (subst (λ (d : HubState). SendsResponse d c.args.node c.args.number c.send_response_far.result c.send_response_far.new.self)
    (c.send_response_usual.ensures.unchanged c.in_default.is) c.send_response_far.ensures).reply

pub returns-clause-left : goal.returns-clause-left
returns-clause-left g c =
    (subst (λ (d : HubState). SendsResponse d c.args.node c.args.number c.send_response_far.result c.send_response_far.new.self)
    (c.send_response_usual.ensures.unchanged c.in_default.is) c.send_response_far.ensures).left

pub returns-clause-whole : goal.returns-clause-whole
returns-clause-whole g c =
    (subst (λ (d : HubState). SendsResponse d c.args.node c.args.number c.send_response_far.result c.send_response_far.new.self)
    (c.send_response_usual.ensures.unchanged c.in_default.is) c.send_response_far.ensures).whole

pub returns-clause-gone : goal.returns-clause-gone
returns-clause-gone g c =
    (subst (λ (d : HubState). SendsResponse d c.args.node c.args.number c.send_response_far.result c.send_response_far.new.self)
    (c.send_response_usual.ensures.unchanged c.in_default.is) c.send_response_far.ensures).gone

pub returns-clause-keeps : goal.returns-clause-keeps
returns-clause-keeps g c =
    (subst (λ (d : HubState). SendsResponse d c.args.node c.args.number c.send_response_far.result c.send_response_far.new.self)
    (c.send_response_usual.ensures.unchanged c.in_default.is) c.send_response_far.ensures).keeps

pub returns-clause-tidy : goal.returns-clause-tidy
returns-clause-tidy g c =
    (subst (λ (d : HubState). SendsResponse d c.args.node c.args.number c.send_response_far.result c.send_response_far.new.self)
    (c.send_response_usual.ensures.unchanged c.in_default.is) c.send_response_far.ensures).tidy
