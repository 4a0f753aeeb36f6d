use Rattle.std.specs.Prelude.{◌∷◌, [], flat_map}
use Rattle.std.proofs.Common.{subst}
use Rattle.iox_model.specs.declared.kind.Kind.TheVariants.{RequestMut}
use Rattle.iox_model.specs.declared.kind.Role.TheVariants as roles
use Rattle.iox_hub.specs.Hubs.{HubState}
use Rattle.iox_hub.specs.WriteCalls.{WritesOne}
use Rattle.iox_hub.proofs.hub.Hub.write_one_request.Goals as goal

pub returns-in-Some-clause-left : goal.returns-in-Some-clause-left
returns-in-Some-clause-left g c = c.in-Some.ensures.written.left

pub returns-in-Some-clause-whole : goal.returns-in-Some-clause-whole
returns-in-Some-clause-whole g c = c.in-Some.ensures.written.whole

pub returns-in-Some-clause-has : goal.returns-in-Some-clause-has
returns-in-Some-clause-has g c = c.in-Some.ensures.written.has

pub returns-in-Some-clause-keeps : goal.returns-in-Some-clause-keeps
returns-in-Some-clause-keeps g c = c.in-Some.ensures.written.keeps

pub returns-clause-left : goal.returns-clause-left
returns-clause-left g c =
    (subst (λ (d : HubState). WritesOne d c.args.node c.args.number roles.Client RequestMut (flat_map g.Q.Element.Words.words (c.args.value ∷ [])) c.write_request_far-node.result.place c.write_request_far-node.new.self)
    (c.write_request_usual.ensures.unchanged c.in_default.is) c.write_request_far-node.ensures.written).left

pub returns-clause-whole : goal.returns-clause-whole
returns-clause-whole g c =
    (subst (λ (d : HubState). WritesOne d c.args.node c.args.number roles.Client RequestMut (flat_map g.Q.Element.Words.words (c.args.value ∷ [])) c.write_request_far-node.result.place c.write_request_far-node.new.self)
    (c.write_request_usual.ensures.unchanged c.in_default.is) c.write_request_far-node.ensures.written).whole

pub returns-clause-has : goal.returns-clause-has
returns-clause-has g c =
    (subst (λ (d : HubState). WritesOne d c.args.node c.args.number roles.Client RequestMut (flat_map g.Q.Element.Words.words (c.args.value ∷ [])) c.write_request_far-node.result.place c.write_request_far-node.new.self)
    (c.write_request_usual.ensures.unchanged c.in_default.is) c.write_request_far-node.ensures.written).has

pub returns-clause-keeps : goal.returns-clause-keeps
returns-clause-keeps g c =
    (subst (λ (d : HubState). WritesOne d c.args.node c.args.number roles.Client RequestMut (flat_map g.Q.Element.Words.words (c.args.value ∷ [])) c.write_request_far-node.result.place c.write_request_far-node.new.self)
    (c.write_request_usual.ensures.unchanged c.in_default.is) c.write_request_far-node.ensures.written).keeps
