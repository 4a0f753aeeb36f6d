use Rattle.std.specs.Prelude.{Ok, Err}
use Rattle.iox_service_laws.specs.Settings.{settings_of}
use Rattle.iox_service_laws.specs.Shapes.{shape_of}
use Rattle.iox_service_laws.specs.Shown.{limits_for}
use Rattle.iceoryx2_wire.proofs.Comparing.{made_so, not_made_so, with_shapes}
use Rattle.iceoryx2_wire.proofs.service.Service.create.Goals as goal

pub returns-in-Ok : goal.returns-in-Ok
returns-in-Ok g c =
    made_so _ _ c.args.identity c.args.description c.args.id c.in-Ok.nodes c.creator_refusal-asked.result c.creator_refusal-asked.ensures
    (with_shapes
    (λ m n.
    limits_for (settings_of c.args.settings)
    (shape_of g.Q.Payload.MANY g.Q.Element.Words.WORDS g.Q.Element.Words.words g.QH.Words.words m)
    (shape_of g.P.Payload.MANY g.P.Element.Words.WORDS g.P.Element.Words.words g.PH.Words.words n))
    _ _ _ _ c.args.id c.creator_refusal-asked.result (Ok c.in-Ok.nodes) c.of_requests-request.ensures.value c.of_responses-response.ensures.value c.in-Ok.ensures)

pub returns-in-Err : goal.returns-in-Err
returns-in-Err g c =
    not_made_so _ _ c.args.identity c.args.description c.args.id c.in-Err.refusal c.creator_refusal-asked.result c.creator_refusal-asked.ensures
    (with_shapes
    (λ m n.
    limits_for (settings_of c.args.settings)
    (shape_of g.Q.Payload.MANY g.Q.Element.Words.WORDS g.Q.Element.Words.words g.QH.Words.words m)
    (shape_of g.P.Payload.MANY g.P.Element.Words.WORDS g.P.Element.Words.words g.PH.Words.words n))
    _ _ _ _ c.args.id c.creator_refusal-asked.result (Err c.in-Err.refusal) c.of_requests-request.ensures.value c.of_responses-response.ensures.value c.in-Err.ensures)
