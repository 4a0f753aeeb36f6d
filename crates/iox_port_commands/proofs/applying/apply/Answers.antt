use Rattle.iox_hub.specs.HandlerWords.{shown_by}
use Rattle.std.specs.Prelude.{Bool, if◌then◌else◌}
use Rattle.std.proofs.Common.{ap, ◌∙◌}
use Rattle.iox_model.specs.declared.reply.PortReply.TheVariants.{Refused}
use Rattle.iox_model.specs.declared.reply.Refusal.TheVariants.{UnableToCreateDataSegment, WantOfMemory}
use Rattle.iox_hub.specs.Keeping.{HaveSameShapes}
use Rattle.iox_port_commands.proofs.Lacking.{refused_for_want}
use Rattle.iox_port_commands.proofs.Shaping.{defaults_stay, shapes_after}
use Rattle.iox_port_commands.proofs.applying.apply.Goals as goal

pub returns-in-Err-clause-whole : goal.returns-in-Err-clause-whole
returns-in-Err-clause-whole g c =
    refused_for_want g.Q.Element.Words.words g.P.Element.Words.words (shown_by g.H.Backpressure.action) c.args.hub.now c.dispatch.new.hub c.args.command c.lacking.result
    (c.lacking.ensures ∙ ap (λ (b : Bool). Refused (if b then UnableToCreateDataSegment else WantOfMemory)) c.is_making-making.ensures)
    c.in-Err.ensures.wanting

pub returns-in-Ok-clause-shapes : goal.returns-in-Ok-clause-shapes
returns-in-Ok-clause-shapes g c =
    shapes_after g.Q.Element.Words.words g.P.Element.Words.words (shown_by g.H.Backpressure.action) c.args.hub.now c.dispatch.new.hub c.args.command c.dispatch.result
    c.dispatch.ensures.whole c.dispatch.ensures.wanting

pub returns-in-Err-clause-shapes : goal.returns-in-Err-clause-shapes
returns-in-Err-clause-shapes g c =
    shapes_after g.Q.Element.Words.words g.P.Element.Words.words (shown_by g.H.Backpressure.action) c.args.hub.now c.dispatch.new.hub c.args.command c.dispatch.result
    c.dispatch.ensures.whole c.dispatch.ensures.wanting

pub returns-in-Ok-clause-defaults : goal.returns-in-Ok-clause-defaults
returns-in-Ok-clause-defaults g c =
    let same : HaveSameShapes c.args.hub.now c.dispatch.new.hub =
    shapes_after g.Q.Element.Words.words g.P.Element.Words.words (shown_by g.H.Backpressure.action) c.args.hub.now c.dispatch.new.hub c.args.command c.dispatch.result
    c.dispatch.ensures.whole c.dispatch.ensures.wanting in
    defaults_stay c.args.hub.now c.dispatch.new.hub same c.requires

pub returns-in-Err-clause-defaults : goal.returns-in-Err-clause-defaults
returns-in-Err-clause-defaults g c =
    let same : HaveSameShapes c.args.hub.now c.dispatch.new.hub =
    shapes_after g.Q.Element.Words.words g.P.Element.Words.words (shown_by g.H.Backpressure.action) c.args.hub.now c.dispatch.new.hub c.args.command c.dispatch.result
    c.dispatch.ensures.whole c.dispatch.ensures.wanting in
    defaults_stay c.args.hub.now c.dispatch.new.hub same c.requires
