use Rattle.iox_hub.specs.HandlerWords.{shown_by}
use Rattle.iox_port_commands.proofs.Lacking.{had_for}
use Rattle.iox_port_commands.proofs.Shaping.{defaults_stay, shapes_after}
use Rattle.iox_port_commands.proofs.applying.try_apply.Goals as goal

pub returns-clause-memory : goal.returns-clause-memory
returns-clause-memory g c =
    had_for g.Q.Element.Words.words g.P.Element.Words.words (shown_by g.H.Backpressure.action) c.args.hub.now c.dispatch.new.hub c.args.command c.dispatch.result
    c.dispatch.ensures.whole c.dispatch.ensures.memory

pub returns-clause-shapes : goal.returns-clause-shapes
returns-clause-shapes g c =
    shapes_after g.Q.Element.Words.words g.P.Element.Words.words (shown_by g.H.Backpressure.action) c.args.hub.now c.dispatch.new.hub c.args.command c.dispatch.result
    c.dispatch.ensures.whole c.dispatch.ensures.wanting

pub returns-clause-defaults : goal.returns-clause-defaults
returns-clause-defaults g c =
    defaults_stay c.args.hub.now c.dispatch.new.hub
    (shapes_after g.Q.Element.Words.words g.P.Element.Words.words (shown_by g.H.Backpressure.action) c.args.hub.now c.dispatch.new.hub c.args.command c.dispatch.result
    c.dispatch.ensures.whole c.dispatch.ensures.wanting) c.requires
