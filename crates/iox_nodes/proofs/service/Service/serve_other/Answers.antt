use Rattle.iox_port_commands.specs.HandlerWords.{shown_by}
use Rattle.std.specs.Prelude.{ℕ}
use Rattle.std.specs.declared.alloc.Global.{Global}
use Rattle.std.specs.declared.vec.Vec.{Vec}
use Rattle.std.proofs.Common.{sym, ◌∙◌}
use Rattle.iox_nodes.specs.Shown.{service_of}
use Rattle.iox_nodes.proofs.Lacking.{refused_for_want}
use Rattle.iox_nodes.proofs.Wanting.{had_grows, had_wants, lacks_grows, lacks_wants}
use Rattle.iox_nodes.proofs.service.Service.serve_other.Goals as goal

pub returns-in-Some-clause-answered : goal.returns-in-Some-clause-answered
returns-in-Some-clause-answered g c =
    rw c.in-Err.ensures.unchanged
    (refused_for_want Global g.Q.Element.Words.words g.P.Element.Words.words (shown_by g.H.Backpressure.action) (service_of c.args.self.now) c.args.command c.in-Some.refusal
    (sym c.refusal_for_want-want.ensures ∙ c.in-Some.is) c.in-Err.ensures.wanting)

pub returns-in-Ok-clause-want : goal.returns-in-Ok-clause-want
returns-in-Ok-clause-want g c =
    had_wants g.Q.Element.Words.words g.P.Element.Words.words (shown_by g.H.Backpressure.action) (service_of c.args.self.now) (service_of c.try_serve.new.self)
    c.args.command c.in-Ok.reply c.in-Ok.ensures.answered

pub returns-in-Some-clause-want : goal.returns-in-Some-clause-want
returns-in-Some-clause-want g c =
    lacks_wants (Vec ℕ Global) g.Q.Element.Words.words g.P.Element.Words.words (shown_by g.H.Backpressure.action) (service_of c.args.self.now) c.args.command c.in-Some.refusal
    (sym c.refusal_for_want-want.ensures ∙ c.in-Some.is) c.in-Err.ensures.wanting

pub returns-in-Ok-clause-grows : goal.returns-in-Ok-clause-grows
returns-in-Ok-clause-grows g c =
    had_grows g.Q.Element.Words.words g.P.Element.Words.words (shown_by g.H.Backpressure.action) (service_of c.args.self.now) (service_of c.try_serve.new.self)
    c.args.command c.in-Ok.reply c.in-Ok.ensures.answered

pub returns-in-Some-clause-grows : goal.returns-in-Some-clause-grows
returns-in-Some-clause-grows g c =
    lacks_grows Global g.Q.Element.Words.words g.P.Element.Words.words (shown_by g.H.Backpressure.action) (service_of c.args.self.now) c.args.command c.in-Some.refusal
    c.in-Err.ensures.wanting
