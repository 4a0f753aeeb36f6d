use Rattle.iox_service_laws.specs.HandlerWords.{shown_by}
use Rattle.iox_openers.specs.Causes.{cause_of}
use Rattle.iox_service_laws.specs.Given.{command_given}
use Rattle.iox_service_laws.proofs.Leading.{if_ok}
use Rattle.iox_service_laws.specs.Shown.{service_of}
use Rattle.iceoryx2_wire.proofs.Comparing.{compared_grows, compared_wants}
use Rattle.iceoryx2_wire.proofs.service.Service.serve_compared.Goals as goal

pub returns-clause-answered : goal.returns-clause-answered
returns-clause-answered g c =
    rw (← c.self.view_is)
    (if_ok c.serve.result
    (λ reply answered. (
      command_given g.Q.Element.Words.words g.P.Element.Words.words (shown_by g.H.Backpressure.action) cause_of c.compared-command.result,
      c.compared-command.ensures.given g.Q.Element.Words.words g.P.Element.Words.words (shown_by g.H.Backpressure.action),
      answered cause_of,
    ))
    c.serve.ensures.answered)

pub returns-clause-want : goal.returns-clause-want
returns-clause-want g c =
    if_ok c.serve.result
    (λ reply wants.
    compared_wants g.Q.Element.Words.words g.P.Element.Words.words (shown_by g.H.Backpressure.action) c.self.inside.description c.args.command c.compared-command.result reply
    (c.compared-command.ensures.given g.Q.Element.Words.words g.P.Element.Words.words (shown_by g.H.Backpressure.action)) wants)
    c.serve.ensures.want

pub returns-clause-grows : goal.returns-clause-grows
returns-clause-grows g c =
    rw (← c.self.view_is)
    (if_ok c.serve.result
    (λ reply wants.
    compared_grows g.Q.Element.Words.words g.P.Element.Words.words (shown_by g.H.Backpressure.action) c.self.inside.description (service_of c.self.inside.nodes) c.args.command
    c.compared-command.result reply (c.compared-command.ensures.given g.Q.Element.Words.words g.P.Element.Words.words (shown_by g.H.Backpressure.action)) wants)
    c.serve.ensures.grows)
