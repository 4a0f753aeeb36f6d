use Rattle.iox_service_laws.specs.HandlerWords.{shown_by}
use Rattle.iox_openers.specs.Causes.{cause_of}
use Rattle.iox_service_laws.specs.Given.{command_given}
use Rattle.iox_service_laws.proofs.Leading.{if_ok}
use Rattle.iceoryx2_wire.proofs.Comparing.{if_err}
use Rattle.iceoryx2_wire.proofs.service.Service.try_serve.Goals as goal

pub returns-clause-answered : goal.returns-clause-answered
returns-clause-answered g c =
    rw (← c.self.view_is)
    (if_ok c.try_serve.result
    (λ reply answered. (
      command_given g.Q.Element.Words.words g.P.Element.Words.words (shown_by g.H.Backpressure.action) cause_of c.compared-command.result,
      c.compared-command.ensures.given g.Q.Element.Words.words g.P.Element.Words.words (shown_by g.H.Backpressure.action),
      answered cause_of,
    ))
    c.try_serve.ensures.answered)

pub returns-clause-wanting : goal.returns-clause-wanting
returns-clause-wanting g c =
    rw (← c.self.view_is)
    (if_err c.try_serve.result
    (λ wants. (
      command_given g.Q.Element.Words.words g.P.Element.Words.words (shown_by g.H.Backpressure.action) cause_of c.compared-command.result,
      c.compared-command.ensures.given g.Q.Element.Words.words g.P.Element.Words.words (shown_by g.H.Backpressure.action),
      wants cause_of,
    ))
    c.try_serve.ensures.wanting)
