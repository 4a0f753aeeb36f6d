use Rattle.iox_port_commands.specs.HandlerWords.{shown_by}
use Rattle.std.proofs.Common.{refl, subst, sym}
use Rattle.iox_model.specs.declared.command.Command.TheVariants as commands
use Rattle.iox_nodes.specs.Memory.{MayFindNoMemory}
use Rattle.iox_nodes.specs.Shown.{service_of}
use Rattle.iox_nodes.proofs.Having.{join_with_memory, own_with_memory}
use Rattle.iox_nodes.proofs.Running.{on_err}
use Rattle.iox_nodes.proofs.Telling.{done_answered}
use Rattle.iox_nodes.proofs.service.Service.try_serve.Goals as goal

pub returns-in_ok-try_join-in-Join-clause-answered : goal.returns-in_ok-try_join-in-Join-clause-answered
returns-in_ok-try_join-in-Join-clause-answered g c =
    join_with_memory g.Q.Element.Words.words g.P.Element.Words.words (shown_by g.H.Backpressure.action) (service_of c.args.self.now) (service_of c.try_join.new.self)
    c.args.command c.in-Join.id c.in-Join.asked c.in_ok-try_join-in-Join.field-0 c.joined.result c.in-Join.is c.joined.ensures c.in_ok-try_join-in-Join.ensures.joined
    c.in_ok-try_join-in-Join.ensures.memory

pub returns-in_err-try_join-in-Join-clause-wanting : goal.returns-in_err-try_join-in-Join-clause-wanting
returns-in_err-try_join-in-Join-clause-wanting g c =
    on_err _
    (subst (λ k. MayFindNoMemory g.Q.Element.Words.words g.P.Element.Words.words (shown_by g.H.Backpressure.action) (service_of c.args.self.now) k) (sym c.in-Join.is)
    c.in_err-try_join-in-Join.ensures.wanting)

pub returns-in-Leave-clause-answered : goal.returns-in-Leave-clause-answered
returns-in-Leave-clause-answered g c =
    own_with_memory g.Q.Element.Words.words g.P.Element.Words.words (shown_by g.H.Backpressure.action) (service_of c.args.self.now) (service_of c.leave.new.self)
    c.args.command (commands.Leave c.in-Leave.node) c.done.result c.in-Leave.is (λ cause. tt)
    (done_answered g.Q.Element.Words.words g.P.Element.Words.words (shown_by g.H.Backpressure.action) (service_of c.args.self.now) (service_of c.leave.new.self)
    c.args.command (commands.Leave c.in-Leave.node) (commands.Leave c.in-Leave.node) c.leave.result c.done.result c.in-Leave.is (λ cause. refl)
    c.done.ensures c.leave.ensures.done)

pub returns-in-DeclareDead-clause-answered : goal.returns-in-DeclareDead-clause-answered
returns-in-DeclareDead-clause-answered g c =
    own_with_memory g.Q.Element.Words.words g.P.Element.Words.words (shown_by g.H.Backpressure.action) (service_of c.args.self.now) (service_of c.declare_dead.new.self)
    c.args.command (commands.DeclareDead c.in-DeclareDead.node) c.done-in-DeclareDead.result c.in-DeclareDead.is (λ cause. tt)
    (done_answered g.Q.Element.Words.words g.P.Element.Words.words (shown_by g.H.Backpressure.action) (service_of c.args.self.now) (service_of c.declare_dead.new.self)
    c.args.command (commands.DeclareDead c.in-DeclareDead.node) (commands.DeclareDead c.in-DeclareDead.node) c.declare_dead.result
    c.done-in-DeclareDead.result c.in-DeclareDead.is (λ cause. refl) c.done-in-DeclareDead.ensures c.declare_dead.ensures.done)

pub returns-in-Cleanup-clause-answered : goal.returns-in-Cleanup-clause-answered
returns-in-Cleanup-clause-answered g c =
    own_with_memory g.Q.Element.Words.words g.P.Element.Words.words (shown_by g.H.Backpressure.action) (service_of c.args.self.now) (service_of c.cleanup.new.self)
    c.args.command (commands.Cleanup c.in-Cleanup.node) c.done-in-Cleanup.result c.in-Cleanup.is (λ cause. tt)
    (done_answered g.Q.Element.Words.words g.P.Element.Words.words (shown_by g.H.Backpressure.action) (service_of c.args.self.now) (service_of c.cleanup.new.self)
    c.args.command (commands.Cleanup c.in-Cleanup.node) (commands.Cleanup c.in-Cleanup.node) c.cleanup.result c.done-in-Cleanup.result c.in-Cleanup.is
    (λ cause. refl) c.done-in-Cleanup.ensures c.cleanup.ensures.done)

pub returns-in-Port-clause-wanting : goal.returns-in-Port-clause-wanting
returns-in-Port-clause-wanting g c = rw c.in-Port.is c.try_port.ensures.wanting
