use Rattle.iox_port_commands.specs.HandlerWords.{shown_by}
use Rattle.std.specs.declared.alloc.Global.{Global}
use Rattle.std.proofs.Common.{subst}
use Rattle.iox_types.specs.declared.identifiers.system_id.UniqueSystemId.{UniqueSystemId}
use Rattle.iox_model.specs.declared.command.Command.TheVariants.{Port}
use Rattle.iox_nodes.specs.Memory.{MayFindNoMemory}
use Rattle.iox_nodes.specs.Shown.{service_of}
use Rattle.iox_nodes.proofs.Having.{may_not_with_memory, port_with_memory}
use Rattle.iox_nodes.proofs.Lacking.{port_lacks, tried_service}
use Rattle.iox_nodes.proofs.Running.{on_err}
use Rattle.iox_nodes.proofs.service.Service.try_port.Goals as goal

pub invariant_of-self : goal.invariant_of-self
invariant_of-self g c =
    tried_service g.Q.Element.Words.words g.P.Element.Words.words (shown_by g.H.Backpressure.action) c.self.inside.members c.self.inside.hub c.try_apply.new.hub
    c.in-Ok.id c.asker.result c.args.command c.put_id.new.command c.try_apply.result c.asker.ensures c.in-Ok.ensures.lives c.put_id.ensures
    c.try_apply.ensures.whole c.try_apply.ensures.unchanged c.try_apply.ensures.defaults c.self.invariant

pub invariant_of-self-in-Ok : goal.invariant_of-self-in-Ok
invariant_of-self-in-Ok g c =
    tried_service g.Q.Element.Words.words g.P.Element.Words.words (shown_by g.H.Backpressure.action) c.self.inside.members c.self.inside.hub c.try_apply.new.hub
    c.in-Ok.id c.asker.result c.args.command c.put_id.new.command c.try_apply.result c.asker.ensures c.in-Ok.ensures.lives c.put_id.ensures
    c.try_apply.ensures.whole c.try_apply.ensures.unchanged c.try_apply.ensures.defaults c.self.invariant

pub returns-in-Err-clause-answered : goal.returns-in-Err-clause-answered
returns-in-Err-clause-answered g c =
    rw (← c.self.view_is)
    (may_not_with_memory Global UniqueSystemId g.Q.Element.Words.words g.P.Element.Words.words (shown_by g.H.Backpressure.action) c.self.inside.members.members c.self.inside.hub
    c.asker.result c.args.command c.in-Err.refusal c.asker.ensures c.in-Err.ensures.refused)

pub returns-in_ok-try_apply-in-Ok-clause-answered : goal.returns-in_ok-try_apply-in-Ok-clause-answered
returns-in_ok-try_apply-in-Ok-clause-answered g c =
    rw (← c.self.view_is)
    (port_with_memory g.Q.Element.Words.words g.P.Element.Words.words (shown_by g.H.Backpressure.action) c.self.inside.members.members c.self.inside.hub c.try_apply.new.hub
    c.in-Ok.id c.asker.result c.args.command c.put_id.new.command c.in_ok-try_apply-in-Ok.field-0 c.reply_of.result c.asker.ensures c.in-Ok.ensures.lives
    c.put_id.ensures c.in_ok-try_apply-in-Ok.ensures.whole c.in_ok-try_apply-in-Ok.ensures.memory c.reply_of.ensures)

pub returns-in_err-try_apply-in-Ok-clause-wanting : goal.returns-in_err-try_apply-in-Ok-clause-wanting
returns-in_err-try_apply-in-Ok-clause-wanting g c =
    on_err _
    (subst
    (λ v. MayFindNoMemory {C = g.row.C.Denot} g.Q.Element.Words.words g.P.Element.Words.words (shown_by g.H.Backpressure.action) (service_of v) (Port c.args.command))
    c.self.view_is
    (port_lacks g.Q.Element.Words.words g.P.Element.Words.words (shown_by g.H.Backpressure.action) c.self.inside.members.members c.self.inside.hub c.try_apply.new.hub
    c.in-Ok.id c.asker.result c.args.command c.put_id.new.command c.asker.ensures c.in-Ok.ensures.lives c.put_id.ensures
    c.in_err-try_apply-in-Ok.ensures.wanting c.in_err-try_apply-in-Ok.ensures.takes c.in_err-try_apply-in-Ok.ensures.grows c.in_err-try_apply-in-Ok.ensures.unchanged))
