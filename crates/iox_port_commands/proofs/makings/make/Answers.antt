use Rattle.std.specs.Prelude.{IfOk, OnErr}
use Rattle.std.proofs.Common.{ap, subst}
use Rattle.iox_types.specs.declared.identifiers.system_id.UniqueSystemId.{UniqueSystemId}
use Rattle.iox_model.specs.Commands.{Create, HubCommand}
use Rattle.iox_hub.specs.HandlerWords.{shown_by}
use Rattle.iox_port_commands.specs.Applying.{IsReplied, LacksMemory}
use Rattle.iox_port_commands.specs.Asking.{options_for}
use Rattle.iox_port_commands.proofs.makings.make.Goals as goal

pub returns-clause-whole : goal.returns-clause-whole
returns-clause-whole g c =
    subst (λ (k : HubCommand). IfOk c.make_port.result (λ reply. IsReplied c.args.hub.now c.args.node k reply c.make_port.new.hub))
    (ap (λ (id : UniqueSystemId). Create c.args.role id (options_for (shown_by g.H.Backpressure.action) c.args.options)) c.system_id.ensures.same)
    c.make_port.ensures.whole

pub returns-clause-wanting : goal.returns-clause-wanting
returns-clause-wanting g c =
    subst (λ (k : HubCommand). OnErr c.make_port.result (LacksMemory c.args.hub.now c.args.node k c.make_port.new.hub))
    (ap (λ (id : UniqueSystemId). Create c.args.role id (options_for (shown_by g.H.Backpressure.action) c.args.options)) c.system_id.ensures.same)
    c.make_port.ensures.wanting
