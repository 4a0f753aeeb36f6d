use Rattle.std.proofs.Common.{subst}
use Rattle.iox_model.specs.declared.call.Call.TheVariants.{Release}
use Rattle.iox_model.specs.declared.reply.Reply.TheVariants.{Done}
use Rattle.iox_model.specs.WholeCalls.{IsWholeCall}
use Rattle.iox_hub.specs.Hubs.{HubState, state_of_hub}
use Rattle.iox_hub.specs.Keeping.{KeepsOthers}
use Rattle.iox_hub.proofs.Ahead.{none_before}
use Rattle.iox_hub.proofs.CleaningLemmas.{rest_is_left}
use Rattle.iox_hub.proofs.hub.Hub.release_next.Goals as goal

pub returns-clause-whole : goal.returns-clause-whole
returns-clause-whole g c x =
    subst (λ (h : HubState). IsWholeCall (state_of_hub x h) c.args.node (Release c.in_ok-value.value.number) Done (state_of_hub x c.release_value.new.self))
    c.first_value.ensures.unchanged (c.release_value.ensures.whole x)

pub returns-clause-keeps : goal.returns-clause-keeps
returns-clause-keeps g c =
    subst (λ (h : HubState). KeepsOthers h c.args.node c.in_ok-value.value.number c.release_value.new.self) c.first_value.ensures.unchanged
    c.release_value.ensures.keeps

pub returns-clause-rest : goal.returns-clause-rest
returns-clause-rest g c =
    rest_is_left c.args.self.now c.release_value.new.self c.args.node c.in_ok-value.value.number c.is_in_order.ensures.reached
    c.is_in_order.ensures.control.order c.in_ok-value.ensures.first (returns-clause-whole g c) (returns-clause-keeps g c)

pub returns-clause-before : goal.returns-clause-before
returns-clause-before g c =
    none_before c.args.self.now c.release_value.new.self c.args.node c.in_ok-value.value.number c.next_port-port.result c.is_in_order.ensures.reached
    c.is_in_order.ensures.control.order c.is_in_order-2.ensures.control.order (returns-clause-rest g c) c.release_value.ensures.gone (returns-clause-keeps g c)
    c.next_port-port.ensures
