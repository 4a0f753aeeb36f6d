use Rattle.std.proofs.Common.{get_or, ap, sym, subst, ◌∙◌}
use Rattle.iox_model.specs.declared.kind.Role.TheVariants.{Server}
use Rattle.iox_wire_messages.specs.PlanPort.{PlanPort}
use Rattle.iox_wire_messages.specs.WirePlan.{WirePlan}
use Rattle.iox_wire_messages.specs.WayIndex.TheVariants.{Responses}
use Rattle.iox_wire_messages.specs.Plans.{planned_overflow}
use Rattle.iox_wire_messages.specs.Aims.{IsInMemory}
use Rattle.iox_wire_messages.proofs.BeginLemmas.{queue_in_memory}
use Rattle.iox_wire_ways.proofs.ResponseTermLemmas.{told_is}
use Rattle.iox_wire_ways.proofs.response_terms.terms_of_response.Goals as goal

pub returns-clause-told : goal.returns-clause-told
returns-clause-told c p loan setting way fails =
    told_is c.args.map.now c.args.client c.args.server c.args.lane c.index.result.now _ c.plan-plan.ensures.plan c.requires.0 c.requires.1
    c.message_queue-messages.ensures c.returning_queue-returning.ensures c.state-state.ensures
    (ap (λ (plan : WirePlan). planned_overflow plan.limits Server) c.plan-plan.ensures.value)
    (ap (λ (q : PlanPort). q.node) c.index.ensures ∙ ap (λ (plan : WirePlan). (get_or plan.ports.items c.args.client c.index.result.now).node) c.plan-plan.ensures.value)
    p loan setting way fails

pub returns-clause-messages : goal.returns-clause-messages
returns-clause-messages c =
    subst IsInMemory (sym c.message_queue-messages.ensures)
    (queue_in_memory c.args.map.now (Responses c.args.client c.args.server c.args.lane) c.total-total.result c.plan-plan.ensures.plan c.requires c.total-total.ensures c.total-total.type_inv).0

pub returns-clause-returning : goal.returns-clause-returning
returns-clause-returning c =
    subst IsInMemory (sym c.returning_queue-returning.ensures)
    (queue_in_memory c.args.map.now (Responses c.args.client c.args.server c.args.lane) c.total-total.result c.plan-plan.ensures.plan c.requires c.total-total.ensures c.total-total.type_inv).1
