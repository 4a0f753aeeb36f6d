use Rattle.std.proofs.Common.{◌≡◌, refl, ap, ◌∙◌, arith}
use Rattle.iox_model.specs.declared.kind.Role.TheVariants.{Server}
use Rattle.iox_steps.specs.declared.site.Site.{Site}
use Rattle.iox_word_map.specs.WordMaps.{MessageQueue, QueueWords, ReturningQueue, piece_place}
use Rattle.iox_wire_messages.specs.WirePlan.{WirePlan}
use Rattle.iox_wire_messages.specs.WayIndex.TheVariants.{Responses}
use Rattle.iox_wire_messages.specs.Plans.{planned_limit, sizes_of, way_at}
use Rattle.iox_wire_ways.specs.ResponseSources.{response_terms}
use Rattle.iox_wire_ways.proofs.PartLemmas.{terms_are}
use Rattle.iox_wire_ways.proofs.ResponseLemmas.{response_back, response_capacity, response_kind, response_room}
use Rattle.iox_wire_ways.proofs.responses.terms_with.Goals as goal

pub returns : goal.returns
returns c =
    let mb : c.message_queue-messages.result.base ≡ piece_place (sizes_of c.args.map.now) (QueueWords (MessageQueue (way_at c.args.map.now (Responses c.args.client c.args.server c.args.lane)))) = ap (λ (s : Site). s.base) c.message_queue-messages.ensures in
    let rb : c.returning_queue-returning.result.base ≡ piece_place (sizes_of c.args.map.now) (QueueWords (ReturningQueue (way_at c.args.map.now (Responses c.args.client c.args.server c.args.lane)))) = ap (λ (s : Site). s.base) c.returning_queue-returning.ensures in
    let back = response_back c.args.map.now c.plan.ensures.plan c.args.client c.args.server c.args.lane c.requires.0 c.requires.1 in
    terms_are (response_terms c.args.map.now c.args.fire_and_forget c.args.number) _ _ _ _ _ _ _
    (ap (λ (s : Site). s.kind) c.message_queue-messages.ensures ∙ response_kind c.args.map.now c.plan.ensures.plan c.args.client c.args.server c.args.lane c.requires.0 c.requires.1)
    (ap (λ (s : Site). s.capacity) c.message_queue-messages.ensures ∙ response_capacity c.args.map.now c.plan.ensures.plan c.args.client c.args.server c.args.lane c.requires.0 c.requires.1)
    (omega (arith, mb, rb, back))
    (ap (λ (s : Site). s.capacity) c.returning_queue-returning.ensures ∙ response_room c.args.map.now c.plan.ensures.plan c.args.client c.args.server c.args.lane c.requires.0 c.requires.1)
    refl refl
    (c.borrow_limit-limit.ensures ∙ ap (λ (plan : WirePlan). planned_limit plan.limits Server) c.plan.ensures.value)
