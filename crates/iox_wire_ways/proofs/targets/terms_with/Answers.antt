use Rattle.std.proofs.Common.{◌≡◌, refl, ap, ◌∙◌, arith}
use Rattle.iox_steps.specs.declared.site.Site.{Site}
use Rattle.iox_word_map.specs.WordMaps.{MessageQueue, QueueWords, ReturningQueue, piece_place}
use Rattle.iox_wire_messages.specs.WayIndex.TheVariants.{Requests, Responses}
use Rattle.iox_wire_messages.specs.Plans.{layout_of, sizes_of, way_at}
use Rattle.iox_wire_messages.specs.Programs.{state_place}
use Rattle.iox_wire_ways.specs.RequestTargets.{target_terms}
use Rattle.iox_wire_ways.proofs.TargetLemmas.{target_back, target_capacity, target_kind, target_room, target_state, terms_told}
use Rattle.iox_wire_ways.proofs.targets.terms_with.Goals as goal

pub overflow_sub-result-2 : goal.overflow_sub-result-2
overflow_sub-result-2 c =
    let a : c.message_queue-messages.result.base ≡ piece_place (sizes_of c.args.map.now) (QueueWords (MessageQueue (way_at c.args.map.now (Requests c.args.client c.args.server)))) = ap (λ (s : Site). s.base) c.message_queue-messages.ensures in
    let b : c.state-state.result ≡ state_place (layout_of c.args.map.now) (way_at c.args.map.now (Responses c.args.client c.args.server c.args.lane)) = c.state-state.ensures in
    let e = target_state c.args.map.now c.plan-plan.ensures.plan c.args.client c.args.server c.args.lane c.requires.0 c.requires.1 in
    omega (arith, a, b, e)

pub returns : goal.returns
returns c =
    let mb : c.message_queue-messages.result.base ≡ piece_place (sizes_of c.args.map.now) (QueueWords (MessageQueue (way_at c.args.map.now (Requests c.args.client c.args.server)))) = ap (λ (s : Site). s.base) c.message_queue-messages.ensures in
    let rb : c.returning_queue-returning.result.base ≡ piece_place (sizes_of c.args.map.now) (QueueWords (ReturningQueue (way_at c.args.map.now (Requests c.args.client c.args.server)))) = ap (λ (s : Site). s.base) c.returning_queue-returning.ensures in
    let st : c.state-state.result ≡ state_place (layout_of c.args.map.now) (way_at c.args.map.now (Responses c.args.client c.args.server c.args.lane)) = c.state-state.ensures in
    let back = target_back c.args.map.now c.plan-plan.ensures.plan c.args.client c.args.server c.args.lane c.requires.0 c.requires.1 in
    let state = target_state c.args.map.now c.plan-plan.ensures.plan c.args.client c.args.server c.args.lane c.requires.0 c.requires.1 in
    terms_told c.args.terms (target_terms c.args.map.now c.args.lane c.args.terms) _ _ _ _ _
    (ap (λ (s : Site). s.kind) c.message_queue-messages.ensures ∙ target_kind c.args.map.now c.plan-plan.ensures.plan c.args.client c.args.server c.args.lane c.requires.0 c.requires.1)
    (ap (λ (s : Site). s.capacity) c.message_queue-messages.ensures ∙ target_capacity c.args.map.now c.plan-plan.ensures.plan c.args.client c.args.server c.args.lane c.requires.0 c.requires.1)
    (omega (arith, mb, rb, back))
    (ap (λ (s : Site). s.capacity) c.returning_queue-returning.ensures ∙ target_room c.args.map.now c.plan-plan.ensures.plan c.args.client c.args.server c.args.lane c.requires.0 c.requires.1)
    (omega (arith, mb, st, state))
    refl
