use Rattle.std.proofs.Common.{◌≡◌, ◌*◌, ◌<◌, ◌^◌, ap, ◌∙◌, arith}
use Rattle.iox_model.specs.declared.kind.Role.TheVariants.{Client}
use Rattle.iox_steps.specs.declared.site.Site.{Site}
use Rattle.iox_word_map.specs.WordMaps.{MessageQueue, QueueWords, ReturningQueue, piece_place, total_words}
use Rattle.iox_wire_messages.specs.WirePlan.{WirePlan}
use Rattle.iox_wire_messages.specs.WayIndex.TheVariants.{Requests, Responses}
use Rattle.iox_wire_messages.specs.Plans.{layout_of, planned_limit, sizes_of, way_at}
use Rattle.iox_wire_messages.specs.Programs.{state_place}
use Rattle.iox_wire_ways.specs.RequestSources.{request_terms}
use Rattle.iox_wire_ways.proofs.PartLemmas.{terms_are}
use Rattle.iox_wire_ways.proofs.SourceLemmas.{told_back, told_capacity, told_kind, told_lane, told_room, told_state, told_within}
use Rattle.iox_wire_ways.proofs.sources.terms_with.Goals as goal

pub overflow_sub-result-2 : goal.overflow_sub-result-2
overflow_sub-result-2 c =
    let a : c.message_queue-messages.result.base ≡ piece_place (sizes_of c.args.map.now) (QueueWords (MessageQueue (way_at c.args.map.now (Requests c.args.client c.args.server)))) = ap (λ (s : Site). s.base) c.message_queue-messages.ensures in
    let b : c.state-state.result ≡ state_place (layout_of c.args.map.now) (way_at c.args.map.now (Responses c.args.client c.args.server 0)) = c.state-state.ensures in
    let e = told_state c.args.map.now c.plan.ensures.plan c.args.client c.args.server c.requires.way.0 c.requires.way.1 c.requires.lane.0 in
    omega (arith, a, b, e)

pub overflow_add-result : goal.overflow_add-result
overflow_add-result c =
    let b : c.state-state.result ≡ state_place (layout_of c.args.map.now) (way_at c.args.map.now (Responses c.args.client c.args.server 0)) = c.state-state.ensures in
    let e = told_within c.args.map.now c.plan.ensures.plan c.args.client c.args.server c.requires.way.0 c.requires.way.1 c.requires.lane.0 in
    let m : 2 * total_words (sizes_of c.args.map.now) < 2 ^ 64 = c.requires.known.memory in
    omega (arith, b, e, m)

pub returns : goal.returns
returns c =
    let mb : c.message_queue-messages.result.base ≡ piece_place (sizes_of c.args.map.now) (QueueWords (MessageQueue (way_at c.args.map.now (Requests c.args.client c.args.server)))) = ap (λ (s : Site). s.base) c.message_queue-messages.ensures in
    let rb : c.returning_queue-returning.result.base ≡ piece_place (sizes_of c.args.map.now) (QueueWords (ReturningQueue (way_at c.args.map.now (Requests c.args.client c.args.server)))) = ap (λ (s : Site). s.base) c.returning_queue-returning.ensures in
    let fb : c.message_queue-first.result.base ≡ piece_place (sizes_of c.args.map.now) (QueueWords (MessageQueue (way_at c.args.map.now (Responses c.args.client c.args.server 0)))) = ap (λ (s : Site). s.base) c.message_queue-first.ensures in
    let st : c.state-state.result ≡ state_place (layout_of c.args.map.now) (way_at c.args.map.now (Responses c.args.client c.args.server 0)) = c.state-state.ensures in
    let back = told_back c.args.map.now c.plan.ensures.plan c.args.client c.args.server c.requires.way.0 c.requires.way.1 c.requires.lane.0 in
    let state = told_state c.args.map.now c.plan.ensures.plan c.args.client c.args.server c.requires.way.0 c.requires.way.1 c.requires.lane.0 in
    let lane = told_lane c.args.map.now c.plan.ensures.plan c.args.client c.args.server c.requires.way.0 c.requires.way.1 c.requires.lane.0 in
    terms_are (request_terms c.args.map.now c.args.fire_and_forget c.args.number) _ _ _ _ _ _ _
    (ap (λ (s : Site). s.kind) c.message_queue-messages.ensures ∙ told_kind c.args.map.now c.plan.ensures.plan c.args.client c.args.server c.requires.way.0 c.requires.way.1 c.requires.lane.0)
    (ap (λ (s : Site). s.capacity) c.message_queue-messages.ensures ∙ told_capacity c.args.map.now c.plan.ensures.plan c.args.client c.args.server c.requires.way.0 c.requires.way.1 c.requires.lane.0)
    (omega (arith, mb, rb, back))
    (ap (λ (s : Site). s.capacity) c.returning_queue-returning.ensures ∙ told_room c.args.map.now c.plan.ensures.plan c.args.client c.args.server c.requires.way.0 c.requires.way.1 c.requires.lane.0)
    (omega (arith, mb, st, state))
    (omega (arith, fb, st, lane))
    (c.borrow_limit-limit.ensures ∙ ap (λ (plan : WirePlan). planned_limit plan.limits Client) c.plan.ensures.value)
