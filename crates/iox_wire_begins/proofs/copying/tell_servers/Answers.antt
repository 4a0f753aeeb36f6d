use Rattle.std.proofs.Common.{◌≡◌, ◌<◌, List, arith, ap, ap₂, sym, subst, ◌∙◌}
use Rattle.std.specs.Prelude.{get_or}
use Rattle.iox_model.specs.declared.kind.Role.TheVariants.{Client}
use Rattle.iox_wire_handle_calls.specs.Programs.{WireLayout}
use Rattle.iox_wire_handle_calls.specs.WirePlan.{WirePlan}
use Rattle.iox_wire_handle_calls.specs.Plans.{most_ways, number_at}
use Rattle.iox_wire_handle_calls.specs.Known.{free_lanes}
use Rattle.iox_wire_handle_calls.specs.Lendings.{first_lane}
use Rattle.iox_wire_handle_calls.specs.Target.{Target}
use Rattle.iox_wire_handle_calls.specs.Targets.{AreTargets, servers_of}
use Rattle.iox_wire_handle_calls.specs.Visits.{pool_of}
use Rattle.iox_wire_handle_calls.proofs.HeaderLemmas.{PortFacts, port_facts}
use Rattle.iox_wire_begins.proofs.TermLemmas.{has_lane, knows_servers, port_below, told_alike}
use Rattle.iox_wire_begins.proofs.RoomLemmas.{list_fits}
use Rattle.iox_wire_begins.proofs.copying.tell_servers.Goals as goal

pub list_targets-told-requires-clause-lane : goal.list_targets-told-requires-clause-lane
list_targets-told-requires-clause-lane c =
    let facts : PortFacts c.args.map.now c.args.client c.index-at.result.now = port_facts c.args.map.now c.args.client c.index-at.result.now c.plan-plan.ensures.plan (port_below c.args.map.now Client c.args.client c.requires.client)
    (c.index-at.ensures ∙ ap (λ (plan : WirePlan). get_or plan.ports.items c.args.client c.index-at.result.now) c.plan-plan.ensures.value) in
    let pool : c.index-at.result.now.pool ≡ pool_of c.args.map.now (number_at c.args.map.now c.args.client) = facts.pool in
    let test = c.if-lane-at.false in
    has_lane c.args.map.now c.plan-plan.ensures.plan c.args.client c.first_lane-lane.result c.requires.client (omega (arith, pool, test))

pub returns-then-lane-at-clause-knows : goal.returns-then-lane-at-clause-knows
returns-then-lane-at-clause-knows c p with low =
    let facts : PortFacts c.args.map.now c.args.client c.index-at.result.now = port_facts c.args.map.now c.args.client c.index-at.result.now c.plan-plan.ensures.plan (port_below c.args.map.now Client c.args.client c.requires.client)
    (c.index-at.ensures ∙ ap (λ (plan : WirePlan). get_or plan.ports.items c.args.client c.index-at.result.now) c.plan-plan.ensures.value) in
    let pool : c.index-at.result.now.pool ≡ pool_of c.args.map.now (number_at c.args.map.now c.args.client) = facts.pool in
    let lane : c.first_lane-lane.result ≡ first_lane (pool_of c.args.map.now (number_at c.args.map.now c.args.client)) (free_lanes c.args.seat.now.seat (number_at c.args.map.now c.args.client)) =
    c.first_lane-lane.ensures ∙ ap₂ (λ a b. first_lane a (free_lanes c.args.seat.now.seat b)) facts.pool facts.number in
    let below : first_lane (pool_of c.args.map.now (number_at c.args.map.now c.args.client)) (free_lanes c.args.seat.now.seat (number_at c.args.map.now c.args.client))
    < pool_of c.args.map.now (number_at c.args.map.now c.args.client) =
    subst (λ (l : WireLayout). first_lane (pool_of c.args.map.now (number_at c.args.map.now c.args.client)) (free_lanes c.args.seat.now.seat (number_at c.args.map.now c.args.client))
    < l.sizes.lanes (number_at c.args.map.now c.args.client)) with.setting.layout low in
    let test = c.if-lane-at.true in
    absurd (omega (arith, pool, lane, test, below))

pub returns-clause-knows : goal.returns-clause-knows
returns-clause-knows c p with low =
    let facts : PortFacts c.args.map.now c.args.client c.index-at.result.now = port_facts c.args.map.now c.args.client c.index-at.result.now c.plan-plan.ensures.plan (port_below c.args.map.now Client c.args.client c.requires.client)
    (c.index-at.ensures ∙ ap (λ (plan : WirePlan). get_or plan.ports.items c.args.client c.index-at.result.now) c.plan-plan.ensures.value) in
    let lane : c.first_lane-lane.result ≡ first_lane (pool_of c.args.map.now (number_at c.args.map.now c.args.client)) (free_lanes c.args.seat.now.seat (number_at c.args.map.now c.args.client)) =
    c.first_lane-lane.ensures ∙ ap₂ (λ a b. first_lane a (free_lanes c.args.seat.now.seat b)) facts.pool facts.number in
    knows_servers p c.args.seat.now.seat (number_at c.args.map.now c.args.client) (first_lane (pool_of c.args.map.now (number_at c.args.map.now c.args.client)) (free_lanes c.args.seat.now.seat (number_at c.args.map.now c.args.client)))
    c.prepare.new.self.sends c.list_targets-told.result c.deref.result.now c.prepare.ensures.terms c.prepare.ensures.targets
    (λ loan at. told_alike p loan c.request_terms-own.result c.list_targets-told.result c.list_targets-told.ensures.rest (c.request_terms-own.ensures p loan with at))
    (λ loan at on.
    subst (λ (ts : List Target). AreTargets p c.list_targets-told.result loan ts) (sym c.deref.ensures.value)
    (c.list_targets-told.ensures.targets p loan with.setting at (on ∙ sym lane)))
    (ap servers_of c.deref.ensures.value ∙ c.list_targets-told.ensures.servers p with.setting)

pub prepare-requires-clause-fits : goal.prepare-requires-clause-fits
prepare-requires-clause-fits c =
    list_fits c.deref.result.now c.list_targets-told.new.targets.items (most_ways c.args.map.now) c.args.copying.now.sends.room c.deref.ensures.value c.list_targets-told.ensures.few c.requires.room
