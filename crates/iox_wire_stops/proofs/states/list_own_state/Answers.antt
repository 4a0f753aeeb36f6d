use Rattle.std.proofs.Common.{◌≡◌, ℕ, ◌==◌, length, map, refl, ap, subst, sym, ◌∙◌, arith}
use Rattle.std.specs.Prelude.{filter}
use Rattle.iox_model.specs.declared.kind.Role.TheVariants.{Client}
use Rattle.iox_model.specs.declared.way.Way.{Way}
use Rattle.iox_model.specs.Messages.{response_way}
use Rattle.iox_wire_ways.specs.Plans.{number_at}
use Rattle.iox_wire_releases.specs.StatesOf.{state_stop}
use Rattle.iox_wire_ways.specs.Stop.{Stop}
use Rattle.iox_wire_ways.specs.Aims.{AreStates}
use Rattle.iox_wire_ways.specs.Seats.{ways_of}
use Rattle.iox_wire_stops.specs.OwnStates.{is_client_left}
use Rattle.iox_wire_stops.proofs.OwnStateLemmas.{only_one, own_places}
use Rattle.iox_wire_ways.proofs.ListLemmas.{all_ways, others_are}
use Rattle.iox_wire_ways.proofs.WayCounts.{ports_fit}
use Rattle.iox_wire_stops.proofs.states.list_own_state.Goals as goal

pub returns-clause-ways : goal.returns-clause-ways
returns-clause-ways c p setting =
    let all : c.loop-index.index ≡ length c.args.map.now.ports.items =
    omega (arith, c.loop-index-test.false, c.loop-index.invariant.below, c.loop-index.invariant.size) in
    ap ways_of c.loop-index.invariant.stops
    ∙ all_ways Stop Way c.args.map.now c.plan.ensures.plan (is_client_left c.args.request.client c.args.seat.now.seat.forgot)
    (λ client. state_stop c.args.map.now client c.args.request.lane c.args.server) (λ s. s.way)
    (λ client. response_way client c.args.request.lane (number_at c.args.map.now c.args.server)) (λ i. refl) c.loop-index.index all
    ∙ ap (map (λ client. response_way client c.args.request.lane (number_at c.args.map.now c.args.server)))
    (only_one c.args.request.client c.args.seat.now.seat.forgot c.args.map.now.ports.items
    ∙ ap (filter (λ (n : ℕ). n == c.args.request.client)) (others_are c.args.map.now p c.args.seat.now.seat Client c.args.seat.now.seat.node setting))

pub returns-clause-places : goal.returns-clause-places
returns-clause-places c p setting =
    subst (AreStates p) (sym c.loop-index.invariant.stops)
    (own_places c.args.map.now p c.args.seat.now.seat.forgot c.args.request.client c.args.request.lane c.args.server c.loop-index.index setting.layout)

pub push_reserved-requires : goal.push_reserved-requires
push_reserved-requires c =
    let few = c.loop-index.invariant.few in let same = c.loop-index.invariant.list in let asked = c.requires.list in
    let low = c.loop-index-test.true in let size = c.loop-index.invariant.size in let fit = ports_fit c.args.map.now in
    omega (arith, few, same, asked, low, size, fit)

pub returns-clause-few : goal.returns-clause-few
returns-clause-few c =
    let few = c.loop-index.invariant.few in let below = c.loop-index.invariant.below in let size = c.loop-index.invariant.size in
    let fit = ports_fit c.args.map.now in let len = c.loop-index.stops.ok.0 in
    omega (arith, few, below, size, fit, len)
