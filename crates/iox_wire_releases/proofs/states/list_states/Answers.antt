use Rattle.std.proofs.Common.{◌≡◌, length, ap, subst, sym, ◌∙◌, arith}
use Rattle.iox_wire_seats.specs.Aims.{AreStates}
use Rattle.iox_wire_seats.specs.Seats.{ways_of}
use Rattle.iox_wire_releases.proofs.StateLemmas.{all_places, all_ways}
use Rattle.iox_word_places.proofs.WayCounts.{ports_fit}
use Rattle.iox_wire_releases.proofs.states.list_states.Goals as goal

pub returns-clause-ways : goal.returns-clause-ways
returns-clause-ways c p setting =
    let all : c.loop-index.index ≡ length c.args.map.now.ports.items =
    omega (arith, c.loop-index-test.false, c.loop-index.invariant.below, c.loop-index.invariant.size) in
    ap ways_of c.loop-index.invariant.stops
    ∙ all_ways c.args.map.now p c.args.seat.now.seat c.args.client c.args.lane c.loop-index.index c.plan.ensures.plan setting all

pub returns-clause-places : goal.returns-clause-places
returns-clause-places c p setting =
    subst (AreStates p) (sym c.loop-index.invariant.stops)
    (all_places c.args.map.now p c.args.seat.now.seat.forgot c.args.client c.args.lane c.loop-index.index setting.layout)

pub push_reserved-requires : goal.push_reserved-requires
push_reserved-requires c =
    let few = c.loop-index.invariant.few in let same = c.loop-index.invariant.list in let asked = c.requires.list in
    let low = c.loop-index-test.true in let size = c.loop-index.invariant.size in let fit = ports_fit c.args.map.now in
    omega (arith, few, same, asked, low, size, fit)

pub returns-clause-few : goal.returns-clause-few
returns-clause-few c =
    let few = c.loop-index.invariant.few in let below = c.loop-index.invariant.below in let size = c.loop-index.invariant.size in
    let fit = ports_fit c.args.map.now in let len = c.loop-index.stops.ok.0 in
    omega (arith, few, below, size, fit, len)
