use Rattle.std.proofs.Common.{◌≡◌, length, refl, ap, sym, subst, ◌∙◌, arith}
use Rattle.iox_model.specs.declared.kind.Role.TheVariants.{Client, Server}
use Rattle.iox_model.specs.declared.way.Way.{Way}
use Rattle.iox_model.specs.Messages.{request_way}
use Rattle.iox_steps.specs.declared.site.QueueKind.TheVariants.{Index}
use Rattle.iox_wire_messages.specs.Plans.{number_at, returning_room}
use Rattle.std.specs.Prelude.{map}
use Rattle.iox_wire_copies.specs.Lenders.{AreReturning}
use Rattle.iox_wire_messages.specs.Stop.{Stop}
use Rattle.iox_wire_messages.specs.Aims.{QueuesInMemory}
use Rattle.iox_wire_messages.specs.Seats.{ways_of}
use Rattle.iox_wire_ways.specs.Visits.{is_other, returning_stop}
use Rattle.iox_wire_ways.proofs.ListLemmas.{all_ways, others_are}
use Rattle.iox_wire_ways.proofs.ReturnLemmas.{all_in_memory, all_return, memory_with, returning_with}
use Rattle.iox_wire_messages.proofs.WayCounts.{ports_fit}
use Rattle.iox_wire_ways.proofs.returns.list_request_returns.Goals as goal

pub returns-clause-ways : goal.returns-clause-ways
returns-clause-ways c p setting =
    let all : c.loop-index.index ≡ length c.args.map.now.ports.items =
    omega (arith, c.loop-index-test.false, c.loop-index.invariant.below, c.loop-index.invariant.size) in
    ap ways_of c.loop-index.invariant.stops
    ∙ all_ways Stop Way c.args.map.now c.plan.ensures.plan (is_other Server c.args.seat.now.seat.forgot) (returning_stop c.args.map.now c.args.client) (λ s. s.way)
    (request_way (number_at c.args.map.now c.args.client)) (λ i. refl) c.loop-index.index all
    ∙ ap (map (request_way (number_at c.args.map.now c.args.client))) (others_are c.args.map.now p c.args.seat.now.seat Server (p.port (number_at c.args.map.now c.args.client)).node setting)

pub returns-clause-places : goal.returns-clause-places
returns-clause-places c p setting =
    returning_with p (returning_room c.args.map.now.limits Client) c.loop-index.room c.loop-index.stops.items c.loop-index.invariant.room
    (subst (AreReturning p (returning_room c.args.map.now.limits Client)) (sym c.loop-index.invariant.stops)
    (all_return c.args.map.now p c.args.seat.now.seat.forgot c.args.client c.loop-index.index c.plan.ensures.plan setting.layout c.requires.client))

pub returns-clause-within : goal.returns-clause-within
returns-clause-within c =
    memory_with (returning_room c.args.map.now.limits Client) c.loop-index.room c.loop-index.stops.items c.loop-index.invariant.room
    (subst (QueuesInMemory Index (returning_room c.args.map.now.limits Client)) (sym c.loop-index.invariant.stops)
    (all_in_memory c.args.map.now c.args.seat.now.seat.forgot c.args.client c.loop-index.index c.total-total.result c.plan.ensures.plan c.requires.client c.total-total.ensures c.total-total.type_inv))

pub push_reserved-requires : goal.push_reserved-requires
push_reserved-requires c =
    let few = c.loop-index.invariant.few in let same = c.loop-index.invariant.list in let asked = c.requires.list in
    let low = c.loop-index-test.true in let size = c.loop-index.invariant.size in let fit = ports_fit c.args.map.now in
    omega (arith, few, same, asked, low, size, fit)

pub returns-clause-few : goal.returns-clause-few
returns-clause-few c =
    let few = c.loop-index.invariant.few in let below = c.loop-index.invariant.below in let size = c.loop-index.invariant.size in
    let fit = ports_fit c.args.map.now in let len = c.loop-index.stops.ok.0 in
    omega (arith, few, below, size, fit, len)
