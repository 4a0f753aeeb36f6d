use Rattle.std.proofs.Common.{◌≡◌, ◌<◌, ◌++◌, List, length, ap, sym, subst, ◌∙◌, arith}
use Rattle.iox_model.specs.declared.kind.Role.TheVariants.{Client, Server}
use Rattle.iox_steps.specs.declared.site.QueueKind.TheVariants.{Index}
use Rattle.std.proofs.lemmas.List.Sums.{sum_by-take-le}
use Rattle.iox_wire_ways.specs.Plans.{number_at, port_ways, returning_room}
use Rattle.iox_wire_ways.specs.Lenders.{AreReturning}
use Rattle.iox_wire_ways.specs.Aims.{QueuesInMemory}
use Rattle.iox_wire_ways.specs.Seats.{ways_of}
use Rattle.iox_wire_ways.specs.Stop.{Stop}
use Rattle.iox_wire_ways.specs.Visits.{is_other}
use Rattle.iox_wire_stops.specs.LaneReturns.{client_stops, stops_at}
use Rattle.iox_wire_stops.proofs.LaneReturnLemmas.{all_in_memory, all_return, all_return_ways, one_port_more}
use Rattle.iox_wire_ways.proofs.ReturnLemmas.{memory_with, returning_with}
use Rattle.iox_wire_stops.proofs.LaneCounts.{lanes_fit, lanes_more}
use Rattle.iox_wire_stops.proofs.lane_returns.list_response_returns.Goals as goal

pub returns-clause-ways : goal.returns-clause-ways
returns-clause-ways c p setting =
    let all : c.loop-index.index ≡ length c.args.map.now.ports.items =
    omega (arith, c.loop-index-test.false, c.loop-index.invariant.below, c.loop-index.invariant.size) in
    ap ways_of c.loop-index.invariant.stops
    ∙ all_return_ways c.args.map.now p c.args.seat.now.seat c.args.server c.loop-index.index (p.port (number_at c.args.map.now c.args.server)).node
    c.plan.ensures.plan setting all

pub returns-clause-places : goal.returns-clause-places
returns-clause-places c p setting =
    returning_with p (returning_room c.args.map.now.limits Server) c.loop-index.room c.loop-index.stops.items c.loop-index.invariant.room
    (subst (AreReturning p (returning_room c.args.map.now.limits Server)) (sym c.loop-index.invariant.stops)
    (all_return c.args.map.now c.plan.ensures.plan c.args.server c.requires.server p setting.layout c.args.seat.now.seat.forgot c.loop-index.index))

pub returns-clause-within : goal.returns-clause-within
returns-clause-within c =
    memory_with (returning_room c.args.map.now.limits Server) c.loop-index.room c.loop-index.stops.items c.loop-index.invariant.room
    (subst (QueuesInMemory Index (returning_room c.args.map.now.limits Server)) (sym c.loop-index.invariant.stops)
    (all_in_memory c.args.map.now c.plan.ensures.plan c.args.server c.requires.server c.total-total.result c.total-total.ensures c.total-total.type_inv
    c.args.seat.now.seat.forgot c.loop-index.index))

pub list_port-room-requires-clause-list : goal.list_port-room-requires-clause-list
list_port-room-requires-clause-list c =
    let many = c.loop-index.invariant.many in let same = c.loop-index.invariant.list in let asked = c.requires.list in
    let fit = lanes_fit c.args.map.now c.plan.ensures.plan c.loop-index.index (omega (arith, c.loop-index-test.true, c.loop-index.invariant.size)) in
    omega (arith, many, same, asked, fit)

pub loop-index-preserved : goal.loop-index-preserved
loop-index-preserved c =
    let low : c.loop-index.index < length c.args.map.now.ports.items = omega (arith, c.loop-index-test.true, c.loop-index.invariant.size) in
    record {
      stops = c.list_port-room.ensures.stops
          ∙ ap (λ (ss : List Stop). ss ++ stops_at c.args.map.now (is_other Client c.args.seat.now.seat.forgot) (client_stops c.args.map.now c.args.server) c.loop-index.index) c.loop-index.invariant.stops
          ∙ sym (one_port_more c.args.map.now (is_other Client c.args.seat.now.seat.forgot) (client_stops c.args.map.now c.args.server) c.loop-index.index);
      room = c.list_port-room.ensures.room c.loop-index.invariant.room;
      many =
          let more = c.list_port-room.ensures.many in let before = c.loop-index.invariant.many in
          let next = lanes_more c.args.map.now c.plan.ensures.plan c.loop-index.index low in
          omega (arith, more, before, next);
      list = c.list_port-room.ensures.list ∙ c.loop-index.invariant.list;
      below = omega (arith, c.loop-index-test.true);
      size = c.loop-index.invariant.size;
    }

pub returns-clause-few : goal.returns-clause-few
returns-clause-few c =
    let many = c.loop-index.invariant.many in let len = c.loop-index.stops.ok.0 in
    let all = sum_by-take-le port_ways c.args.map.now.ports.items c.loop-index.index in
    omega (arith, many, len, all)
