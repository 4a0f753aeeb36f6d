use Rattle.std.proofs.Common.{◌≡◌, ◌+◌, ◌++◌, [], List, ◌∷◌, get_or, refl, ap, sym, ◌∙◌, arith, append_assoc, append-nil}
use Rattle.iox_model.specs.declared.kind.Role.TheVariants.{Client}
use Rattle.iox_wire_ways.specs.WirePlan.{WirePlan}
use Rattle.iox_wire_ways.specs.Stop.{Stop}
use Rattle.iox_wire_stops.specs.LaneReturns.{lane_stops}
use Rattle.iox_wire_stops.proofs.LaneReturnLemmas.{lane_below, one_lane_more}
use Rattle.iox_wire_ways.proofs.HeaderLemmas.{PortFacts, index_of_port, port_facts}
use Rattle.iox_wire_stops.proofs.lane_returns.list_lanes.Goals as goal

pub loop-lane-init : goal.loop-lane-init
loop-lane-init c =
    let facts : PortFacts c.args.map.now c.args.client c.index.result.now =
    port_facts c.args.map.now c.args.client c.index.result.now c.plan.ensures.plan (index_of_port c.args.map.now Client c.args.client c.requires.client)
    (c.index.ensures ∙ ap (λ (plan : WirePlan). get_or plan.ports.items c.args.client c.index.result.now) c.plan.ensures.value) in
    record {
      stops = sym (append-nil c.args.stops.now.items);
      room = λ told. told;
      many = omega arith;
      list = refl;
      below = omega arith;
      size = facts.pool;
    }

pub return_on-back-requires : goal.return_on-back-requires
return_on-back-requires c = (
  lane_below c.args.map.now c.plan.ensures.plan c.args.client c.loop-lane.lane c.requires.client
      (omega (arith, c.loop-lane-test.true, c.loop-lane.invariant.size)),
  c.requires.server,
)

pub loop-lane-preserved : goal.loop-lane-preserved
loop-lane-preserved c = record {
  stops = c.push_reserved.ensures.items
      ∙ ap (λ (stops : List Stop). stops ++ c.return_on-back.result.stop ∷ []) c.loop-lane.invariant.stops
      ∙ append_assoc c.args.stops.now.items (lane_stops c.args.map.now c.args.server c.args.client c.loop-lane.lane) (c.return_on-back.result.stop ∷ [])
      ∙ ap (λ (s : Stop). c.args.stops.now.items ++ (lane_stops c.args.map.now c.args.server c.args.client c.loop-lane.lane ++ s ∷ [])) c.return_on-back.ensures.stop
      ∙ ap (λ (stops : List Stop). c.args.stops.now.items ++ stops) (sym (one_lane_more c.args.map.now c.args.server c.args.client c.loop-lane.lane));
  room = λ told some. c.return_on-back.ensures.room;
  many = let more = c.push_reserved.ensures.len in let before = c.loop-lane.invariant.many in omega (arith, more, before);
  list = c.push_reserved.ensures.capacity ∙ c.loop-lane.invariant.list;
  below = omega (arith, c.loop-lane-test.true);
  size = c.loop-lane.invariant.size;
}

pub push_reserved-requires : goal.push_reserved-requires
push_reserved-requires c =
    let many = c.loop-lane.invariant.many in let same = c.loop-lane.invariant.list in let asked = c.requires.list in
    let low = c.loop-lane-test.true in let size = c.loop-lane.invariant.size in
    omega (arith, many, same, asked, low, size)
