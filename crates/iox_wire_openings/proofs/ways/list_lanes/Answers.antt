use Rattle.std.proofs.Common.{◌++◌, [], List, ◌∷◌, map, ap, sym, ◌∙◌, arith, append_assoc}
use Rattle.std.specs.List.{range_with_len}
use Rattle.iox_model.specs.declared.way.Way.{Way}
use Rattle.iox_model.specs.Messages.{response_way}
use Rattle.iox_wire_openings.proofs.OpenedLemmas.{lane_more}
use Rattle.iox_wire_openings.proofs.ways.list_lanes.Goals as goal

pub loop-lane-preserved : goal.loop-lane-preserved
loop-lane-preserved c = record {
  ways = c.in_ok-push.ensures.items
      ∙ ap (λ (ws : List Way). ws ++ response_way c.args.client.number c.loop-lane.lane c.args.server.number ∷ []) c.loop-lane.invariant.ways
      ∙ append_assoc c.args.ways.now.items (map (λ lane. response_way c.args.client.number lane c.args.server.number) (range_with_len 0 c.loop-lane.lane))
      (response_way c.args.client.number c.loop-lane.lane c.args.server.number ∷ [])
      ∙ ap (λ (ws : List Way). c.args.ways.now.items ++ ws) (sym (lane_more c.args.server c.args.client c.loop-lane.lane));
  below = omega (arith, c.loop-lane-test.true);
  size = c.loop-lane.invariant.size;
}
