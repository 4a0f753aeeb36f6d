use Rattle.std.proofs.Common.{◌≡◌, ◌≤◌, ◌++◌, map}
use Rattle.std.specs.List.{range_with_len}
use Rattle.iox_model.specs.Messages.{response_way}
use Rattle.iox_wire_openings.proofs.ways.list_lanes.Given as goal

-- the lanes so far
abbrev pub invariant-loop-lane : goal.invariant-loop-lane
invariant-loop-lane l = record {
  ways : l.ways.items ≡ l.fn.ways.items ++ map (λ lane. response_way l.client.number lane l.server.number) (range_with_len 0 l.lane);
  below : l.lane ≤ l.lane-end;
  size : l.lane-end ≡ l.client.pool;
}
