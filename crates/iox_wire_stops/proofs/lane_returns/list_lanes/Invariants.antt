use Rattle.std.specs.Prelude.{vec_len}
use Rattle.std.proofs.Common.{◌≡◌, ◌≤◌, ◌<◌, ◌+◌, ◌++◌, length, vec_capacity}
use Rattle.iox_model.specs.declared.kind.Role.TheVariants.{Server}
use Rattle.iox_wire_ways.specs.Plans.{number_at, returning_room}
use Rattle.iox_wire_stops.specs.LaneReturns.{lane_stops}
use Rattle.iox_wire_ways.specs.Visits.{pool_of}
use Rattle.iox_wire_stops.proofs.lane_returns.list_lanes.Given as goal

-- the lanes so far
abbrev pub invariant-loop-lane : goal.invariant-loop-lane
invariant-loop-lane l = record {
  stops : l.stops.items ≡ l.fn.stops.items ++ lane_stops l.map l.server l.client l.lane;
  room : (0 < length l.fn.stops.items → l.fn.room ≡ returning_room l.map.limits Server) → 0 < length l.stops.items → l.told ≡ returning_room l.map.limits Server;
  many : vec_len l.stops ≡ vec_len l.fn.stops + l.lane;
  list : vec_capacity l.stops ≡ vec_capacity l.fn.stops;
  below : l.lane ≤ l.lane-end;
  size : l.lane-end ≡ pool_of l.map (number_at l.map l.client);
}
