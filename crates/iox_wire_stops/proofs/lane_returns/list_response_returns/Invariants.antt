use Rattle.std.specs.Prelude.{vec_len}
use Rattle.std.proofs.Common.{◌≡◌, ◌≤◌, ◌<◌, length, take, vec_capacity}
use Rattle.std.specs.List.{sum_by}
use Rattle.iox_model.specs.declared.kind.Role.TheVariants.{Client, Server}
use Rattle.iox_wire_ways.specs.Plans.{port_ways, returning_room}
use Rattle.iox_wire_stops.specs.LaneReturns.{client_stops}
use Rattle.iox_wire_ways.specs.Visits.{is_other}
use Rattle.iox_wire_stops.proofs.LaneReturnLemmas.{gathered_before}
use Rattle.iox_wire_stops.proofs.lane_returns.list_response_returns.Given as goal

-- the clients so far
abbrev pub invariant-loop-index : goal.invariant-loop-index
invariant-loop-index l = record {
  stops : l.stops.items ≡ gathered_before l.map (is_other Client l.seat.seat.forgot) (client_stops l.map l.server) l.index;
  room : 0 < length l.stops.items → l.room ≡ returning_room l.map.limits Server;
  many : vec_len l.stops ≤ sum_by port_ways (take l.index l.map.ports.items);
  list : vec_capacity l.stops ≡ vec_capacity l.fn.stops;
  below : l.index ≤ l.index-end;
  size : l.index-end ≡ length l.map.ports.items;
}
