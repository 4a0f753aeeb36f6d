use Rattle.std.specs.Prelude.{vec_len}
use Rattle.std.proofs.Common.{◌≡◌, ◌≤◌, length, map, take, vec_capacity}
use Rattle.iox_wire_stops.specs.Waiting.{stop_of}
use Rattle.iox_wire_stops.proofs.waiting.list_queues.Given as goal

-- the sources so far
abbrev pub invariant-loop-index : goal.invariant-loop-index
invariant-loop-index l = record {
  stops : l.stops.items ≡ map stop_of (take l.index l.sources);
  few : vec_len l.stops ≤ l.index;
  list : vec_capacity l.stops ≡ vec_capacity l.fn.stops;
  below : l.index ≤ l.index-end;
  size : l.index-end ≡ length l.sources;
}
