use Rattle.std.specs.Prelude.{vec_len}
use Rattle.std.proofs.Common.{◌≡◌, ◌≤◌, length, vec_capacity}
use Rattle.iox_wire_releases.proofs.StateLemmas.{stops_before}
use Rattle.iox_wire_releases.proofs.states.list_states.Given as goal

-- the states with the ports so far
abbrev pub invariant-loop-index : goal.invariant-loop-index
invariant-loop-index l = record {
  stops : l.stops.items ≡ stops_before l.map l.seat.seat.forgot l.client l.lane l.index;
  few : vec_len l.stops ≤ l.index;
  list : vec_capacity l.stops ≡ vec_capacity l.fn.stops;
  below : l.index ≤ l.index-end;
  size : l.index-end ≡ length l.map.ports.items;
}
