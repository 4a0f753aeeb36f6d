use Rattle.std.specs.Prelude.{vec_len}
use Rattle.std.proofs.Common.{◌≡◌, ◌≤◌, length, vec_capacity}
use Rattle.iox_wire_releases.specs.StatesOf.{state_stop}
use Rattle.iox_wire_ways.specs.Stop.{Stop}
use Rattle.iox_wire_stops.specs.OwnStates.{is_client_left}
use Rattle.iox_wire_ways.proofs.ListLemmas.{made_before}
use Rattle.iox_wire_stops.proofs.states.list_own_state.Given as goal

-- the states with the ports so far
abbrev pub invariant-loop-index : goal.invariant-loop-index
invariant-loop-index l = record {
  stops : l.stops.items ≡ made_before Stop l.map (is_client_left l.request.client l.seat.seat.forgot) (λ client. state_stop l.map client l.request.lane l.server) l.index;
  few : vec_len l.stops ≤ l.index;
  list : vec_capacity l.stops ≡ vec_capacity l.fn.stops;
  below : l.index ≤ l.index-end;
  size : l.index-end ≡ length l.map.ports.items;
}
