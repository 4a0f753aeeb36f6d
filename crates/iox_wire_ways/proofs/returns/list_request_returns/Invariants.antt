use Rattle.std.specs.Prelude.{vec_len}
use Rattle.std.proofs.Common.{◌≡◌, ◌≤◌, ◌<◌, length, vec_capacity}
use Rattle.iox_model.specs.declared.kind.Role.TheVariants.{Client, Server}
use Rattle.iox_wire_messages.specs.Plans.{returning_room}
use Rattle.iox_wire_messages.specs.Stop.{Stop}
use Rattle.iox_wire_ways.specs.Visits.{is_other, returning_stop}
use Rattle.iox_wire_ways.proofs.ListLemmas.{made_before}
use Rattle.iox_wire_ways.proofs.returns.list_request_returns.Given as goal

-- the ways from the ports so far
abbrev pub invariant-loop-index : goal.invariant-loop-index
invariant-loop-index l = record {
  stops : l.stops.items ≡ made_before Stop l.map (is_other Server l.seat.seat.forgot) (returning_stop l.map l.client) l.index;
  room : 0 < length l.stops.items → l.room ≡ returning_room l.map.limits Client;
  few : vec_len l.stops ≤ l.index;
  list : vec_capacity l.stops ≡ vec_capacity l.fn.stops;
  below : l.index ≤ l.index-end;
  size : l.index-end ≡ length l.map.ports.items;
}
