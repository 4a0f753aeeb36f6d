use Rattle.std.proofs.Common.{◌≡◌, length}
use Rattle.std.specs.Vec.{vec_capacity}
use Rattle.iox_hub_ports.proofs.role_places.tell_ranks.Given as goal

abbrev pub invariant-loop-rank : goal.invariant-loop-rank
invariant-loop-rank l = record {
  ports : l.ports.items ≡ l.initial.ports.items;
  capacity : vec_capacity l.ports ≡ vec_capacity l.initial.ports;
  size : length l.places.items ≡ l.rank-end;
}
