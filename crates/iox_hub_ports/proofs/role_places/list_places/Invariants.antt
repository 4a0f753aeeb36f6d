use Rattle.std.proofs.Common.{◌≡◌, length}
use Rattle.std.specs.Vec.{vec_capacity}
use Rattle.iox_hub_ports.proofs.Listing.{Lists}
use Rattle.iox_hub_ports.proofs.role_places.list_places.Given as goal

abbrev pub invariant-loop-place : goal.invariant-loop-place
invariant-loop-place l = record {
  lists : Lists l.role l.ports.items l.list.items l.place;
  size : length l.ports.items ≡ l.place-end;
  capacity : vec_capacity l.list ≡ vec_capacity l.initial.list;
}
