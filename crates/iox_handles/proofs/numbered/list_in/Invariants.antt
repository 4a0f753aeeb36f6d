use Rattle.std.proofs.Common.{◌≡◌, ◌≤◌, length, vec_capacity}
use Rattle.iox_handles.specs.Places.{handles_there}
use Rattle.iox_handles.proofs.NodeListLemmas.{ListedBelow}
use Rattle.iox_handles.proofs.numbered.list_in.Given as goal

-- the handles so far are listed, at most one for each place
abbrev pub invariant-loop-place : goal.invariant-loop-place
invariant-loop-place l = record {
  listed : ListedBelow l.node (handles_there l.places) l.list.items l.place;
  many : length l.list.items ≤ l.place;
  room : vec_capacity l.list ≡ vec_capacity l.fn.list;
  size : l.place-end ≡ length l.places;
}
