use Rattle.std.proofs.Common.{◌≡◌, length}
use Rattle.iox_handles.specs.Places.{handles_there}
use Rattle.iox_handles.proofs.NodeListLemmas.{AreGone}
use Rattle.iox_handles.proofs.numbered.first_there.Given as goal

-- those before this one are gone
abbrev pub invariant-loop-at : goal.invariant-loop-at
invariant-loop-at l = record {
  gone : AreGone l.node (handles_there l.places) l.list l.from l.at;
  size : l.at-end ≡ length l.list;
}
