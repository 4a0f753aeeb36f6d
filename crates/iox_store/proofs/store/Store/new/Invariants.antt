use Rattle.std.proofs.Common.{◌≡◌, replicate}
use Rattle.std.specs.Vec.{vec_capacity}
use Rattle.iox_store.specs.Stored.{unlent}
use Rattle.iox_store.proofs.store.Store.new.Given as goal

-- so many cells are made
abbrev pub invariant-loop : goal.invariant-loop
invariant-loop g l = record {
  made : l.cells.items ≡ replicate l.counter (unlent l.longest (g.H.Words.words l.user));
  room : vec_capacity l.cells ≡ l.count;
}
