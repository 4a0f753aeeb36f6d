use Rattle.std.proofs.Common.{◌-◌, ℕ, Option, drop, length}
use Rattle.iox_sets.specs.OwnedIndices.{FindsFrom}
use Rattle.iox_sets.proofs.mpmc.robust_unique_index_set.RobustUniqueIndexSet.find.Given as goal

-- what is still to be found is what is to be found from the start
abbrev pub invariant-loop-next : goal.invariant-loop-next
invariant-loop-next g l = record {
  callable : goal.F-IsAlwaysCallable g l.f;
  finds : (found : Option ℕ) → FindsFrom (goal.F-step g) l.f l.next (drop l.next l.self.owners) found → FindsFrom (goal.F-step g) l.fn.f 0 l.fn.self.owners found;
}

abbrev pub decreases-loop-next : goal.decreases-loop-next
decreases-loop-next g l = length l.self.owners - l.next
