use Rattle.std.proofs.Common.{◌≡◌, ◌-◌, ◌≤◌, length}
use Rattle.iox_sets.specs.OwnedIndices.{held_count}
use Rattle.iox_sets.proofs.KeptLemmas.{RefusedBelow, SameOthers}
use Rattle.iox_sets.proofs.RecoveryLemmas.{LeadsTo}
use Rattle.iox_sets.proofs.mpmc.robust_unique_index_set.RobustUniqueIndexSet.recover.Given as goal

-- what is still to be recovered is what is left of all that is to be recovered
abbrev pub invariant-loop-next : goal.invariant-loop-next
invariant-loop-next g l = record {
  callable : goal.F-IsAlwaysCallable g l.f;
  leads : LeadsTo (goal.F-step g) l.owner l.fn.f l.fn.self.owners l.f l.self.owners l.next;
  fewer : held_count l.self ≤ held_count l.fn.self;
  refused : RefusedBelow (goal.F-step g) l.owner l.self.owners l.next;
  others : SameOthers l.owner l.fn.self.owners l.self.owners;
  size : length l.self.owners ≡ length l.fn.self.owners;
  lock : l.self.locked ≡ l.fn.self.locked;
}

abbrev pub decreases-loop-next : goal.decreases-loop-next
decreases-loop-next g l = length l.self.owners - l.next
