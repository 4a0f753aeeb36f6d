use Rattle.std.proofs.Common.{IsSome, sym, subst}
use Rattle.iox_sets.specs.OwnedIndices.{owner_of}
use Rattle.iox_sets.proofs.OwnedLemmas.{IsIndexed-freed}
use Rattle.iox_sets.proofs.mpmc.robust_unique_index_set.RobustUniqueIndexSet.free_index.Goals as goal

pub invariant_of-self : goal.invariant_of-self
invariant_of-self c =
    let held = subst (λ set. IsSome (owner_of set c.args.index)) (sym c.self.view_is) c.requires in
    rw (c.set.ensures.set) (IsIndexed-freed _ _ _ _ c.self.invariant c.args.index held)
