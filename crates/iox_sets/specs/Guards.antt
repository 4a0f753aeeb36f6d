-- What a set of indices is at the end of a borrow by the guard of an index.
use Rattle.std.specs.Prelude.{◌≡◌, ℕ, Result}
use Rattle.std.specs.Borrow.{Fml, MutBor, RattleType, RestsIfErr}
use Rattle.iox_sets.specs.IndexSets.{IndexSet}
use Rattle.iox_sets.specs.declared.mpmc.unique_index_set.unique_index.UniqueIndex.{UniqueIndex}
use Rattle.iox_sets.specs.declared.mpmc.unique_index_set.fixed_size_unique_index.FixedSizeUniqueIndex.{FixedSizeUniqueIndex}
use Rattle.iox_sets.specs.contracts.mpmc.unique_index_set.UniqueIndexSet as indices
use Rattle.iox_sets.specs.contracts.mpmc.unique_index_set.fixed_size.FixedSizeUniqueIndexSet as fixed

-- at its end the set is as the guard leaves it, and unchanged where no index was taken
abbrev pub ends_with_guard : {E : Type 0} → MutBor IndexSet → Result UniqueIndex E → Fml
ends_with_guard set taken =
    RestsIfErr indices.the_row set (λ guard. guard.set.ghost_name) taken (λ last. last ≡ set.now)

-- the same for a set of fixed capacity
abbrev pub ends_with_fixed_guard : {E : Type 0} {n : ℕ} → RattleType → MutBor IndexSet → Result (FixedSizeUniqueIndex n) E → Fml
ends_with_fixed_guard capacity set taken =
    RestsIfErr (fixed.the_row capacity) set (λ guard. guard.set.ghost_name) taken (λ last. last ≡ set.now)
