-- A set of indices with their owners, as its callers see it.
use Rattle.std.specs.Prelude.{◌≡◌, ◌≢◌, ◌+◌, ◌==◌, ℕ, List, [], ◌∷◌, Bool, true, false, Option, Some, None, ◌⊎◌, count_by}
use Rattle.std.specs.Prelude.{if◌then◌else◌, is_none, is_some, map, nat_lt, replicate, slice_index_or, slice_set}
use Rattle.iox_sets.specs.declared.mpmc.unique_index_set_enums.ReleaseMode.{ReleaseMode}
use Rattle.iox_sets.specs.declared.mpmc.unique_index_set_enums.ReleaseState.{ReleaseState}
use Rattle.iox_sets.specs.declared.mpmc.unique_index_set_enums.ReleaseState.TheVariants.{Locked, Unlocked}
use Rattle.iox_sets.specs.declared.mpmc.unique_index_set_enums.UniqueIndexSetAcquireFailure.{UniqueIndexSetAcquireFailure}
use Rattle.iox_sets.specs.declared.mpmc.unique_index_set_enums.UniqueIndexSetAcquireFailure.TheVariants.{OutOfIndices, IsLocked}
use Rattle.iox_sets.specs.BitSets.{lowest, set_bits}
use Rattle.iox_sets.specs.Calls.{Accepts}
use Rattle.iox_sets.specs.IndexSets.{state_after}

-- a set of indices with the owner of each held index, and whether it is locked
pub record OwnedIndices : Type 0 where
  -- for each index from 0 on its owner, if it is held
  pub owners : List (Option ℕ)
  -- whether it is locked: a locked set gives no more indices
  pub locked : Bool

-- all indices are free
abbrev pub new_owned_indices : ℕ → OwnedIndices
new_owned_indices capacity = record { owners = replicate capacity None; locked = false }

-- the owner of an index, if it is held
abbrev pub owner_of : OwnedIndices → ℕ → Option ℕ
owner_of set index = slice_index_or set.owners index None

-- how many indices are held
abbrev pub held_count : OwnedIndices → ℕ
held_count set = count_by is_some set.owners

-- the lowest free index, if any is free
abbrev pub lowest_free : OwnedIndices → Option ℕ
lowest_free set = lowest (map is_none set.owners)

-- why no index is taken
abbrev pub acquire_refusal : OwnedIndices → Option UniqueIndexSetAcquireFailure
acquire_refusal set =
    if set.locked then Some IsLocked
    else if is_none (lowest_free set) then Some OutOfIndices
    else None

-- the set once an index has this owner, or none; the others are unchanged
abbrev pub with_owner : OwnedIndices → ℕ → Option ℕ → OwnedIndices
with_owner set index owner = record set { owners = slice_set set.owners index owner }

-- From old, an index is taken for an owner, which leaves new.
pub record TakesFor (owner : ℕ) (old : OwnedIndices) (index : ℕ) (new : OwnedIndices) : Type 0 where
  -- the set was not locked
  pub unlocked : old.locked ≡ false
  -- it was the lowest free index
  pub free : lowest_free old ≡ Some index
  -- it has that owner now
  pub held : owner_of new index ≡ Some owner
  -- and nothing else changed
  pub left : new ≡ with_owner old index (Some owner)

-- The closure is asked about the owners of the held indices, ascending from `index` on, until it says yes.
abbrev pub FindsFrom : {F : Type 0} → (F → ℕ → Bool → F → Type 0) → F
    → ℕ → List (Option ℕ) → Option ℕ → Type 0
FindsFrom step f index [] found = found ≡ None
FindsFrom step f index (None ∷ owners) found = FindsFrom step f (index + 1) owners found
FindsFrom {F} step f index (Some owner ∷ owners) found =
    ((after : F) × step f owner true after × (found ≡ Some index))
    ⊎ ((after : F) × step f owner false after × FindsFrom step after (index + 1) owners found)

-- the closure said yes to the owner of an index
abbrev pub IsAccepted : {F : Type 0} → (F → ℕ → Bool → F → Type 0) → OwnedIndices → ℕ → Type 0
IsAccepted {F} step set index =
    (owner : ℕ) × (owner_of set index ≡ Some owner)
    × (before : F) × (after : F) × step before owner true after

-- whether an index is held by this owner
abbrev pub is_owned_by : ℕ → Option ℕ → Bool
is_owned_by owner None = false
is_owned_by owner (Some other) = other == owner

-- the indices of an owner, ascending
abbrev pub indices_of : ℕ → OwnedIndices → List ℕ
indices_of owner set = set_bits (map (is_owned_by owner) set.owners)

-- the owners once these indices are free
abbrev pub without : List ℕ → List (Option ℕ) → List (Option ℕ)
without [] owners = owners
without (index ∷ indices) owners = without indices (slice_set owners index None)

-- From old, those indices of an owner are freed that the closure accepts, which leaves the owners of new.
abbrev pub Recovers : {F : Type 0} → (F → ℕ → Bool → F → Type 0) → F
    → ℕ → OwnedIndices → OwnedIndices → Type 0
Recovers step f owner old new =
    (accepted : List ℕ) × Accepts step f (indices_of owner old) accepted
    × (new.owners ≡ without accepted old.owners)

-- the closure said no to each index that an owner still holds
abbrev pub KeepsRefused : {F : Type 0} → (F → ℕ → Bool → F → Type 0) → ℕ → OwnedIndices → Type 0
KeepsRefused {F} step owner set =
    (index : ℕ) → owner_of set index ≡ Some owner
    → (before : F) × (after : F) × step before index false after

-- From old to new, each index that is free or has another owner is unchanged.
abbrev pub KeepsOthers : ℕ → OwnedIndices → OwnedIndices → Type 0
KeepsOthers owner old new =
    (index : ℕ) → owner_of old index ≢ Some owner → owner_of new index ≡ owner_of old index

-- what a recovery answers: it locks the set only if it freed an index, and a locked set stays
-- locked
abbrev pub state_after_recovery : ReleaseMode → OwnedIndices → ℕ → ReleaseState
state_after_recovery mode old held =
    if nat_lt held (held_count old) then state_after mode held
    else if old.locked then Locked
    else Unlocked
