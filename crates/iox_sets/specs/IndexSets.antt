-- A set of indices, as its callers see it: the free ones in the order in which they are taken.
use Rattle.std.specs.Prelude.{◌≡◌, ◌-◌, ◌^◌, ◌<◌, ◌==◌, ℕ, zero, suc, List, ◌∷◌, Bool, true, false, Option, Some}
use Rattle.std.specs.Prelude.{None, Contains, drop, if◌then◌else◌, length, nat_lt}
use Rattle.std.specs.List.{range_with_len}
use Rattle.iox_sets.specs.declared.mpmc.unique_index_set_enums.ReleaseMode.{ReleaseMode}
use Rattle.iox_sets.specs.declared.mpmc.unique_index_set_enums.ReleaseMode.TheVariants.{LockIfLastIndex, Default}
use Rattle.iox_sets.specs.declared.mpmc.unique_index_set_enums.ReleaseState.{ReleaseState}
use Rattle.iox_sets.specs.declared.mpmc.unique_index_set_enums.ReleaseState.TheVariants.{Locked, Unlocked}
use Rattle.iox_sets.specs.declared.mpmc.unique_index_set_enums.UniqueIndexSetAcquireFailure.{UniqueIndexSetAcquireFailure}
use Rattle.iox_sets.specs.declared.mpmc.unique_index_set_enums.UniqueIndexSetAcquireFailure.TheVariants.{OutOfIndices, IsLocked}
use Rattle.iox_sets.specs.declared.mpmc.unique_index_set_enums.UniqueIndexSetNewError.{UniqueIndexSetNewError}
use Rattle.iox_sets.specs.declared.mpmc.unique_index_set_enums.UniqueIndexSetNewError.TheVariants.{CapacityIsZero, CapacityTooLarge, ExceedsCapacity}

-- a set of indices: its capacity, the free ones in the order in which they are taken, and whether
-- it is locked
pub record IndexSet : Type 0 where
  -- the indices are the numbers below it
  pub capacity : ℕ
  -- the free indices, the next one first; the others are held
  pub free : List ℕ
  -- whether it is locked: a locked set gives no more indices
  pub locked : Bool

-- all indices are free, the lowest first
abbrev pub new_index_set : ℕ → IndexSet
new_index_set capacity = record { capacity = capacity; free = range_with_len 0 capacity; locked = false }

-- an index that was taken and not given back
abbrev pub IsHeld : IndexSet → ℕ → Type 0
IsHeld set index = (index < set.capacity) × ¬ Contains set.free index

-- how many indices are held
abbrev pub held_count : IndexSet → ℕ
held_count set = set.capacity - length set.free

-- why no index is taken, if anything is against it
abbrev pub acquire_refusal : IndexSet → Option UniqueIndexSetAcquireFailure
acquire_refusal set =
    if set.locked then Some IsLocked
    else if length set.free == 0 then Some OutOfIndices
    else None

-- From old, an index is taken, which leaves new.
pub record Takes (old : IndexSet) (index : ℕ) (new : IndexSet) : Type 0 where
  -- the set was not locked
  pub unlocked : old.locked ≡ false
  -- it was the next free index
  pub next : old.free ≡ index ∷ new.free
  -- nothing else changed
  pub left : new ≡ record old { free = drop 1 old.free }
  -- and it is held now
  pub held : IsHeld new index

-- what a release answers, where so many indices are held afterwards
abbrev pub state_after : ReleaseMode → ℕ → ReleaseState
state_after LockIfLastIndex zero = Locked
state_after LockIfLastIndex (suc held) = Unlocked
state_after Default held = Unlocked

-- whether a release that answers this locks the set
abbrev pub is_locked : ReleaseState → Bool
is_locked Locked = true
is_locked Unlocked = false

-- the set once a held index is released: that is the next free one, and the set is locked if the
-- release says so
abbrev pub with_released : IndexSet → ℕ → ReleaseState → IndexSet
with_released set index state = record set { free = index ∷ set.free; locked = is_locked state }

-- the greatest capacity of a set of indices
abbrev pub max_capacity : ℕ
max_capacity = 2 ^ 24 - 2

-- why no set of this capacity is made
abbrev pub capacity_refusal : ℕ → Option UniqueIndexSetNewError
capacity_refusal capacity =
    if capacity == 0 then Some CapacityIsZero
    else if nat_lt max_capacity capacity then Some CapacityTooLarge
    else None

-- why no set is made that has fewer indices than there is room for
abbrev pub reduced_refusal : ℕ → ℕ → Option UniqueIndexSetNewError
reduced_refusal capacity reduced =
    if capacity == 0 then Some CapacityIsZero
    else if nat_lt max_capacity capacity then Some CapacityTooLarge
    else if reduced == 0 then Some CapacityIsZero
    else if nat_lt capacity reduced then Some ExceedsCapacity
    else None
