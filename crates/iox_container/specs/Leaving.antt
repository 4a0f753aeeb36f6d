-- How entries leave a container, and how one is looked for.
use Rattle.std.specs.Prelude.{◌≡◌, ◌≢◌, ◌==◌, ◌⊎◌, ℕ, List, [], ◌∷◌, Bool, true, false, Option, Some, None, filter, slice_set}
use Rattle.iox_sets.specs.Calls.{Accepts}
use Rattle.iox_sets.specs.IndexSets.{is_locked, state_after}
use Rattle.iox_sets.specs.OwnedIndices.{state_after_recovery}
use Rattle.iox_sets.specs.declared.mpmc.unique_index_set_enums.ReleaseMode.{ReleaseMode}
use Rattle.iox_sets.specs.declared.mpmc.unique_index_set_enums.ReleaseState.{ReleaseState}
use Rattle.iox_container.specs.declared.mpmc.container.container_handle.ContainerHandle.{ContainerHandle}
use Rattle.iox_container.specs.declared.mpmc.container.entries.Entry.{Entry}
use Rattle.iox_container.specs.Containers.{Contents, count, entries, entry_of, indices, with_entry}

-- From old, the entry in a slot goes, which leaves new.
pub record Frees {T : Type 0} (index : ℕ) (mode : ReleaseMode) (old : Contents T)
    (answer : ReleaseState) (new : Contents T) : Type 0 where
  -- the answer comes from how many entries are left, and says whether the container is locked
  pub state : answer ≡ state_after mode (count new)
  -- the slot is free now, and nothing else changed
  pub left : new ≡ record (with_entry old index None) { locked = is_locked answer }

-- The closure is asked about the entries in slot order, until it says yes.
abbrev pub Finds : {F T : Type 0} → (F → T → ContainerHandle → Bool → F → Type 0) → F
    → List (ContainerHandle × Entry T) → Option ContainerHandle → Type 0
Finds step f [] found = found ≡ None
Finds {F} step f (item ∷ items) found =
    ((after : F) × step f item.1.value item.0 true after × (found ≡ Some item.0))
    ⊎ ((after : F) × step f item.1.value item.0 false after × Finds step after items found)

-- the closure said yes to the value of a handle's entry
abbrev pub IsAccepted : {F T : Type 0} → (F → T → ContainerHandle → Bool → F → Type 0)
    → Contents T → ContainerHandle → Type 0
IsAccepted {F} {T} step contents handle =
    (entry : Entry T) × (entry_of contents handle ≡ Some entry)
    × (before : F) × (after : F) × step before entry.value handle true after

-- the entries of an owner, in slot order, each with its handle
abbrev pub entries_of : {T : Type 0} → ℕ → Contents T → List (ContainerHandle × Entry T)
entries_of owner contents = filter (λ item. item.1.owner == owner) (entries contents)

-- these entries are gone
abbrev pub without : {T : Type 0} → List (ContainerHandle × Entry T)
    → List (Option (Entry T)) → List (Option (Entry T))
without [] slots = slots
without (item ∷ items) slots = without items (slice_set slots item.0.index None)

-- From old, those entries of an owner go whose values the closure accepts, which leaves new.
pub record Recovers {F T : Type 0} (step : F → T → Bool → F → Type 0) (f : F) (owner : ℕ)
    (mode : ReleaseMode) (old : Contents T) (answer : ReleaseState)
    (new : Contents T) : Type 0 where
  -- the entries that it accepts, asked in slot order
  pub accepted : List (ContainerHandle × Entry T)
  pub asked : Accepts (λ before item said after. step before item.1.value said after) f
      (entries_of owner old) accepted
  -- it locks the container only if an entry went, and a locked container stays locked
  pub state : answer ≡ state_after_recovery mode (indices old) (count new)
  -- they are gone, and nothing else changed
  pub left : new ≡ record old { slots = without accepted old.slots; locked = is_locked answer }

-- the closure said no to the value of each entry that an owner still has
abbrev pub KeepsRefused : {F T : Type 0} → (F → T → Bool → F → Type 0) → ℕ → Contents T → Type 0
KeepsRefused {F} {T} step owner contents =
    (handle : ContainerHandle) (entry : Entry T) → entry_of contents handle ≡ Some entry → entry.owner ≡ owner
    → (before : F) × (after : F) × step before entry.value false after

-- From old to new, each entry of another owner stays.
abbrev pub KeepsOthers : {T : Type 0} → ℕ → Contents T → Contents T → Type 0
KeepsOthers {T} owner old new =
    (handle : ContainerHandle) (entry : Entry T) → entry_of old handle ≡ Some entry → entry.owner ≢ owner
    → entry_of new handle ≡ Some entry
