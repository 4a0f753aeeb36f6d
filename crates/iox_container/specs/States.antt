-- What a container had at one time, kept as a state.
use Rattle.std.specs.Prelude.{◌≡◌, ◌⊎◌, ⊤, ℕ, List, [], ◌∷◌, Option, None, length, slice_index_or}
use Rattle.std.specs.Option.{option_map}
use Rattle.iox_words.specs.declared.callback_progression.CallbackProgression.{CallbackProgression}
use Rattle.iox_words.specs.declared.callback_progression.CallbackProgression.TheVariants.{Continue, Stop}
use Rattle.iox_container.specs.declared.mpmc.container.container_handle.ContainerHandle.{ContainerHandle}
use Rattle.iox_container.specs.declared.mpmc.container.entries.Entry.{Entry}
use Rattle.iox_container.specs.Containers.{Contents, entries_from}

-- what a container had when the state was taken: its number and its slots
pub record Snapshot (T : Type 0) : Type 0 where
  -- the number of the container
  pub id : ℕ
  -- for each slot from 0 on its entry, if it has one
  pub slots : List (Option (Entry T))

-- what a container has now
abbrev pub state_of : {T : Type 0} → Contents T → Snapshot T
state_of contents = record { id = contents.id; slots = contents.slots }

-- the state is of a container of this number and with as many slots
pub record IsStateOf {T : Type 0} (contents : Contents T) (state : Snapshot T) : Type 0 where
  pub id : state.id ≡ contents.id
  pub capacity : length state.slots ≡ length contents.slots

-- the entries in slot order, each with its handle
abbrev pub shown : {T : Type 0} → Snapshot T → List (ContainerHandle × Entry T)
shown state = entries_from state.id 0 state.slots

-- the value in a slot: none in a free slot, and past the last one
abbrev pub value_in : {T : Type 0} → Snapshot T → ℕ → Option T
value_in state index = option_map (λ entry. entry.value) (slice_index_or state.slots index None)

-- The closure is called with the entries in slot order, until it says stop. The call drops it, so
-- that no clause says that it was not called once more; the tests count its calls.
abbrev pub IsCalledUntilStop : {F T : Type 0}
    → (F → ContainerHandle → T → CallbackProgression → F → Type 0)
    → F → List (ContainerHandle × Entry T) → Type 0
IsCalledUntilStop step f [] = ⊤
IsCalledUntilStop {F} step f (item ∷ items) =
    ((after : F) × step f item.0 item.1.value Stop after)
    ⊎ ((after : F) × step f item.0 item.1.value Continue after × IsCalledUntilStop step after items)
