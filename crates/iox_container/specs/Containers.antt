-- A container, as its callers see it: slots from 0 on, each free or with an entry.
use Rattle.std.specs.Prelude.{◌≡◌, ◌+◌, ◌-◌, ◌^◌, ◌==◌, ℕ, List, [], ◌∷◌, Bool, false, Option, Some, None}
use Rattle.std.specs.Prelude.{if◌then◌else◌, is_none, map, replicate, slice_index_or, slice_set}
use Rattle.std.specs.Option.{option_map}
use Rattle.iox_sets.specs.OwnedIndices.{OwnedIndices, held_count, lowest_free}
use Rattle.iox_container.specs.declared.mpmc.container.container_handle.ContainerHandle.{ContainerHandle}
use Rattle.iox_container.specs.declared.mpmc.container.entries.Entry.{Entry}
use Rattle.iox_container.specs.declared.mpmc.container.failures.ContainerAddFailure.{ContainerAddFailure}
use Rattle.iox_container.specs.declared.mpmc.container.failures.ContainerAddFailure.TheVariants.{OutOfSpace, IsLocked}

-- a container: its number, its slots, whether it is locked, and the next ticket
pub record Contents (T : Type 0) : Type 0 where
  -- the number that stands in the container's handles
  pub id : ℕ
  -- for each slot from 0 on its entry, if it has one: a value, its owner and its ticket
  pub slots : List (Option (Entry T))
  -- whether it is locked: a locked container takes no more entries
  pub locked : Bool
  -- the ticket of the next entry; those of earlier entries are below it
  pub next_ticket : ℕ

-- all slots are free
abbrev pub new_contents : {T : Type 0} → ℕ → ℕ → Contents T
new_contents id capacity =
    record { id = id; slots = replicate capacity None; locked = false; next_ticket = 0 }

-- the slots as a set of indices, of which an owner holds those that have its entries
abbrev pub indices : {T : Type 0} → Contents T → OwnedIndices
indices contents = record {
  owners = map (option_map (λ entry. entry.owner)) contents.slots;
  locked = contents.locked;
}

-- how many entries there are
abbrev pub count : {T : Type 0} → Contents T → ℕ
count contents = held_count (indices contents)

-- the entry in a slot, if it has one
abbrev pub entry_in : {T : Type 0} → Contents T → ℕ → Option (Entry T)
entry_in contents index = slice_index_or contents.slots index None

-- the container with this entry in a slot, or none; the other slots are unchanged
abbrev pub with_entry : {T : Type 0} → Contents T → ℕ → Option (Entry T) → Contents T
with_entry contents index entry = record contents { slots = slice_set contents.slots index entry }

-- the handle of an entry in a slot of this container
abbrev pub handle_of : {T : Type 0} → ℕ → ℕ → Entry T → ContainerHandle
handle_of id index entry = record { container_id = id; index = index; ticket = entry.ticket }

-- the entry, if it was added under this ticket
abbrev pub under_ticket : {T : Type 0} → ℕ → Option (Entry T) → Option (Entry T)
under_ticket ticket None = None
under_ticket ticket (Some entry) = if entry.ticket == ticket then Some entry else None

-- the entry of a handle: none if the handle is another container's, or its entry is gone
abbrev pub entry_of : {T : Type 0} → Contents T → ContainerHandle → Option (Entry T)
entry_of contents handle =
    if handle.container_id == contents.id
    then under_ticket handle.ticket (entry_in contents handle.index)
    else None

-- the entries in slot order, each with its handle, where the first slot has the number `index`
abbrev pub entries_from : {T : Type 0} → ℕ → ℕ → List (Option (Entry T))
    → List (ContainerHandle × Entry T)
entries_from id index [] = []
entries_from id index (None ∷ slots) = entries_from id (index + 1) slots
entries_from id index (Some entry ∷ slots) =
    (handle_of id index entry, entry) ∷ entries_from id (index + 1) slots

-- the entries in slot order, each with its handle: a finite map from handles
abbrev pub entries : {T : Type 0} → Contents T → List (ContainerHandle × Entry T)
entries contents = entries_from contents.id 0 contents.slots

-- the greatest number of tickets: each entry has a ticket of its own below it
abbrev pub max_ticket : ℕ
max_ticket = 2 ^ 64 - 1

-- why nothing is added, if anything is against it
abbrev pub add_refusal : {T : Type 0} → Contents T → Option ContainerAddFailure
add_refusal contents =
    if contents.locked then Some IsLocked
    else if contents.next_ticket == max_ticket then Some OutOfSpace
    else if is_none (lowest_free (indices contents)) then Some OutOfSpace
    else None

-- a value with its owner, added under a ticket
abbrev pub entry_for : {T : Type 0} → T → ℕ → ℕ → Entry T
entry_for value owner ticket = record { value = value; owner = owner; ticket = ticket }

-- From old, a value is added for an owner, which leaves new.
pub record Adds {T : Type 0} (value : T) (owner : ℕ) (old : Contents T) (handle : ContainerHandle)
    (new : Contents T) : Type 0 where
  -- no refusal applied
  pub allowed : add_refusal old ≡ None
  -- the slot was the lowest free one
  pub lowest : lowest_free (indices old) ≡ Some handle.index
  -- the handle names this container
  pub own : handle.container_id ≡ old.id
  -- the handle has the next ticket, which no other has
  pub fresh : handle.ticket ≡ old.next_ticket
  -- the slot has the value now, and nothing else changed
  pub left : new ≡ record (with_entry old handle.index (Some (entry_for value owner handle.ticket))) {
    next_ticket = old.next_ticket + 1;
  }
