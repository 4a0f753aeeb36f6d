-- What becomes of handles: none is given twice, and a container is a finite map from them.
use Rattle.std.specs.Prelude.{◌≡◌, ◌≢◌, ◌<◌, ◌⊎◌, IsSome, None, Some}
use Rattle.iox_container.specs.declared.mpmc.container.container_handle.ContainerHandle.{ContainerHandle}
use Rattle.iox_container.specs.declared.mpmc.container.entries.Entry.{Entry}
use Rattle.iox_container.specs.Containers.{Contents, entry_of}

-- the container has given this handle
abbrev pub WasGiven : {T : Type 0} → Contents T → ContainerHandle → Type 0
WasGiven contents handle =
    (handle.container_id ≡ contents.id) × (handle.ticket < contents.next_ticket)

-- From old to new, each handle that was given keeps its entry, or has none.
pub record KeepsOrLoses {T : Type 0} (old new : Contents T) : Type 0 where
  pub given : (handle : ContainerHandle) → WasGiven old handle → WasGiven new handle
  pub entries : (handle : ContainerHandle) → WasGiven old handle
      → (entry_of new handle ≡ entry_of old handle) ⊎ (entry_of new handle ≡ None)

-- From old to new, an entry is added under a handle.
pub record Inserts {T : Type 0} (handle : ContainerHandle) (entry : Entry T) (old new : Contents T) : Type 0 where
  -- the handle had none
  pub fresh : entry_of old handle ≡ None
  pub there : entry_of new handle ≡ Some entry
  -- each other handle has the entry that it had
  pub others : (other : ContainerHandle) → other ≢ handle → entry_of new other ≡ entry_of old other
  -- each entry that was there is still there
  pub stay : (other : ContainerHandle) → IsSome (entry_of old other) → entry_of new other ≡ entry_of old other

-- From old to new, the entry of a handle is removed.
pub record Removes {T : Type 0} (handle : ContainerHandle) (old new : Contents T) : Type 0 where
  pub gone : entry_of new handle ≡ None
  -- each other handle has what it had
  pub others : (other : ContainerHandle) → other ≢ handle → entry_of new other ≡ entry_of old other
