-- How a register stands on a container: the container has the owners and the tickets, the register
-- the details.
use Rattle.std.specs.Prelude.{◌≡◌, ◌≢◌, ◌<◌, ◌↔◌, ◌⊎◌, ℕ, List, Bool, Option, Some, None, if◌then◌else◌, map, slice_index_or}
use Rattle.std.specs.Option.{option_map}
use Rattle.iox_types.specs.declared.identifiers.system_id.UniqueSystemId.{UniqueSystemId}
use Rattle.iox_sets.specs.declared.mpmc.unique_index_set_enums.ReleaseMode.{ReleaseMode}
use Rattle.iox_sets.specs.declared.mpmc.unique_index_set_enums.ReleaseMode.TheVariants.{LockIfLastIndex, Default}
use Rattle.iox_container.specs.declared.mpmc.container.entries.Entry.{Entry}
use Rattle.iox_container.specs.declared.mpmc.container.container_handle.ContainerHandle.{ContainerHandle}
use Rattle.iox_container.specs.Containers.{Contents}
use Rattle.iox_registry.specs.declared.registered.Registered.{Registered}
use Rattle.iox_registry.specs.declared.roles.Role.{Role}
use Rattle.iox_registry.specs.declared.roles.Role.TheVariants.{Node}
use Rattle.iox_registry.specs.Registers.{HandleView, Registration, Registrations, same_id, same_role}

-- what callers see of what a slot has
abbrev pub shown : {D : Type 0} → Registered D → Registration D
shown kept = record { ticket = kept.ticket; details = kept.details }

-- what the container has of it
abbrev pub entry_of_kept : {D : Type 0} → Registered D → Entry (Unit {0})
entry_of_kept kept = record { value = tt; owner = kept.owner; ticket = kept.ticket }

-- what callers see of all slots
abbrev pub shown_slots :
    {D : Type 0} → List (Option (Registered D)) → List (Option (Registration D))
shown_slots slots = map (option_map shown) slots

-- the register that the fields stand for
abbrev pub register_in :
    {D : Type 0} → ℕ → Role → List (Option (Registered D)) → Bool → ℕ → Registrations D
register_in service role slots locked used_tickets = record {
  service = service;
  role = role;
  slots = shown_slots slots;
  locked = locked;
  used_tickets = used_tickets;
}

-- nodes lock their register as the last of them goes
abbrev pub mode_of : Role → ReleaseMode
mode_of role = if same_role role Node then LockIfLastIndex else Default

-- what a slot has
abbrev pub kept_in : {D : Type 0} → List (Option (Registered D)) → ℕ → Option (Registered D)
kept_in slots slot = slice_index_or slots slot None

-- the container and the register's own list of what is in each slot agree
pub record IsStanding {D : Type 0} (node : D → UniqueSystemId) (container : Contents (Unit {0}))
    (service : ℕ) (used_tickets : ℕ) (slots : List (Option (Registered D))) : Type 0 where
  pub id : container.id ≡ service
  pub tickets : container.next_ticket ≡ used_tickets
  -- the container has an entry where the register has one, with its owner and its ticket
  pub entries : container.slots ≡ map (option_map entry_of_kept) slots
  -- two have one owner exactly if they have one node
  pub owners : (i j : ℕ) (a b : Registered D) → kept_in slots i ≡ Some a → kept_in slots j ≡ Some b
      → (a.owner ≡ b.owner) ↔ (node a.details ≡ node b.details)
  -- an owner's number was a ticket
  pub earlier : (i : ℕ) (a : Registered D) → kept_in slots i ≡ Some a → a.owner < used_tickets

-- ---- handles

-- what callers see of a handle
abbrev pub handle_in : ℕ → Role → ℕ → ContainerHandle → HandleView
handle_in service role ticket entry =
    record { service = service; role = role; slot = entry.index; ticket = ticket }

-- the container's handle of what a handle tells
abbrev pub entry_handle : HandleView → ContainerHandle
entry_handle handle =
    record { container_id = handle.service; index = handle.slot; ticket = handle.ticket }

-- the container's handle is of this service and has this ticket
pub record IsEntryOf (number under : ℕ) (entry : ContainerHandle) : Type 0 where
  pub service : entry.container_id ≡ number
  pub ticket : entry.ticket ≡ under

-- ---- owners

-- one that has something of a node has this owner
abbrev pub HasOwner :
    {D : Type 0} → (D → UniqueSystemId) → List (Option (Registered D)) → UniqueSystemId → ℕ → Type 0
HasOwner {D} node slots id owner =
    (slot : ℕ) × (kept : Registered D) × (kept_in slots slot ≡ Some kept)
    × (node kept.details ≡ id) × (kept.owner ≡ owner)

-- nothing there is of the node
abbrev pub HasNoOwner :
    {D : Type 0} → (D → UniqueSystemId) → List (Option (Registered D)) → UniqueSystemId → Type 0
HasNoOwner {D} node slots id =
    (slot : ℕ) (kept : Registered D) → kept_in slots slot ≡ Some kept → node kept.details ≢ id

-- the owner is the node's, or the one that none has yet
abbrev pub IsOwnerFor :
    {D : Type 0} → (D → UniqueSystemId) → List (Option (Registered D)) → UniqueSystemId
    → ℕ → ℕ → Type 0
IsOwnerFor node slots id fresh owner =
    HasOwner node slots id owner ⊎ (HasNoOwner node slots id × (owner ≡ fresh))

-- what a slot has without what is of a node
abbrev pub kept_without_node : {D : Type 0} → (D → UniqueSystemId) → UniqueSystemId
    → Option (Registered D) → Option (Registered D)
kept_without_node node id None = None
kept_without_node node id (Some kept) = if same_id (node kept.details) id then None else Some kept

-- the slots without what is of a node
abbrev pub kept_without : {D : Type 0} → (D → UniqueSystemId) → UniqueSystemId
    → List (Option (Registered D)) → List (Option (Registered D))
kept_without node id slots = map (kept_without_node node id) slots
