-- A register: what is registered with a service in one role, each under a handle that is never
-- given twice.
use Rattle.std.specs.Prelude.{◌≡◌, ◌+◌, ◌-◌, ◌^◌, ◌<◌, ◌==◌, ◌&&◌, ◌⊎◌, ℕ, List, [], ◌∷◌, Bool, true, false}
use Rattle.std.specs.Prelude.{Option, Some, None, IsSome, if◌then◌else◌, is_none, length, map, max, nat_lt, replicate, slice_index_or, slice_set}
use Rattle.std.specs.Option.{option_map}
use Rattle.iox_types.specs.declared.identifiers.system_id.UniqueSystemId.{UniqueSystemId}
use Rattle.iox_registry.specs.declared.roles.Role.{Role}
use Rattle.iox_registry.specs.declared.roles.Role.TheVariants.{Node, Client, Server, Publisher, Subscriber, Notifier, Listener, Reader, Writer}
use Rattle.iox_registry.specs.declared.refusals.AddFailure.{AddFailure}
use Rattle.iox_registry.specs.declared.refusals.AddFailure.TheVariants.{Locked, Full}
use Rattle.iox_registry.specs.declared.refusals.RegisterNodeError.{RegisterNodeError}
use Rattle.iox_registry.specs.declared.refusals.RegisterNodeError.TheVariants.{MarkedForDestruction, ExceedsMaxNumberOfNodes}
use Rattle.iox_registry.specs.declared.refusals.ReleaseError.{ReleaseError}
use Rattle.iox_registry.specs.declared.refusals.ReleaseError.TheVariants.{Foreign, Spent}
use Rattle.iox_registry.specs.declared.refusals.RegistryNewError.{RegistryNewError}
use Rattle.iox_registry.specs.declared.refusals.RegistryNewError.TheVariants.{LimitTooLarge}
use Rattle.iox_registry.specs.declared.remaining_owners.RemainingOwners.{RemainingOwners}
use Rattle.iox_registry.specs.declared.remaining_owners.RemainingOwners.TheVariants.{HasOwners, NoMoreOwners}

-- what tells a registration
pub record HandleView : Type 0 where
  -- the number of the service, and what is registered there
  pub service : ℕ
  pub role : Role
  -- where it stands, and the ticket under which it came
  pub slot : ℕ
  pub ticket : ℕ

-- what one slot has: the details, and the ticket under which they came
pub record Registration (D : Type 0) : Type 0 where
  pub ticket : ℕ
  pub details : D

-- a register, as its callers see it
pub record Registrations (D : Type 0) : Type 0 where
  -- the number of the service, and what is registered
  pub service : ℕ
  pub role : Role
  -- for each slot from 0 on its registration, if it has one
  pub slots : List (Option (Registration D))
  -- a locked register takes nothing any more
  pub locked : Bool
  -- the next ticket; those that were given are below it
  pub used_tickets : ℕ

-- ---- roles and nodes

-- a number for each role
abbrev pub role_number : Role → ℕ
role_number Node = 0
role_number Client = 1
role_number Server = 2
role_number Publisher = 3
role_number Subscriber = 4
role_number Notifier = 5
role_number Listener = 6
role_number Reader = 7
role_number Writer = 8

-- whether two roles are one
abbrev pub same_role : Role → Role → Bool
same_role a b = role_number a == role_number b

-- whether two identifiers are one: all four numbers agree
abbrev pub same_id : UniqueSystemId → UniqueSystemId → Bool
same_id a b =
    (a.process == b.process) && ((a.seconds == b.seconds)
    && ((a.nanoseconds == b.nanoseconds) && (a.counter == b.counter)))

-- ---- a new register

-- how many may be registered at once: a limit of 0 counts as 1
abbrev pub room_of : ℕ → ℕ
room_of limit = max 1 limit

-- the most that any register has room for
abbrev pub max_room : ℕ
max_room = 2 ^ 24 - 2

-- why no register with this limit is made
abbrev pub limit_refusal : ℕ → Option RegistryNewError
limit_refusal limit = if nat_lt max_room (room_of limit) then Some LimitTooLarge else None

-- why no two registers with these limits are made
abbrev pub limits_refusal : ℕ → ℕ → Option RegistryNewError
limits_refusal first second =
    if is_none (limit_refusal first) then limit_refusal second else limit_refusal first

-- nothing is registered, and no ticket was given
abbrev pub new_register : {D : Type 0} → ℕ → Role → ℕ → Registrations D
new_register service role limit = record {
  service = service;
  role = role;
  slots = replicate (room_of limit) None;
  locked = false;
  used_tickets = 0;
}

-- ---- what is registered

-- the details in these slots, in their order
abbrev pub details_in : {D : Type 0} → List (Option (Registration D)) → List D
details_in [] = []
details_in (None ∷ slots) = details_in slots
details_in (Some registration ∷ slots) = registration.details ∷ details_in slots

-- the details of all that is registered
abbrev pub listed : {D : Type 0} → Registrations D → List D
listed register = details_in register.slots

-- the handle names the service and the role of the register
abbrev pub is_own : {D : Type 0} → Registrations D → HandleView → Bool
is_own register handle = (handle.service == register.service) && same_role handle.role register.role

-- the details, if they came under this ticket
abbrev pub under_ticket : {D : Type 0} → ℕ → Option (Registration D) → Option D
under_ticket ticket None = None
under_ticket ticket (Some registration) =
    if registration.ticket == ticket then Some registration.details else None

-- the details of a handle: none if it is another register's, or what it told is gone
abbrev pub details_of : {D : Type 0} → Registrations D → HandleView → Option D
details_of register handle =
    if is_own register handle
    then under_ticket handle.ticket (slice_index_or register.slots handle.slot None)
    else None

-- ---- something comes

-- how many tickets a register gives at most
abbrev pub most_tickets : ℕ
most_tickets = 2 ^ 64 - 1

-- why nothing is added
abbrev pub add_refusal : {D : Type 0} → Registrations D → Option AddFailure
add_refusal register =
    if register.locked then Some Locked
    else if register.used_tickets == most_tickets then Some Full
    else if length (listed register) == length register.slots then Some Full
    else None

-- what a register of nodes calls such a failure
abbrev pub node_error : AddFailure → RegisterNodeError
node_error Locked = MarkedForDestruction
node_error Full = ExceedsMaxNumberOfNodes

-- why a node is not registered
abbrev pub register_refusal : {D : Type 0} → Registrations D → Option RegisterNodeError
register_refusal register = option_map node_error (add_refusal register)

-- details that came under a ticket
abbrev pub registration_of : {D : Type 0} → ℕ → D → Registration D
registration_of ticket details = record { ticket = ticket; details = details }

-- From old, details are added under a handle, which leaves new. Which free slot they get is open.
pub record Adds {D : Type 0} (details : D) (old : Registrations D) (handle : HandleView)
    (new : Registrations D) : Type 0 where
  -- nothing spoke against it
  pub allowed : add_refusal old ≡ None
  -- the handle names the register
  pub service : handle.service ≡ old.service
  pub role : handle.role ≡ old.role
  -- a slot that was free
  pub within : handle.slot < length old.slots
  pub free : slice_index_or old.slots handle.slot None ≡ None
  -- and a ticket that no other has
  pub fresh : handle.ticket ≡ old.used_tickets
  -- the slot has the details now, and nothing else changed
  pub left : new ≡ record old {
    slots = slice_set old.slots handle.slot (Some (registration_of handle.ticket details));
    used_tickets = old.used_tickets + 1;
  }

-- ---- something goes

-- why nothing is released: the handle is another register's, or what it told is gone
abbrev pub release_refusal : {D : Type 0} → Registrations D → HandleView → Option ReleaseError
release_refusal register handle =
    if is_own register handle
    then (if is_none (details_of register handle) then Some Spent else None)
    else Some Foreign

-- Whether a register is locked once these slots are what is left of it. Where something went, a
-- register of nodes is locked exactly if nothing is left, and no other is.
abbrev pub locked_after : {D : Type 0} → Registrations D → List (Option (Registration D)) → Bool
locked_after old left =
    if nat_lt (length (details_in left)) (length (listed old))
    then same_role old.role Node && (length (details_in left) == 0)
    else old.locked

-- these slots are what is left, and nothing else changed
abbrev pub left_with :
    {D : Type 0} → Registrations D → List (Option (Registration D)) → Registrations D
left_with old left = record old { slots = left; locked = locked_after old left }

-- From old, the registration of a handle goes, which leaves new.
pub record Removes {D : Type 0} (handle : HandleView) (old new : Registrations D) : Type 0 where
  pub had : IsSome (details_of old handle)
  pub left : new ≡ left_with old (slice_set old.slots handle.slot None)

-- what a slot has without the registrations of a node
abbrev pub without_node : {D : Type 0} → (D → UniqueSystemId) → UniqueSystemId
    → Option (Registration D) → Option (Registration D)
without_node node id None = None
without_node node id (Some registration) =
    if same_id (node registration.details) id then None else Some registration

-- all registrations of a node are gone, and no other
abbrev pub recovered :
    {D : Type 0} → (D → UniqueSystemId) → UniqueSystemId → Registrations D → Registrations D
recovered node id old = left_with old (map (without_node node id) old.slots)

-- whether a register of nodes has come to its end
abbrev pub remaining : {D : Type 0} → Registrations D → RemainingOwners
remaining register = if register.locked then NoMoreOwners else HasOwners

-- ---- handles that were given

-- the register has given this handle
abbrev pub WasGiven : {D : Type 0} → Registrations D → HandleView → Type 0
WasGiven register handle =
    (handle.service ≡ register.service) × (handle.role ≡ register.role)
    × (handle.ticket < register.used_tickets)

-- From old to new each handle that was given keeps its details, or has none.
pub record KeepsOrLoses {D : Type 0} (old new : Registrations D) : Type 0 where
  pub given : (handle : HandleView) → WasGiven old handle → WasGiven new handle
  pub details : (handle : HandleView) → WasGiven old handle
      → (details_of new handle ≡ details_of old handle) ⊎ (details_of new handle ≡ None)
