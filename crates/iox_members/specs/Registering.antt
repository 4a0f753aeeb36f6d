-- How the nodes of a service are registered.
use Rattle.std.specs.Prelude.{◌≡◌, ◌<◌, ◌≤◌, ℕ, ⊤, List, [], ◌∷◌, false, Some, length, map, IsPermutation}
use Rattle.std.specs.List.{list_any}
use Rattle.iox_types.specs.declared.identifiers.system_id.UniqueSystemId.{UniqueSystemId}
use Rattle.iox_model.specs.Joins.{same_id}
use Rattle.iox_model.specs.Maps.{AreDistinct, is_empty}
use Rattle.iox_model.specs.States.{Members}
use Rattle.iox_registry.specs.declared.roles.Role.TheVariants.{Node}
use Rattle.iox_registry.specs.Registers.{Registrations, details_of, listed}
use Rattle.iox_members.specs.declared.member.Member.{Member}

-- no id is in the list twice
abbrev pub AreOnce : List UniqueSystemId → Type 0
AreOnce [] = ⊤
AreOnce (x ∷ xs) = (list_any (same_id x) xs ≡ false) × AreOnce xs

-- The nodes of the service are registered, each once, and no others, in any order. The register is
-- locked exactly if the service is closed.
pub record AreRegistered (x : Members) (registry : Registrations UniqueSystemId) : Type 0 where
  pub ids : IsPermutation (map (λ m. m.id) x.nodes) (listed registry)
  pub once : AreOnce (map (λ m. m.id) x.nodes)
  pub closed : registry.locked ≡ x.closed

-- it is still the register of that service, with as much room
abbrev pub IsSameRegister : (old new : Registrations UniqueSystemId) → Type 0
IsSameRegister old new =
    (new.service ≡ old.service) × (length new.slots ≡ length old.slots)

-- ---- only for proofs of this crate

-- each number is below that one
abbrev pub AreBelow : ℕ → List ℕ → Type 0
AreBelow most [] = ⊤
AreBelow most (n ∷ ns) = (n < most) × AreBelow most ns

-- each of these nodes has a registration, which is of its id
abbrev pub HaveRegistrations : Registrations UniqueSystemId → List Member → Type 0
HaveRegistrations registry [] = ⊤
HaveRegistrations registry (m ∷ ms) =
    (details_of registry m.registration ≡ Some m.id) × HaveRegistrations registry ms

-- What is so at all times of the nodes that are kept, of which so many ever joined and there may be
-- at most so many at once, and of their register.
pub record AreKept (nodes : List Member) (joins most : ℕ) (registry : Registrations UniqueSystemId) : Type 0
  where
    -- each has a number and an id of its own
    pub below : AreBelow joins (map (λ m. m.number) nodes)
    pub numbers : AreDistinct (map (λ m. m.number) nodes)
    pub once : AreOnce (map (λ m. m.id) nodes)
    -- and a registration, and nothing else is registered
    pub own : HaveRegistrations registry nodes
    pub count : length (listed registry) ≡ length nodes
    -- the register is one of nodes, with room for all, and is locked once there is none
    pub role : registry.role ≡ Node
    pub room : length registry.slots ≡ most
    pub locked : registry.locked ≡ is_empty nodes
    -- a registration is a join
    pub tickets : registry.used_tickets ≤ joins
