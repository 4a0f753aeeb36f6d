-- The nodes of a service, apart from its hub.
use Rattle.std.specs.Prelude.{ℕ, ◌==◌, false, if◌then◌else◌, [], ◌∷◌, length, map, find, Option}
use Rattle.iox_types.specs.declared.identifiers.system_id.UniqueSystemId.{UniqueSystemId}
use Rattle.iox_model.specs.Joins.{new_node}
use Rattle.iox_model.specs.Services.{dies}
use Rattle.iox_model.specs.States.{Members, Node}
use Rattle.iox_registry.specs.Registers.{Registrations}
use Rattle.iox_members.specs.declared.member.Member.{Member}

-- What a service keeps of its nodes: who they are, and what is registered of them.
pub record RegisteredMembers : Type 0 where
  pub members : Members
  pub registry : Registrations UniqueSystemId

-- how many nodes there may be at once: as many as may be registered
abbrev pub room_in : RegisteredMembers → ℕ
room_in x = length x.registry.slots

-- the node of the machine
abbrev pub node_of : Member → Node
node_of m = record { number = m.number; id = m.id; alive = m.alive }

-- the node that is kept, dead if it has this number
abbrev pub killed : ℕ → Member → Member
killed node m = if m.number == node then record m { alive = false } else m

-- the nodes of a service as it is created: node 0, with this id
abbrev pub first_members : UniqueSystemId → Members
first_members id = record { nodes = new_node 0 id ∷ []; joins = 1; closed = false }

-- the node of that number
abbrev pub node_in : Members → ℕ → Option Node
node_in x n = find (λ m. m.number == n) x.nodes

-- the nodes once the one of that number is dead
abbrev pub with_dead : Members → ℕ → Members
with_dead x node = record x { nodes = map (dies node) x.nodes }
