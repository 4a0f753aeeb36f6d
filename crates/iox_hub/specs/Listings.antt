-- What a hub's tables list: the numbers and ids of the ports of a role, and the numbers of what a
-- node has.
use Rattle.std.specs.Prelude.{◌≡◌, ℕ, true, ◌&&◌, if◌then◌else◌, ◌==◌, nat_le, List, [], ◌++◌, map, filter, Option, Some, None}
use Rattle.std.specs.List.{list_all}
use Rattle.iox_types.specs.declared.identifiers.system_id.UniqueSystemId.{UniqueSystemId}
use Rattle.iox_model.specs.declared.kind.Role.{Role}
use Rattle.iox_model.specs.Services.{ascending}
use Rattle.iox_model.specs.Settings.{same_role}
use Rattle.iox_model.specs.States.{Fixed}
use Rattle.iox_handles.specs.declared.numbered.Numbered.{Numbered}
use Rattle.iox_hub_ports.specs.declared.info.PortInfo.{PortInfo}
use Rattle.iox_tables.specs.HubStates.Tables.{HandleState, HubTables, PortState}

-- the ids of the connected ports of a role, oldest first
abbrev pub ids_of_role : Fixed → Role → List UniqueSystemId
ids_of_role f role = map (λ p. p.id) (filter (λ p. same_role p.role role) f.ports)

-- the numbers of the node's ports whose own values are still there
abbrev pub held_ports : List PortState → ℕ → List ℕ
held_ports ports node = map (λ p. p.number) (filter (λ p. (p.node == node) && p.held) ports)

-- the numbers of the node's handles
abbrev pub handles_had : List HandleState → ℕ → List ℕ
handles_had handles node = map (λ h. h.number) (filter (λ h. h.node == node) handles)

-- the numbers of the node's ports and handles that are not released, ascending
abbrev pub numbers_had : HubTables → ℕ → List ℕ
numbers_had t node = ascending (held_ports t.ports node ++ handles_had t.handles node)

-- ---- only for proofs of this crate

-- the ids of the ports of that role, in their order
abbrev pub role_ids : Role → List PortState → List UniqueSystemId
role_ids role ports = map (λ p. p.id) (filter (λ p. same_role p.role role) ports)

-- the id of a port, if there is one and it is of that role
abbrev pub role_id : Role → Option PortInfo → Option UniqueSystemId
role_id role None = None
role_id role (Some i) = if same_role i.role role then Some i.id else None

-- the number of a port, if there is one and it is of that role
abbrev pub role_number : Role → Option PortInfo → Option ℕ
role_number role None = None
role_number role (Some i) = if same_role i.role role then Some i.number else None

-- the number of a port, if there is one of that node whose own value is still there
abbrev pub held_number : ℕ → Option PortInfo → Option ℕ
held_number node None = None
held_number node (Some i) = if (i.node == node) && i.held then Some i.number else None

-- None of these numbers is less than that of what is ahead; there is none if nothing is ahead.
abbrev pub NoneBefore : Option Numbered → List ℕ → Type 0
NoneBefore None ns = ns ≡ []
NoneBefore (Some ahead) ns = list_all (nat_le ahead.number) ns ≡ true
