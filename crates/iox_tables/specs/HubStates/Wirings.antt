-- What is so of a hub's tables between calls: who has pipes from whom, and the limits of lanes.
use Rattle.std.specs.Prelude.{◌≡◌, ℕ, true, false, ◌&&◌, if◌then◌else◌, ◌==◌, List, [], ◌∷◌, map, filter, Option, Some, None}
use Rattle.std.specs.Option.{option_map_or}
use Rattle.iox_model.specs.declared.kind.Kind.TheVariants.{PendingResponse}
use Rattle.iox_model.specs.declared.kind.Role.{Role}
use Rattle.iox_model.specs.declared.kind.Role.TheVariants.{Client, Server}
use Rattle.iox_model.specs.declared.way.Way.{Way}
use Rattle.iox_model.specs.Maps.{AreDistinct}
use Rattle.iox_model.specs.Settings.{same_role, other_role}
use Rattle.iox_lanes.specs.Lanes.{LaneState}
use Rattle.iox_tables.specs.HubStates.Tables.{HubSettings, HubTables, HandleState, PortState, port_in, pipes_of, senders_of}
use Rattle.iox_tables.specs.HubStates.Ways.{lane_on}

-- the numbers of the connected ports of that role, oldest first
abbrev pub numbers_of_role : Role → List PortState → List ℕ
numbers_of_role role ports = map (λ p. p.number) (filter (λ p. same_role p.role role) ports)

-- the role of the port of that number; `Client` where it is not connected
abbrev pub role_in : List PortState → ℕ → Role
role_in ports n = option_map_or (λ p. p.role) (port_in ports n) Client

-- how many messages of one lane a receiver may have, where a port of that role sends
abbrev pub limit_from : HubSettings → Role → ℕ
limit_from settings Client = settings.active_requests
limit_from settings Server = settings.borrowed_responses

-- how many messages may wait on one lane, where a port of that role sends
abbrev pub buffer_from : HubSettings → Role → ℕ
buffer_from settings Client = settings.active_requests
buffer_from settings Server = settings.response_buffer

-- A port is wired: its pipes come from the connected ports of the other role, each once and in
-- their order, and from ports that are gone. A server keeps such pipes only under fire-and-forget.
pub record IsWired (t : HubTables) (p : PortState) : Type 0 where
  pub senders : senders_of p.incoming.pipes ≡ numbers_of_role (other_role p.role) t.ports
  pub apart : AreDistinct (senders_of (pipes_of p))
  pub none_kept :
      p.role ≡ Server → t.settings.fire_and_forget ≡ false → p.expired.pipes ≡ []

-- Each lane has the limit of its receiver.
abbrev pub HaveLimits : HubTables → Type 0
HaveLimits t =
    (w : Way) (l : LaneState) → lane_on t.ports w ≡ Some l
    → l.limit ≡ limit_from t.settings (other_role (role_in t.ports w.receiver))

-- The number names a server of the node, that is not released.
pub record IsServer (t : HubTables) (node n : ℕ) : Type 0 where
  pub port : PortState
  pub there : port_in t.ports n ≡ Some port
  pub on_node : port.node ≡ node
  pub server : port.role ≡ Server
  pub held : port.held ≡ true

-- the node's handle of that number
abbrev pub handle_in : List HandleState → ℕ → ℕ → Option HandleState
handle_in [] node n = None
handle_in (h ∷ hs) node n =
    if (h.node == node) && (h.number == n) then Some h else handle_in hs node n

-- The number names a handle of the node, and no port.
pub record IsHandle (t : HubTables) (node n : ℕ) (h : HandleState) : Type 0 where
  pub there : handle_in t.handles node n ≡ Some h
  pub no_port : port_in t.ports n ≡ None

-- The number names a pending response of the node, whose client is connected.
pub record IsPending (t : HubTables) (node n : ℕ) : Type 0 where
  pub handle : HandleState
  pub named : IsHandle t node n handle
  pub kind : handle.kind ≡ PendingResponse
  pub port : PortState
  pub there : port_in t.ports handle.port ≡ Some port
  pub client : port.role ≡ Client
