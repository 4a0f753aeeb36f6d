-- The state of the machine that the tables of a hub show.
use Rattle.std.specs.Prelude.{ℕ, false, if◌then◌else◌, ◌==◌, List, [], map, filter, Option}
use Rattle.std.specs.Option.{option_map_or}
use Rattle.iox_laws.specs.UniqueSystemId.{UniqueSystemId}
use Rattle.iox_model.specs.declared.backpressure.BackpressureAction.{BackpressureAction}
use Rattle.iox_model.specs.Messages.{Message}
use Rattle.iox_model.specs.Settings.{Limits, Shape}
use Rattle.iox_model.specs.States as m
use Rattle.iox_model.specs.WholeCalls.{is_uninit}
use Rattle.iox_tables.specs.HubStates.Tables.{SlotState, PoolState, PortState, HandleState, HubTables, pool_at, slot_at, owner_of, port_in, senders_of}
use Rattle.iox_tables.specs.HubStates.Ways.{lane_on, state_on}
use Rattle.iox_tables.specs.HubStates.Shown.{MessagesByPlace, borrowed_in, shown}

-- What a state has that the tables lack: the nodes, the handlers and what they answer, the shapes
-- of messages, and the words of each message by its pool and its place there.
pub record Given : Type 0 where
  pub members : m.Members
  pub acts : List ℕ → ℕ → ℕ → BackpressureAction
  -- the words of each port's handler, if one is set
  pub handler : ℕ → Option (List ℕ)
  pub request : Shape
  pub response : Shape
  pub user : ℕ → ℕ → List ℕ
  pub payload : ℕ → ℕ → List ℕ
  -- how many elements of a loan are filled, where it was handed out unfilled
  pub filled : ℕ → ℕ → ℕ

-- ---- messages, ports and handles

-- an id of no port
abbrev pub no_id : UniqueSystemId
no_id = record { process = 0; seconds = 0; nanoseconds = 0; counter = 0 }

-- the id of the node of the port whose pool it is
abbrev pub node_id_of : List (Option PoolState) → ℕ → UniqueSystemId
node_id_of pools place = option_map_or (λ p. p.node_id) (pool_at pools place) no_id

-- the id of that port
abbrev pub port_id_of : List (Option PoolState) → ℕ → UniqueSystemId
port_id_of pools place = option_map_or (λ p. p.port_id) (pool_at pools place) no_id

-- the message in a slot of a pool
abbrev pub message_of : Given → List (Option PoolState) → MessagesByPlace
message_of x pools pool k =
    let slot : SlotState = slot_at pools pool k in record {
      sender = owner_of pools pool;
      serial = slot.serial;
      node_id = node_id_of pools pool;
      port_id = port_id_of pools pool;
      lane = slot.lane;
      request = slot.request;
      elements = slot.elements;
      user = x.user pool k;
      payload = x.payload pool k;
    }

-- the port of the machine
abbrev pub port_of : Given → PortState → m.Port
port_of x p = record {
  number = p.number;
  node = p.node;
  role = p.role;
  node_id = p.node_id;
  id = p.id;
  pool = p.size;
  longest = p.longest;
  grows = p.grows;
  strategy = p.strategy;
  handler = x.handler p.number;
  loaned_responses = p.loaned_responses;
  held = p.held;
}

-- the handle of the machine; all of it is filled, unless it was handed out unfilled
abbrev pub handle_of : Given → MessagesByPlace → HandleState → m.Handle
handle_of x message h =
    let n : Message = message h.pool h.slot in record {
      node = h.node;
      number = h.number;
      kind = h.kind;
      port = h.port;
      message = n;
      filled = if is_uninit h.kind then x.filled h.pool h.slot else n.elements;
      client = h.client;
      lane = n.lane;
      request = n.request;
      connections = h.connections;
    }

-- the handles of a node, oldest first
abbrev pub handles_in : Given → MessagesByPlace → List HandleState → ℕ → List m.Handle
handles_in x message hs node = map (handle_of x message) (filter (λ h. h.node == node) hs)

-- how many loans of the port of that number succeeded
abbrev pub loans_in : List PortState → ℕ → ℕ
loans_in ports n = option_map_or (λ p. p.loans) (port_in ports n) 0

-- from whom the expired pipes of the port of that number came
abbrev pub expired_in : List PortState → ℕ → List ℕ
expired_in ports n = option_map_or (λ p. senders_of p.expired.pipes) (port_in ports n) []

-- ---- the state

-- the settings of the service
abbrev pub limits_of : Given → HubTables → Limits
limits_of x t = record {
  clients = t.settings.clients;
  servers = t.settings.servers;
  nodes = t.settings.nodes;
  active_requests = t.settings.active_requests;
  loaned_requests = t.settings.loaned_requests;
  response_buffer = t.settings.response_buffer;
  borrowed_responses = t.settings.borrowed_responses;
  loaned_responses = t.settings.loaned_responses;
  client_expired = t.settings.client_expired;
  server_expired = t.settings.server_expired;
  request_overflow = t.settings.request_overflow;
  response_overflow = t.settings.response_overflow;
  fire_and_forget = t.settings.fire_and_forget;
  client_strategy = t.settings.client_strategy;
  server_strategy = t.settings.server_strategy;
  client_allocation = t.settings.client_allocation;
  server_allocation = t.settings.server_allocation;
  request = x.request;
  response = x.response;
}

-- ports, handles, counts and limits; no wire is open, and nobody is forgotten
abbrev pub fixed_of : Given → HubTables → m.Fixed
fixed_of x t = record {
  limits = limits_of x t;
  acts = x.acts;
  on_wire = false;
  ports = map (port_of x) t.ports;
  ports_made = t.ports_made;
  handles = handles_in x (message_of x t.pools) t.handles;
  next_number = t.next_number;
  handles_made = λ n. 0;
  calls = t.calls;
  loans = loans_in t.ports;
  borrowed = borrowed_in (lane_on t.ports);
  expired = expired_in t.ports;
  forgot = λ n. [];
}

-- the state that the tables show
abbrev pub state_shown : Given → HubTables → m.State
state_shown x t =
    shown x.members (fixed_of x t) (message_of x t.pools) (lane_on t.ports) (state_on t.ports)
