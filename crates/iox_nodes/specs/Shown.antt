-- The state of a service: its nodes, and what its hub shows.
use Rattle.std.specs.Prelude.{◌≡◌, List, [], Option, None}
use Rattle.iox_types.specs.declared.identifiers.system_id.UniqueSystemId.{UniqueSystemId}
use Rattle.iox_model.specs.Defaults.{words}
use Rattle.iox_model.specs.Runs.{IsServed}
use Rattle.iox_model.specs.Settings.{Limits, Shape}
use Rattle.iox_model.specs.States.{Members, State}
use Rattle.iox_members.specs.Nodes.{RegisteredMembers, room_in}
use Rattle.iox_members.specs.Registers.{Registrations}
use Rattle.iox_tables.specs.HubStates.States.{Given}
use Rattle.iox_tables.specs.HubStates.Tables.{HubSettings, HubTables}
use Rattle.iox_port_commands.specs.HandlerWords.{action_in}
use Rattle.iox_port_commands.specs.Handlers.{PortWords}
use Rattle.iox_port_commands.specs.Hubs.{HubState, state_of_hub}
use Rattle.iox_port_commands.specs.Words.{Carried}
use Rattle.iox_port_commands.specs.Applying.{HaveDefaults}

-- these nodes, and the answers of handlers by their words
abbrev pub given_for : Members → Given
given_for x = record {
  members = x;
  acts = action_in;
  handler = λ n. None;
  request = words 7;
  response = words 6;
  user = λ pool k. [];
  payload = λ pool k. [];
  filled = λ pool k. 0;
}

-- the state of a service with these nodes and that hub
abbrev pub state_of : Members → HubState → State
state_of x h = state_of_hub (given_for x) h

-- What a service keeps: its nodes, what is registered of them, the tables of its hub, what messages
-- carry, what they are made of, and the ports that have a handler.
pub record ServiceTables : Type 0 where
  pub members : Members
  pub registry : Registrations UniqueSystemId
  pub tables : HubTables
  pub words : List (Option Carried)
  pub request : Shape
  pub response : Shape
  pub handlers : List PortWords

-- what a service with these nodes and that hub keeps
abbrev pub tables_of : RegisteredMembers → HubState → ServiceTables
tables_of x h = record {
  members = x.members;
  registry = x.registry;
  tables = h.control.tables;
  words = h.words;
  request = h.request;
  response = h.response;
  handlers = h.handlers;
}

-- the machine's state that these tables show
abbrev pub service_of : ServiceTables → State
service_of v =
    state_of v.members (record {
      control = record { tables = v.tables; room = 0; port_room = 0 };
      words = v.words;
      request = v.request;
      response = v.response;
      handlers = v.handlers;
    })

-- the limits that these settings ask for, with such messages
abbrev pub limits_for : HubSettings → Shape → Shape → Limits
limits_for s request response = record {
  clients = s.clients;
  servers = s.servers;
  nodes = s.nodes;
  active_requests = s.active_requests;
  loaned_requests = s.loaned_requests;
  response_buffer = s.response_buffer;
  borrowed_responses = s.borrowed_responses;
  loaned_responses = s.loaned_responses;
  client_expired = s.client_expired;
  server_expired = s.server_expired;
  request_overflow = s.request_overflow;
  response_overflow = s.response_overflow;
  fire_and_forget = s.fire_and_forget;
  client_strategy = s.client_strategy;
  server_strategy = s.server_strategy;
  client_allocation = s.client_allocation;
  server_allocation = s.server_allocation;
  request = request;
  response = response;
}

-- What is so of each service with these nodes and this hub: only its own nodes asked its hub, and
-- each element has a default.
pub record IsService (x : Members) (h : HubState) : Type 0 where
  pub served : IsServed (state_of x h)
  pub defaults : HaveDefaults h

-- What is so of each service beside: as many nodes may be registered as it may have.
pub record IsServiceWithRoom (x : RegisteredMembers) (h : HubState) : Type 0 where
  pub service : IsService x.members h
  pub room : room_in x ≡ h.control.tables.settings.nodes
