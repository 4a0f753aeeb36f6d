-- Worked tables: what the laws ask is so there, and a server receives.
use Rattle.std.specs.Prelude.{◌≡◌, ℕ, ◌<◌, ◌^◌, true, false, [], ◌∷◌, Some, None}
use Rattle.iox_laws.specs.BackpressureStrategy.TheVariants.{DiscardData}
use Rattle.iox_laws.specs.AllocationStrategy.TheVariants.{Static}
use Rattle.iox_model.specs.declared.kind.Role.{Role}
use Rattle.iox_model.specs.declared.kind.Role.TheVariants.{Client, Server}
use Rattle.iox_model.specs.declared.reply.Reply.TheVariants as replies
use Rattle.iox_model.specs.declared.way.RequestState.TheVariants.{Named}
use Rattle.iox_model.specs.Messages.{request_way}
use Rattle.iox_laws.specs.CallFunctions.Searches.{received}
use Rattle.iox_lanes.specs.Incomings.{no_pipes}
use Rattle.iox_lanes.specs.Lanes.{delivered, empty_lane}
use Rattle.iox_lanes.specs.Pipes.{PipeState, new_pipe}
use Rattle.iox_tables.specs.HubStates.Tables.{HubSettings, HubTables, PortState}
use Rattle.iox_tables.specs.HubStates.Ways.{with_pipes}
use Rattle.iox_tables.specs.HubStates.States.{Given, message_of, no_id, state_shown}
use Rattle.iox_tables.specs.HubStates.Wirings.{HaveLimits, IsServer, IsWired}

-- one of everything, and requests that are given up are not received
abbrev pub one_of_each : HubSettings
one_of_each = record {
  clients = 1;
  servers = 1;
  nodes = 1;
  active_requests = 1;
  loaned_requests = 1;
  response_buffer = 1;
  borrowed_responses = 1;
  loaned_responses = 1;
  client_expired = 0;
  server_expired = 0;
  request_overflow = true;
  response_overflow = true;
  fire_and_forget = false;
  client_strategy = DiscardData;
  server_strategy = DiscardData;
  client_allocation = Static;
  server_allocation = Static;
}

-- a port of node 0, whose only pipe is this one
abbrev pub port_with : ℕ → Role → PipeState → PortState
port_with n role pipe = record {
  number = n;
  node = 0;
  role = role;
  node_id = no_id;
  id = no_id;
  pool = n;
  size = 1;
  longest = 1;
  grows = false;
  strategy = DiscardData;
  loaned_responses = 1;
  held = true;
  loans = 1;
  expired = no_pipes 0;
  incoming = with_pipes (no_pipes 1) (pipe ∷ []);
}

-- the request in place 0 of the client's pool waits, and it is open
abbrev pub requests : PipeState
requests = record {
  sender = 0;
  lanes = delivered (empty_lane 0 1 1) 0 ∷ [];
  states = Named 7 false ∷ [];
}

-- client 0 sent its request 7 to server 1
abbrev pub one_request : HubTables
one_request = record {
  settings = one_of_each;
  calls = 2;
  next_number = 3;
  ports_made = 2;
  ports = port_with 0 Client (new_pipe 1 1 1 1 1 0) ∷ port_with 1 Server requests ∷ [];
  handles = [];
  pools =
      Some
      (record {
        port = 0;
        node_id = no_id;
        port_id = no_id;
        slots =
            record { serial = 0; lane = 0; request = 7; elements = 1; holders = 2 } ∷ [];
      })
      ∷ None ∷ [];
}

-- The message waits in the state that the tables show. What the law of receives asks is so, and so
-- the server's receive answers a handle; then nothing waits, and one message is borrowed.
abbrev pub ServerReceivesOnce : Type 0
ServerReceivesOnce =
    (x : Given)
    → ((state_shown x one_request).waiting (request_way 0 1)
    ≡ message_of x one_request.pools 0 0 ∷ [])
    × (server : IsServer one_request 0 1) × IsWired one_request server.port
    × HaveLimits one_request × (one_request.calls < 2 ^ 56)
    × ((received (state_shown x one_request) 0 1).0 ≡ replies.Handle 3)
    × ((received (state_shown x one_request) 0 1).1.waiting (request_way 0 1) ≡ [])
    × ((received (state_shown x one_request) 0 1).1.fixed.borrowed (request_way 0 1) ≡ 1)
