-- Worked tables: a client and a server are made, and the client goes.
use Rattle.std.specs.Prelude.{◌≡◌, true, false, List, [], ◌∷◌, length, Option, Some, None}
use Rattle.iox_model.specs.declared.kind.Role.TheVariants.{Client, Server}
use Rattle.iox_model.specs.declared.reply.Refusal.TheVariants.{ExceedsMaxSupportedClients}
use Rattle.iox_model.specs.declared.reply.Reply.TheVariants.{Done}
use Rattle.iox_model.specs.declared.reply.Reply.TheVariants as replies
use Rattle.iox_model.specs.Commands.{Create}
use Rattle.iox_model.specs.declared.way.RequestState.TheVariants.{Closed, Named}
use Rattle.iox_model.specs.Expiries.{disconnected}
use Rattle.iox_model.specs.Joins.{new_node}
use Rattle.iox_model.specs.Makings.{IsHubCommand}
use Rattle.iox_model.specs.Messages.{request_way, response_way}
use Rattle.iox_model.specs.Defaults.{follow, words}
use Rattle.iox_laws.specs.WorkedExamples.Examples.{of_length_one, process}
use Rattle.iox_laws.specs.CallFunctions.Releases.{released_by}
use Rattle.iox_lanes.specs.Pipes.{new_pipe}
use Rattle.iox_tables.specs.HubStates.Tables.{HubTables, PoolState, PortState, numbers_of, pipes_to}
use Rattle.iox_tables.specs.HubStates.States.{Given, state_shown}
use Rattle.iox_tables.specs.HubStates.Releases.{with_value_released}
use Rattle.iox_tables.specs.HubStates.Worked.{one_of_each, one_request}
use Rattle.iox_tables.specs.HubMaking.Disconnections.{is_unused, with_disconnected}
use Rattle.iox_tables.specs.HubMaking.FreePools.{with_pool_gone}
use Rattle.iox_tables.specs.HubMaking.NewPorts.{given_made, making_refused, pool_made, port_made, with_port_made}
use Rattle.iox_tables.specs.HubMaking.Starts.{no_ports}
use Rattle.iox_tables.specs.HubMaking.WholeReleases.{answering}

-- one node, and no handlers
abbrev pub at_first : Given
at_first = record {
  members = record { nodes = new_node 0 (process 1) ∷ []; joins = 1; closed = false };
  acts = follow;
  handler = λ n. None;
  request = words 7;
  response = words 6;
  user = λ pool k. [];
  payload = λ pool k. [];
  filled = λ pool k. 0;
}

-- the same once one port is made
abbrev pub after_one : Given
after_one = given_made at_first at_first 0 None

-- and once two are
abbrev pub after_two : Given
after_two = given_made after_one after_one 1 None

-- client 0, whose pool is in place 0
abbrev pub the_client : PortState
the_client = port_made at_first (no_ports one_of_each) 0 Client (process 1) of_length_one 0

-- with the client there is one port
abbrev pub one_port : HubTables
one_port = with_port_made (no_ports one_of_each) the_client (Some (pool_made the_client) ∷ [])

-- server 1, whose pool is in place 1
abbrev pub the_server : PortState
the_server = port_made after_one one_port 0 Server (process 1) of_length_one 1

-- the pools of both
abbrev pub two_pools : List (Option PoolState)
two_pools = Some (pool_made the_client) ∷ Some (pool_made the_server) ∷ []

-- with the server there are two
abbrev pub two_ports : HubTables
two_ports = with_port_made one_port the_server two_pools

-- the client of the request that waits is gone
abbrev pub without_client : HubTables
without_client = with_disconnected one_request 0

-- the server is alone
abbrev pub one_left : HubTables
one_left = with_disconnected (with_value_released two_ports 0) 0

-- Of one who sent a request that still waits: as the client goes, so does the request, and nothing
-- else changes for the server.
pub record RequestGoesWithClient (x : Given) : Type 0 where
  pub shown : disconnected (state_shown x one_request) 0 ≡ state_shown x without_client
  pub waited : length ((state_shown x one_request).waiting (request_way 0 1)) ≡ 1
  pub gone : (state_shown x without_client).waiting (request_way 0 1) ≡ []
  pub open_before :
      (state_shown x one_request).request_state (response_way 0 0 1) ≡ Named 7 false
  pub closed : (state_shown x without_client).request_state (response_way 0 0 1) ≡ Closed

-- A request goes with its client.
abbrev pub RequestsGoWithClients : Type 0
RequestsGoWithClients = (x : Given) → RequestGoesWithClient x

-- The two are made by the machine's commands. The client has four lanes from the server, one for
-- each of its messages; the server has one from the client, with four request states. One more
-- client is refused. The client's release disconnects it: then the server has no pipe, and the
-- client's pool may go.
pub record OneOfEachIsMade : Type 0 where
  pub client :
      IsHubCommand (state_shown at_first (no_ports one_of_each)) 0
      (Create Client (process 1) of_length_one) (replies.Client 0)
      (state_shown after_one one_port)
  pub server :
      IsHubCommand (state_shown after_one one_port) 0 (Create Server (process 1) of_length_one)
      (replies.Server 1) (state_shown after_two two_ports)
  pub to_client : pipes_to two_ports.ports 0 ≡ new_pipe 1 1 4 1 1 0 ∷ []
  pub to_server : pipes_to two_ports.ports 1 ≡ new_pipe 0 0 1 1 1 4 ∷ []
  pub no_more :
      making_refused after_two two_ports Client of_length_one true
      ≡ Some ExceedsMaxSupportedClients
  pub used : is_unused two_ports 0 ≡ false
  pub released :
      released_by (state_shown after_two two_ports) 0 0 ≡ answering after_two (Done, one_left)
  pub left : numbers_of one_left.ports ≡ 1 ∷ []
  pub nothing_comes : pipes_to one_left.ports 1 ≡ []
  pub pool_goes :
      state_shown after_two one_left ≡ state_shown after_two (with_pool_gone one_left 0)
