-- What the send of a response lets its client receive.
use Rattle.std.specs.Prelude.{◌≡◌, ℕ, Bool, true, false}
use Rattle.std.specs.Option.{option_map_or}
use Rattle.iox_model.specs.declared.kind.Kind.TheVariants.{Server}
use Rattle.iox_model.specs.declared.kind.Role.TheVariants.{Client}
use Rattle.iox_model.specs.Doings.{Receiver}
use Rattle.iox_tables.specs.HubLoans.Questions.{is_named_by_client}
use Rattle.iox_tables.specs.HubStates.Releases.{lane_of, request_of}
use Rattle.iox_tables.specs.HubStates.Tables.{HandleState, HubTables}
use Rattle.iox_tables.specs.HubStates.Wirings.{handle_in}
use Rattle.iox_hub_laws.specs.Hubs.{HasValue, HubState}
use Rattle.iox_hub_laws.specs.Waiting.{server_of}
use Rattle.iceoryx2_ports.specs.Reaching.{HasRoomForEach, SomeCanCome}

-- who asked: the client of that active request, for the request
abbrev pub asker_of : HubTables → HandleState → Receiver
asker_of t active = record {
  port = active.client;
  role = Client;
  lane = lane_of t active;
  request = request_of t active;
}

-- the same of the node's active request of that number
abbrev pub asker_in : HubState → ℕ → ℕ → Receiver
asker_in h node n =
    option_map_or (asker_of h.control.tables) (handle_in h.control.tables.handles node n)
    (server_of n)

-- whether the node's active request of that number is open: its client is connected, and did not
-- give it up
abbrev pub is_open : HubState → ℕ → ℕ → Bool
is_open h node n =
    option_map_or (λ (active : HandleState). is_named_by_client h.control.tables active false)
    (handle_in h.control.tables.handles node n) false

-- If the node's active request of that number is open, and who asked has room, there is a message
-- that it can receive.
abbrev pub ReachesAsker : HubState → ℕ → ℕ → HubState → Type 0
ReachesAsker old node n new =
    is_open old node n ≡ true → HasRoomForEach old (asker_in old node n)
    → SomeCanCome new (asker_in old node n)

-- the server of the node's loaned response of that number
abbrev pub answerer_in : HubState → ℕ → ℕ → ℕ
answerer_in h node n =
    option_map_or (λ (loan : HandleState). loan.port) (handle_in h.control.tables.handles node n) n

-- It is so of the node's loaned response of that number, where its server is not released: else the
-- server may go with the last of its loans.
abbrev pub ReachesItsAsker : HubState → ℕ → ℕ → HubState → Type 0
ReachesItsAsker old node n new =
    (owner : ℕ) → HasValue old owner (answerer_in old node n) Server
    → ReachesAsker old node n new
