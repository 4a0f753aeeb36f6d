-- What the send of a request lets servers receive.
use Rattle.std.specs.Prelude.{◌≡◌, ℕ, true, false, List}
use Rattle.iox_model.specs.declared.kind.Kind.TheVariants.{Server}
use Rattle.iox_model.specs.Doings.{Receiver}
use Rattle.iox_model.specs.Messages.{Message}
use Rattle.iox_model.specs.Peers.{is_connected_port}
use Rattle.iox_model.specs.States.{Handle}
use Rattle.iox_laws.specs.CallFunctions.Sends.{is_full}
use Rattle.iox_tables.specs.HubStates.Receives.{way_to}
use Rattle.iox_hub_laws.specs.Hubs.{HasValue, HubState}
use Rattle.iox_hub_laws.specs.Sends.{IsRequestSent}
use Rattle.iox_hub_laws.specs.Shown.{shown}
use Rattle.iox_hub_laws.specs.Waiting.{CanCome, has_its_most, server_of}

-- The receiver has room for one more message of each connected sender: fewer wait than its buffer
-- holds, and it may have one more.
pub record HasRoomForEach (h : HubState) (x : Receiver) : Type 0 where
  pub buffers :
      (sender : ℕ) → is_connected_port (shown h).fixed sender ≡ true
      → is_full (shown h) (way_to x sender) ≡ false
  pub borrows : (sender : ℕ) → has_its_most h x sender ≡ false

-- Each receiver that had room still has it.
abbrev pub KeepsRoom : HubState → HubState → Type 0
KeepsRoom old new = (x : Receiver) → HasRoomForEach old x → HasRoomForEach new x

-- some message can be received
abbrev pub SomeCanCome : HubState → Receiver → Type 0
SomeCanCome h x = (sender : ℕ) × (m : Message) × CanCome h x sender m

-- For each server that had room there is a message that it can receive.
abbrev pub ReachesServers : HubState → HubState → Type 0
ReachesServers old new =
    (node server : ℕ) → HasValue old node server Server → HasRoomForEach old (server_of server)
    → SomeCanCome new (server_of server)

-- A request of the client with these words is sent.
pub record CopiesRequest (old : HubState) (client : ℕ) (words : List ℕ) (new : HubState) : Type 0
  where
    pub request : Handle
    pub port : request.port ≡ client
    pub carries : request.message.payload ≡ words
    pub sent : IsRequestSent old new request
