-- What a receive of a hub hands out.
use Rattle.std.specs.Prelude.{◌≡◌, ℕ, List, Some, ⊤}
use Rattle.iox_model.specs.declared.kind.Kind.TheVariants.{ActiveRequest, Response}
use Rattle.iox_model.specs.Doings.{Receiver}
use Rattle.iox_model.specs.Handles.{way_of}
use Rattle.iox_tables.specs.HubStates.Releases.{lane_of, request_of}
use Rattle.iox_tables.specs.HubStates.Tables.{HandleState}
use Rattle.iox_tables.specs.HubStates.Wirings.{handle_in}
use Rattle.iox_hub.specs.Received.{Received}
use Rattle.iox_hub.specs.Received.TheVariants.{Handle, Nothing, AtLimit}
use Rattle.iox_hub.specs.Hubs.{HubState, IsReached}
use Rattle.iox_hub.specs.Reads.{message_in}
use Rattle.iox_hub_laws.specs.Receipts.{ComesNext}
use Rattle.iox_hub_laws.specs.Shown.{beats_of, handle_of}
use Rattle.iox_hub_laws.specs.Waiting.{AllCarry, CanCome, client_of, server_of}

-- The node has a new handle, whose message came next on its way, whatever history led to the state
-- before: it was delivered there, was not taken before, and comes behind all that were. What the
-- handle reads is that message, word by word.
pub record TakesNext (old new : HubState) (node n : ℕ) : Type 0 where
  pub handle : HandleState
  pub there : handle_in new.control.tables.handles node n ≡ Some handle
  pub next :
      (r : IsReached old)
      → ComesNext (way_of (handle_of new handle)) (handle_of new handle).message (beats_of old r)
  pub user : (message_in new node n).user ≡ (handle_of new handle).message.user
  pub payload : (message_in new node n).payload ≡ (handle_of new handle).message.payload

-- a server's receive takes what comes next, if it takes something: a message that could be received
abbrev pub TakesRequest : HubState → ℕ → ℕ → Received → HubState → Type 0
TakesRequest old node server (Handle n) new =
    (got : TakesNext old new node n) × (got.handle.kind ≡ ActiveRequest)
    × (got.handle.port ≡ server)
    × CanCome old (server_of server) got.handle.client (handle_of new got.handle).message
TakesRequest old node server Nothing new = ⊤
TakesRequest old node server AtLimit new = ⊤

-- a response is received at its own request: it is on the lane of the pending response, names its
-- request, and could be received there
pub record IsAtItsRequest (old : HubState) (pending : HandleState) (new : HubState) (got : HandleState)
    : Type 0 where
  pub kind : got.kind ≡ Response
  pub port : got.port ≡ pending.port
  pub lane : lane_of new.control.tables got ≡ lane_of old.control.tables pending
  pub request : request_of new.control.tables got ≡ request_of old.control.tables pending
  pub came :
      CanCome old (client_of old.control.tables pending) (handle_of new got).message.sender
      (handle_of new got).message

-- the receive of a pending response takes what comes next, if it takes something, at its own request
abbrev pub TakesResponse : HubState → ℕ → ℕ → Received → HubState → Type 0
TakesResponse old node number (Handle n) new =
    (got : TakesNext old new node n)
    × ((pending : HandleState) → handle_in old.control.tables.handles node number ≡ Some pending
    → IsAtItsRequest old pending new got.handle)
TakesResponse old node number Nothing new = ⊤
TakesResponse old node number AtLimit new = ⊤

-- ---- what it carries

-- If all that waited for the receiver carries these words, so does the node's handle.
abbrev pub CarriesWhatWaited : HubState → Receiver → HubState → ℕ → ℕ → Type 0
CarriesWhatWaited old x new node n =
    (words : List ℕ) → AllCarry old x words → (message_in new node n).payload ≡ words

-- so does what the node gets
abbrev pub GetsOnly : HubState → Receiver → ℕ → Received → HubState → Type 0
GetsOnly old x node (Handle n) new = CarriesWhatWaited old x new node n
GetsOnly old x node Nothing new = ⊤
GetsOnly old x node AtLimit new = ⊤
