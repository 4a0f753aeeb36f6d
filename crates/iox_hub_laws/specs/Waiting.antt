-- What waits for a receiver of a hub, and what its receive says of it.
use Rattle.std.specs.Prelude.{◌≡◌, ℕ, Bool, true, false, List, [], Some}
use Rattle.std.specs.Option.{option_map_or}
use Rattle.iox_model.specs.declared.kind.Role.TheVariants.{Client, Server}
use Rattle.iox_model.specs.Doings.{Receiver}
use Rattle.iox_model.specs.Messages.{Message}
use Rattle.iox_model.specs.Receives.{is_at_limit}
use Rattle.iox_laws.specs.CallFunctions.Searches.{fits}
use Rattle.iox_laws.specs.MessageLaws.Lists.{IsOneOf}
use Rattle.iox_tables.specs.HubStates.Receives.{way_to}
use Rattle.iox_tables.specs.HubStates.Releases.{lane_of, request_of}
use Rattle.iox_tables.specs.HubStates.Tables.{HandleState, HubTables}
use Rattle.iox_tables.specs.HubStates.Wirings.{handle_in}
use Rattle.iox_hub.specs.Received.{Received}
use Rattle.iox_hub.specs.Received.TheVariants.{Handle, Nothing, AtLimit}
use Rattle.iox_hub.specs.Hubs.{HubState}
use Rattle.iox_hub_laws.specs.Shown.{shown}

-- ---- who receives

-- the server of that number
abbrev pub server_of : ℕ → Receiver
server_of n = record { port = n; role = Server; lane = 0; request = 0 }

-- the client of that pending response, for its request
abbrev pub client_of : HubTables → HandleState → Receiver
client_of t pending = record {
  port = pending.port;
  role = Client;
  lane = lane_of t pending;
  request = request_of t pending;
}

-- the same of the node's pending response of that number
abbrev pub client_in : HubState → ℕ → ℕ → Receiver
client_in h node n =
    option_map_or (client_of h.control.tables) (handle_in h.control.tables.handles node n)
    (server_of n)

-- ---- what waits for it

-- the message, from that sender, waits for the receiver
abbrev pub IsWaiting : HubState → Receiver → ℕ → Message → Type 0
IsWaiting h x sender m = IsOneOf m ((shown h).waiting (way_to x sender))

-- Nothing waits for the receiver.
pub record NothingWaits (h : HubState) (x : Receiver) : Type 0 where
  pub empty : (sender : ℕ) → (shown h).waiting (way_to x sender) ≡ []

-- All that waits for the receiver carries these words.
pub record AllCarry (h : HubState) (x : Receiver) (words : List ℕ) : Type 0 where
  pub each : (sender : ℕ) (m : Message) → IsWaiting h x sender m → m.payload ≡ words

-- the receiver may have no more messages of that sender
abbrev pub has_its_most : HubState → Receiver → ℕ → Bool
has_its_most h x sender = is_at_limit (shown h).fixed (way_to x sender)

-- The message can be received: it waits, it fits, and the receiver may have one more of its sender.
-- A response fits if it answers the request. A request fits under fire-and-forget, and else if its
-- client did not give it up.
pub record CanCome (h : HubState) (x : Receiver) (sender : ℕ) (m : Message) : Type 0 where
  pub waits : IsWaiting h x sender m
  pub fit : fits (shown h) x (way_to x sender) m ≡ true
  pub room : has_its_most h x sender ≡ false

-- The message waits, but the receiver may have no more of its sender.
pub record IsHeldBack (h : HubState) (x : Receiver) (sender : ℕ) (m : Message) : Type 0 where
  pub waits : IsWaiting h x sender m
  pub most : has_its_most h x sender ≡ true

-- no message can be received
abbrev pub NoneCanCome : HubState → Receiver → Type 0
NoneCanCome h x = (sender : ℕ) (m : Message) → CanCome h x sender m → ⊥

-- no message is held back
abbrev pub NoneIsHeldBack : HubState → Receiver → Type 0
NoneIsHeldBack h x = (sender : ℕ) (m : Message) → IsHeldBack h x sender m → ⊥

-- What a receive answers, by what waited.
abbrev pub WaitedFor : HubState → Receiver → Received → Type 0
-- some message can be received
WaitedFor h x (Handle n) = (sender : ℕ) × (m : Message) × CanCome h x sender m
-- none can, and none is held back
WaitedFor h x Nothing = NoneCanCome h x × NoneIsHeldBack h x
-- none can, and some is held back
WaitedFor h x AtLimit =
    NoneCanCome h x × ((sender : ℕ) × (m : Message) × IsHeldBack h x sender m)

-- what waited for the client of the pending response of that number
abbrev pub WaitedForPending : HubState → ℕ → ℕ → Received → Type 0
WaitedForPending h node number r =
    (pending : HandleState) → handle_in h.control.tables.handles node number ≡ Some pending
    → WaitedFor h (client_of h.control.tables pending) r
