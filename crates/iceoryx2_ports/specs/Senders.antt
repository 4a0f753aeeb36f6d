-- Which port sent what waits for a receiver, and what a handle has.
use Rattle.std.specs.Prelude.{◌≡◌, ℕ}
use Rattle.iox_model.specs.Doings.{Receiver}
use Rattle.iox_model.specs.Messages.{Message}
use Rattle.iox_hub_laws.specs.Headers.{sender_in}
use Rattle.iox_hub_laws.specs.Hubs.{HubState}
use Rattle.iox_hub_laws.specs.Waiting.{IsWaiting, NothingWaits}

-- All that waits for the receiver was sent by that port.
pub record AllFrom (h : HubState) (x : Receiver) (port : ℕ) : Type 0 where
  pub each : (sender : ℕ) (m : Message) → IsWaiting h x sender m → m.sender ≡ port

-- For whom nothing waited, all that waits now was sent by that port.
abbrev pub BringsFrom : HubState → ℕ → HubState → Type 0
BringsFrom old port new = (x : Receiver) → NothingWaits old x → AllFrom new x port

-- If all that waited for the receiver was sent by one port, so was what the node's handle has.
abbrev pub TakesFrom : HubState → Receiver → HubState → ℕ → ℕ → Type 0
TakesFrom old x new node n = (port : ℕ) → AllFrom old x port → sender_in new node n ≡ port
