-- Receivers that have room once they give up a message.
use Rattle.std.specs.Prelude.{◌≡◌, ℕ, true, false, Some}
use Rattle.iox_model.specs.declared.kind.Kind.{Kind}
use Rattle.iox_model.specs.Counts.{gives_up}
use Rattle.iox_model.specs.Doings.{Receiver}
use Rattle.iox_model.specs.Peers.{is_connected_port}
use Rattle.iox_model.specs.Receives.{is_at_limit}
use Rattle.iox_laws.specs.CallFunctions.Sends.{is_full}
use Rattle.iox_tables.specs.HubStates.Receives.{way_to}
use Rattle.iox_tables.specs.HubStates.Tables.{HandleState}
use Rattle.iox_tables.specs.HubStates.Wirings.{handle_in}
use Rattle.iox_hub_laws.specs.Hubs.{HasValue, HubState}
use Rattle.iox_hub_laws.specs.Shown.{handle_of, shown}
use Rattle.iceoryx2_ports.specs.Reaching.{HasRoomForEach}

-- The receiver has room for one more message of each connected sender, and once the node's handle
-- of that number gave up its message, it may have one more of each.
pub record HasRoomBut (h : HubState) (x : Receiver) (node n : ℕ) : Type 0 where
  pub buffers :
      (sender : ℕ) → is_connected_port (shown h).fixed sender ≡ true
      → is_full (shown h) (way_to x sender) ≡ false
  pub handle : HandleState
  pub there : handle_in h.control.tables.handles node n ≡ Some handle
  pub borrows :
      (sender : ℕ)
      → is_at_limit (gives_up (shown h).fixed (handle_of h handle)) (way_to x sender) ≡ false

-- If the receiver had room, it has room but for the node's handle of that number.
abbrev pub TakesOfRoom : HubState → Receiver → HubState → ℕ → ℕ → Type 0
TakesOfRoom old x new node n = HasRoomForEach old x → HasRoomBut new x node n

-- Each receiver that had room but for the node's value of that number has room.
abbrev pub GivesRoomBack : HubState → ℕ → ℕ → Kind → HubState → Type 0
GivesRoomBack old node n kind new =
    HasValue old node n kind → (x : Receiver) → HasRoomBut old x node n → HasRoomForEach new x
