-- Receivers for which nothing waits, and which have room.
use Rattle.std.specs.Prelude.{◌≡◌, ℕ, ◌≤◌, ◌==◌, false, [], length, Some}
use Rattle.iox_model.specs.declared.kind.Kind.{Kind}
use Rattle.iox_model.specs.declared.kind.Role.TheVariants.{Client}
use Rattle.iox_model.specs.Counts.{gives_up}
use Rattle.iox_model.specs.Doings.{Receiver}
use Rattle.iox_model.specs.Receives.{is_at_limit}
use Rattle.iox_tables.specs.HubStates.Receives.{way_to}
use Rattle.iox_tables.specs.HubStates.Tables.{HandleState}
use Rattle.iox_tables.specs.HubStates.Wirings.{handle_in}
use Rattle.iox_hub_laws.specs.Hubs.{HasValue, HubState}
use Rattle.iox_hub_laws.specs.Shown.{handle_of, shown}
use Rattle.iox_hub_laws.specs.Waiting.{NothingWaits, has_its_most}
use Rattle.iceoryx2_ports.specs.Reaching.{HasRoomForEach}

-- the client of that number, for its request of that id on that lane
abbrev pub client_on : ℕ → ℕ → ℕ → Receiver
client_on n lane request =
    record { port = n; role = Client; lane = lane; request = request }

-- Nothing waits for the receiver, and it has room.
pub record IsIdle (h : HubState) (x : Receiver) : Type 0 where
  pub none : NothingWaits h x
  pub room : HasRoomForEach h x

-- At most one message waits for the receiver, and it may have one more of each sender.
pub record AwaitsOne (h : HubState) (x : Receiver) : Type 0 where
  pub from : ℕ
  pub one : length ((shown h).waiting (way_to x from)) ≤ 1
  pub others :
      (sender : ℕ) → (sender == from) ≡ false → (shown h).waiting (way_to x sender) ≡ []
  pub borrows : (sender : ℕ) → has_its_most h x sender ≡ false

-- Nothing waits for the receiver, and once the node's handle of that number gave up its message, it
-- may have one more of each sender.
pub record IsIdleBut (h : HubState) (x : Receiver) (node n : ℕ) : Type 0 where
  pub none : NothingWaits h x
  pub handle : HandleState
  pub there : handle_in h.control.tables.handles node n ≡ Some handle
  pub borrows :
      (sender : ℕ)
      → is_at_limit (gives_up (shown h).fixed (handle_of h handle)) (way_to x sender) ≡ false

-- Each receiver that was idle still is.
abbrev pub KeepsIdle : HubState → HubState → Type 0
KeepsIdle old new = (x : Receiver) → IsIdle old x → IsIdle new x

-- For each receiver that was idle at most one message waits now.
abbrev pub BringsOne : HubState → HubState → Type 0
BringsOne old new = (x : Receiver) → IsIdle old x → AwaitsOne new x

-- If at most one message waited for the receiver, it is idle but for the node's handle of that
-- number.
abbrev pub TakesTheOne : HubState → Receiver → HubState → ℕ → ℕ → Type 0
TakesTheOne old x new node n = AwaitsOne old x → IsIdleBut new x node n

-- Each receiver that was idle but for the node's value of that number is idle.
abbrev pub GivesBack : HubState → ℕ → ℕ → Kind → HubState → Type 0
GivesBack old node n kind new =
    HasValue old node n kind → (x : Receiver) → IsIdleBut old x node n → IsIdle new x
