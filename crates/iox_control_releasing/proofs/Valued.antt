-- The release of a port's own value: all that is so of a hub stays so, and it is the machine's.
use Rattle.std.specs.Prelude.{◌≡◌, ℕ, ◌+◌, ◌-◌, ◌≤◌, Bool, true, false, if◌then◌else◌, ◌==◌, List, [], ◌∷◌, Option, is_some, refl}
use Rattle.std.proofs.Common.{ap, ◌∙◌, arith}
use Rattle.iox_model.specs.declared.call.Call.TheVariants.{Release}
use Rattle.iox_model.specs.declared.reply.Reply.TheVariants.{Done}
use Rattle.iox_model.specs.WholeCalls.{IsWholeCall}
use Rattle.iox_laws.proofs.CallFunctions.Releasing.{each_release_is_whole}
use Rattle.iox_tables.specs.HubStates.Tables.{HubTables, PortState}
use Rattle.iox_tables.specs.HubStates.Releases.{with_value_released}
use Rattle.iox_tables.specs.HubStates.States.{Given, state_shown}
use Rattle.iox_tables.specs.HubStates.Ways.{with_port}
use Rattle.iox_tables.specs.HubBooks.Counts.{in_port, on_lanes, total}
use Rattle.iox_tables.specs.HubBooks.Rooms.{CanCountHolders, HasRoomForAll, own_count, spare}
use Rattle.iox_tables.proofs.HubBooks.Eachs.{OfPort, all_with_first}
use Rattle.iox_tables.specs.HubMaking.Disconnections.{with_released}
use Rattle.iox_tables.proofs.HubMaking.Ending.{ports_end}
use Rattle.iox_tables.proofs.HubKeeping.Ordered.{may_go, names_apart}
use Rattle.iox_tables.proofs.HubKeeping.Unholding.{values_keep_order}
use Rattle.iox_control.specs.Controls.{ControlState, IsControl, with_tables}
use Rattle.iox_control.proofs.RoomLemmas.{room_as, value_seats}
use Rattle.iox_control.proofs.WholeLemmas.{is_whole_of}
use Rattle.iox_control_releasing.specs.Named.{IsHeldPort}

abbrev unheld : PortState → PortState
unheld p = record p { held = false }

-- a sum of what the change of a port leaves
pub total_changed : (f : PortState → ℕ) (g : PortState → PortState) → ((p : PortState) → f (g p) ≡ f p) → (ports : List PortState) (n : ℕ)
    → total f (with_port g ports n) ≡ total f ports
total_changed f g same [] n = refl
total_changed f g same (p ∷ ps) n = step (p.number == n) (total_changed f g same ps n)
  where
    step : (b : Bool) → total f (with_port g ps n) ≡ total f ps → total f (if b then g p ∷ ps else p ∷ with_port g ps n) ≡ f p + total f ps
    step true rest = ap (λ k. k + total f ps) (same p)
    step false rest = ap (λ k. f p + k) rest

module _ (c : ControlState) (n : ℕ) (order : IsControl c) where
  abbrev t : HubTables
  t = c.tables

  abbrev u : HubTables
  u = with_value_released t n

  pub value_gone : IsControl (with_tables c u)
  value_gone = record {
    buffers = order.buffers;
    order = values_keep_order t n order.order;
    ports = room_as t u refl (value_seats t.ports n) order.ports;
    counted = record {
      calls = order.counted.calls;
      ports = order.counted.ports;
      numbers = order.counted.numbers;
      loans = all_with_first (λ p. p.loans ≤ t.calls) (λ p. p.number) unheld t.ports n (λ p a. a) order.counted.loans;
      deliveries = all_with_first (OfPort (λ l. l.deliveries ≤ t.calls)) (λ p. p.number) unheld t.ports n (λ p a. a) order.counted.deliveries;
    };
    room =
        let lanes : on_lanes spare u.ports ≡ on_lanes spare t.ports = total_changed (in_port spare) unheld (λ p. refl) t.ports n in
        let own : total (λ p. p.size - own_count t.handles p) u.ports ≡ total (λ p. p.size - own_count t.handles p) t.ports
        = total_changed (λ p. p.size - own_count t.handles p) unheld (λ p. refl) t.ports n in
        let was : HasRoomForAll c.room t = order.room in
        omega (arith, lanes, own, was);
    holders =
        let lanes : on_lanes (λ l. 1) u.ports ≡ on_lanes (λ l. 1) t.ports = total_changed (in_port (λ l. 1)) unheld (λ p. refl) t.ports n in
        let was : CanCountHolders c.room t = order.holders in
        omega (arith, lanes, was);
  }

-- the release is a whole call, whatever pools it leaves that show the same
pub port_released : (x : Given) (c : ControlState) (node n : ℕ) (new : HubTables) → IsControl c → (port : IsHeldPort c.tables node n)
    → state_shown x (with_released (with_value_released c.tables n) n) ≡ state_shown x new
    → IsWholeCall (state_shown x c.tables) node (Release n) Done (state_shown x new)
port_released x c node n new order port shown =
    is_whole_of (state_shown x c.tables) node (Release n) _ Done (state_shown x new)
    (each_release_is_whole (state_shown x c.tables) node n)
    (ports_end x c.tables node n port.port port.there port.on_node port.held (names_apart c.tables order.order) (may_go c.tables order.order n (ap (λ (o : Option PortState). is_some o) port.there))
    ∙ ap (λ s. (Done, s)) shown)
