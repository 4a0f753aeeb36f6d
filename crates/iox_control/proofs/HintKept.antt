-- A hint: what it changes, and that all that is so of a hub stays so.
use Rattle.std.specs.Prelude.{◌≡◌, ℕ, ◌-◌, ◌≤◌, List, map, refl}
use Rattle.std.proofs.Common.{sym, ap, subst, ◌∙◌, arith}
use Rattle.iox_handles.specs.declared.entry.Entry.{Entry}
use Rattle.iox_lanes.specs.declared.wanted.Label.{Label}
use Rattle.iox_model.specs.declared.call.Call.TheVariants.{SetHint}
use Rattle.iox_model.specs.declared.kind.Role.TheVariants.{Server}
use Rattle.iox_model.specs.declared.reply.Reply.TheVariants.{Done}
use Rattle.iox_model.specs.declared.way.RequestState.{RequestState}
use Rattle.iox_model.specs.declared.way.Way.{Way}
use Rattle.iox_model.specs.Messages.{hinted_for, response_way}
use Rattle.iox_model.specs.WholeCalls.{IsWholeCall}
use Rattle.iox_laws.proofs.CallFunctions.Looking.{each_hint_is_whole}
use Rattle.iox_hub_ports.specs.HubStates.Tables.{HandleState, HubTables, labels_of}
use Rattle.iox_hub_ports.specs.HubStates.States.{Given, state_shown}
use Rattle.iox_hub_ports.specs.HubStates.Changes.{with_states}
use Rattle.iox_hub_ports.specs.HubStates.Wirings.{IsPending, numbers_of_role}
use Rattle.iox_hub_ports.proofs.HubStates.Sending.{hints_are_given}
use Rattle.iox_hub_ports.specs.HubBooks.Counts.{on_lanes, total}
use Rattle.iox_hub_ports.specs.HubBooks.Rooms.{CanCountHolders, HasRoomForAll, own_count, spare}
use Rattle.iox_hub_ports.proofs.HubBooks.Frames.{bare_ports, states_on_bare}
use Rattle.iox_hub_ports.proofs.HubBooks.Little.{little_changes_keep_order}
use Rattle.iox_hub_ports.proofs.HubBooks.Released.{states_keep, states_total}
use Rattle.iox_control.specs.Controls.{ControlState, IsControl, with_hint, with_tables}
use Rattle.iox_control.specs.Entries.{handle_state}
use Rattle.iox_control.proofs.RoomLemmas.{room_as, states_seats}
use Rattle.iox_control.proofs.WholeLemmas.{is_whole_of}
use Rattle.iox_hub_ports.proofs.HubBooks.Alike.{loans_stay, own_stays}

-- what is told to the servers, by the handle
pub hint_is : (c new : ControlState) (h : HandleState) (e : Entry) (l : Label) → handle_state e ≡ h → l ≡ labels_of c.tables.pools e.pool e.slot
    → new ≡ with_tables c (with_states (λ r. hinted_for r l.request) c.tables (map (response_way e.port l.lane) (numbers_of_role Server c.tables.ports)))
    → new ≡ with_tables c (with_hint c.tables h)
hint_is c new h e l same at is =
    is
    ∙ ap (λ (m : Label). with_tables c (with_states (λ r. hinted_for r m.request) c.tables (map (response_way e.port m.lane) (numbers_of_role Server c.tables.ports)))) at
    ∙ ap (λ (k : HandleState). with_tables c (with_hint c.tables k)) same

module _ (c : ControlState) (g : RequestState → RequestState) (ws : List Way) (order : IsControl c) where
  abbrev t : HubTables
  t = c.tables

  abbrev left : HubTables
  left = with_states g t ws

  bare : bare_ports left.ports ≡ bare_ports t.ports
  bare = states_on_bare g t.ports ws

  -- all that is so of a hub stays so as request states change
  pub states_keep_control : IsControl (with_tables c left)
  states_keep_control = record {
    buffers = order.buffers;
    order = (little_changes_keep_order t order.order).0 g ws;
    ports = room_as t left refl (states_seats g t.ports ws) order.ports;
    counted = record {
      calls = order.counted.calls;
      ports = order.counted.ports;
      numbers = order.counted.numbers;
      loans = loans_stay t.calls t.ports left.ports bare order.counted.loans;
      deliveries = states_keep g (λ l. l.deliveries ≤ t.calls) t.ports ws order.counted.deliveries;
    };
    room =
        let lanes : on_lanes spare left.ports ≡ on_lanes spare t.ports = states_total g spare t.ports ws in
        let own : total (λ p. p.size - own_count t.handles p) left.ports ≡ total (λ p. p.size - own_count t.handles p) t.ports
        = own_stays t.handles t.ports left.ports bare in
        let was : HasRoomForAll c.room t = order.room in
        omega (arith, lanes, own, was);
    holders =
        let lanes : on_lanes (λ l. 1) left.ports ≡ on_lanes (λ l. 1) t.ports = states_total g (λ l. 1) t.ports ws in
        let was : CanCountHolders c.room t = order.holders in
        omega (arith, lanes, was);
  }

-- a hint of a pending response is a whole call
pub hint_is_whole : (x : Given) (t : HubTables) (node n : ℕ) (pending : IsPending t node n)
    → IsWholeCall (state_shown x t) node (SetHint n) Done (state_shown x (with_hint t pending.handle))
hint_is_whole x t node n pending =
    is_whole_of (state_shown x t) node (SetHint n) _ Done (state_shown x (with_hint t pending.handle))
    (each_hint_is_whole (state_shown x t) node n)
    (hints_are_given x t node n pending.handle pending.named pending.kind)

pub hint_keeps : (c new : ControlState) (client : ℕ) (l : Label) → IsControl c
    → new ≡ with_tables c (with_states (λ r. hinted_for r l.request) c.tables (map (response_way client l.lane) (numbers_of_role Server c.tables.ports)))
    → IsControl new
hint_keeps c new client l order is =
    subst IsControl (sym is)
    (states_keep_control c (λ r. hinted_for r l.request) (map (response_way client l.lane) (numbers_of_role Server c.tables.ports)) order)
