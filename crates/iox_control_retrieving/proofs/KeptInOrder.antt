-- As lanes are emptied, all that is so of a hub's tables stays so.
use Rattle.std.specs.Prelude.{◌≡◌, ℕ, ◌+◌, ◌-◌, ◌≤◌, List, [], ◌∷◌, Option, refl}
use Rattle.std.proofs.Common.{sym, ap, ap₂, subst, ◌∙◌, arith}
use Rattle.iox_model.specs.declared.way.Way.{Way}
use Rattle.iox_model.specs.Maps.{AreDistinctWays}
use Rattle.iox_tables.specs.HubStates.Tables.{HubTables, PoolState, PortState}
use Rattle.iox_tables.specs.HubStates.Changes.{emptied_lane, with_lanes}
use Rattle.iox_tables.specs.HubBooks.Counts.{OfAll, on_lanes, total}
use Rattle.iox_tables.specs.HubBooks.Rooms.{CanCountHolders, HasRoomForAll, own_count, spare}
use Rattle.iox_tables.proofs.HubBooks.Eachs.{lanes_keep}
use Rattle.iox_tables.proofs.HubBooks.Frames.{bare_port, bare_ports, lanes_on_bare}
use Rattle.iox_tables.proofs.HubBooks.LaneLists.{lanes_same}
use Rattle.iox_tables.specs.HubLending.Emptying.{HasFewerHolders, returned_on}
use Rattle.iox_tables.proofs.HubLending.Emptied.{emptying_keeps_order}
use Rattle.iox_control.specs.Controls.{ControlState, IsControl, with_tables}
use Rattle.iox_control.proofs.RoomLemmas.{lanes_seats, room_as}

-- a sum of what lanes do not change
bare_total : (f : PortState → ℕ) → ((p : PortState) → f (bare_port p) ≡ f p) → (ports : List PortState) → total f (bare_ports ports) ≡ total f ports
bare_total f same [] = refl
bare_total f same (p ∷ ps) = ap₂ (λ (a b : ℕ). a + b) (same p) (bare_total f same ps)

bare_all : (n : ℕ) (ports : List PortState) → OfAll (λ p. p.loans ≤ n) ports → OfAll (λ p. p.loans ≤ n) (bare_ports ports)
bare_all n [] a = a
bare_all n (p ∷ ps) a = (a.0, bare_all n ps a.1)

all_bare : (n : ℕ) (ports : List PortState) → OfAll (λ p. p.loans ≤ n) (bare_ports ports) → OfAll (λ p. p.loans ≤ n) ports
all_bare n [] a = a
all_bare n (p ∷ ps) a = (a.0, all_bare n ps a.1)

module _ (c : ControlState) (ws : List Way) (pools : List (Option PoolState)) (order : IsControl c) (apart : AreDistinctWays ws)
    (fewer : HasFewerHolders c.tables.pools pools (returned_on c.tables ws)) where
  -- the tables of the hub
  abbrev t : HubTables
  t = c.tables

  -- the tables once the lanes are emptied
  abbrev left : HubTables
  left = record (with_lanes emptied_lane t ws) { pools = pools }

  bare : bare_ports left.ports ≡ bare_ports t.ports
  bare = lanes_on_bare emptied_lane (λ l. refl) t.ports ws

  pub emptied_is_control : IsControl (with_tables c left)
  emptied_is_control = record {
    order = emptying_keeps_order t ws pools order.order apart fewer;
    counted = record {
      calls = order.counted.calls;
      ports = order.counted.ports;
      numbers = order.counted.numbers;
      loans = all_bare t.calls left.ports (subst (OfAll (λ p. p.loans ≤ t.calls)) (sym bare) (bare_all t.calls t.ports order.counted.loans));
      deliveries = lanes_keep (λ l. l.deliveries ≤ t.calls) emptied_lane t.ports ws (λ l b. b) order.counted.deliveries;
    };
    room =
        let lanes : on_lanes spare left.ports ≡ on_lanes spare t.ports = lanes_same spare emptied_lane (λ l. refl) t.ports ws in
        let own : total (λ p. p.size - own_count t.handles p) left.ports ≡ total (λ p. p.size - own_count t.handles p) t.ports
        = sym (bare_total (λ p. p.size - own_count t.handles p) (λ p. refl) left.ports)
        ∙ ap (total (λ p. p.size - own_count t.handles p)) bare
        ∙ bare_total (λ p. p.size - own_count t.handles p) (λ p. refl) t.ports in
        let was : HasRoomForAll c.room t = order.room in
        omega (arith, lanes, own, was);
    holders =
        let lanes : on_lanes (λ l. 1) left.ports ≡ on_lanes (λ l. 1) t.ports = lanes_same (λ l. 1) emptied_lane (λ l. refl) t.ports ws in
        let was : CanCountHolders c.room t = order.holders in
        omega (arith, lanes, was);
    ports = room_as t left refl (lanes_seats emptied_lane t.ports ws) order.ports;
    buffers = order.buffers;
  }
