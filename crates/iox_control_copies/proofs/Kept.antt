-- As a copy is counted, whether it is put in line or not, all that is so of a hub stays so.
use Rattle.std.specs.Prelude.{◌≡◌, ℕ, ◌+◌, ◌-◌, ◌<◌, ◌≤◌, ◌^◌, Bool, true, false, if◌then◌else◌, ◌==◌, List, [], ◌∷◌, Option, Some, refl}
use Rattle.std.specs.Option.{option_map_or}
use Rattle.std.proofs.Common.{ap, ◌∙◌, arith}
use Rattle.iox_model.specs.declared.way.Way.{Way}
use Rattle.iox_model.specs.Maps.{AreDistinctWays}
use Rattle.iox_lanes.specs.Lanes.{LaneState}
use Rattle.iox_tables.specs.HubStates.Tables.{HubTables, PoolState, PortState, port_in}
use Rattle.iox_tables.specs.HubStates.Ways.{with_lanes_on, with_port}
use Rattle.iox_tables.specs.HubStates.Changes.{with_lanes}
use Rattle.iox_tables.specs.HubStates.Ends.{with_loan}
use Rattle.iox_tables.specs.HubBooks.Counts.{on_lanes, total}
use Rattle.iox_tables.specs.HubBooks.Hubs.{AreInOrder}
use Rattle.iox_tables.specs.HubBooks.Keeps.{delivers}
use Rattle.iox_tables.specs.HubBooks.Rooms.{CanCountHolders, HasRoomForAll, own_count, spare}
use Rattle.iox_tables.proofs.HubBooks.Bounds.{all_lanes_from}
use Rattle.iox_tables.proofs.HubBooks.Eachs.{all_first, all_from}
use Rattle.iox_tables.proofs.HubBooks.Little.{little_changes_keep_order}
use Rattle.iox_tables.proofs.HubLending.OneMore.{counts_same, one_loan}
use Rattle.iox_hub_delivering.specs.Counts.{NeedsAsMuch}
use Rattle.iox_hub_delivering.proofs.Counted.{each_send_is_counted, each_send_needs_as_much}
use Rattle.iox_hub_delivering.proofs.LoanCounted.{counted_loans_keep_order}
use Rattle.iox_control.specs.Controls.{AreCounted, ControlState, IsControl, with_tables}
use Rattle.iox_control.proofs.RoomLemmas.{lanes_seats, loan_seats, room_as}
use Rattle.iox_control_copies.specs.Answers.{with_copy_lost}

-- a sum that a loan of a port does not change
total_stays : (f : PortState → ℕ) → ((p : PortState) → f (one_loan p) ≡ f p) → (ports : List PortState) (n : ℕ) → total f (with_port one_loan ports n) ≡ total f ports
total_stays f same [] n = refl
total_stays f same (p ∷ ps) n = step (p.number == n) (total_stays f same ps n)
  where
    step : (b : Bool) → total f (with_port one_loan ps n) ≡ total f ps → total f (if b then one_loan p ∷ ps else p ∷ with_port one_loan ps n) ≡ f p + total f ps
    step true rest = ap (λ (m : ℕ). m + total f ps) (same p)
    step false rest = ap (λ (m : ℕ). f p + m) rest

module _ (c : ControlState) (order : IsControl c) (few : c.tables.calls < 2 ^ 56) (n : ℕ) where
  abbrev t : HubTables
  t = c.tables

  -- the port's loans can be counted
  pub loans_below : (p : PortState) → port_in t.ports n ≡ Some p → option_map_or (λ (q : PortState). q.loans) (port_in t.ports n) 0 < 2 ^ 64 - 1
  loans_below p there =
      let loans : p.loans ≤ t.calls = all_first (λ q. q.loans ≤ t.calls) (λ q. q.number) t.ports n p order.counted.loans there in
      let f = few in
      let it : option_map_or (λ (q : PortState). q.loans) (port_in t.ports n) 0 ≡ p.loans = ap (λ o. option_map_or (λ (q : PortState). q.loans) o 0) there in
      omega (arith, loans, f, it)

  -- deliveries on these ways, a loan, and one or two calls
  module _ (overflow : Bool) (k : ℕ) (ws : List Way) (apart : AreDistinctWays ws) (calls : ℕ) (more : t.calls + 1 ≤ calls) (most : calls ≤ t.calls + 2) (pools : List (Option PoolState)) where
    abbrev sent : List PortState
    sent = with_lanes_on (delivers overflow k) t.ports ws

    abbrev ports : List PortState
    ports = with_port one_loan sent n

    abbrev now : HubTables
    now = record t { ports = ports; calls = calls; pools = pools }

    counted : AreCounted now
    counted =
        let lent = (each_send_is_counted t.calls t.ports (record { loans = order.counted.loans; deliveries = order.counted.deliveries })).lent overflow k ws n apart in record {
          calls = let f = few in let m = most in omega (arith, f, m);
          ports = order.counted.ports;
          numbers = let was = order.counted.numbers in let m = more in omega (arith, was, m);
          loans = all_from (λ (p : PortState). p.loans ≤ t.calls + 1) (λ (p : PortState). p.loans ≤ calls) (λ p e. let m = more in omega (arith, e, m)) ports lent.loans;
          deliveries = all_lanes_from (λ (l : LaneState). l.deliveries ≤ t.calls + 1) (λ (l : LaneState). l.deliveries ≤ calls) (λ l e. let m = more in omega (arith, e, m)) ports lent.deliveries;
        }

    as_much : NeedsAsMuch t (with_lanes (delivers overflow k) t ws)
    as_much = (each_send_needs_as_much t).delivered overflow k ws

    room : HasRoomForAll c.room now
    room =
        let lanes : on_lanes spare ports ≡ on_lanes spare sent = counts_same sent n spare in
        let own : total (λ (p : PortState). p.size - own_count t.handles p) ports ≡ total (λ (p : PortState). p.size - own_count t.handles p) sent
        = total_stays (λ p. p.size - own_count t.handles p) (λ p. refl) sent n in
        let come = as_much.come in
        let all : HasRoomForAll c.room t = order.room in
        omega (arith, lanes, own, come, all)

    holders : CanCountHolders c.room now
    holders =
        let lanes : on_lanes (λ l. 1) ports ≡ on_lanes (λ l. 1) sent = counts_same sent n (λ l. 1) in
        let same = as_much.holders in
        let all : CanCountHolders c.room t = order.holders in
        omega (arith, lanes, same, all)

    pub keeps : AreInOrder now → IsControl (with_tables c now)
    keeps in_order = record {
      buffers = order.buffers;
      order = in_order;
      ports = room_as t now refl (loan_seats sent n 1 ∙ lanes_seats (delivers overflow k) t.ports ws) order.ports;
      counted = counted;
      room = room;
      holders = holders;
    }

  -- a copy that nobody gets
  loan_in_order : AreInOrder (with_loan t n)
  loan_in_order = counted_loans_keep_order t n order.order

  pub lost_keeps : (fails : Bool) → IsControl (with_tables c (with_copy_lost fails t n))
  lost_keeps true =
      keeps false 0 [] tt (t.calls + 1) (omega arith) (omega arith) t.pools ((little_changes_keep_order (with_loan t n) loan_in_order).2)
  lost_keeps false =
      keeps false 0 [] tt (t.calls + 1 + 1) (omega arith) (omega arith) t.pools
      ((little_changes_keep_order _ ((little_changes_keep_order (with_loan t n) loan_in_order).2)).2)
