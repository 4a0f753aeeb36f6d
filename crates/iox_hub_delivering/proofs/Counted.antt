-- What can be counted, and what there is room for, stays as messages are sent.
use Rattle.std.specs.Prelude.{◌≡◌, ℕ, ◌+◌, ◌-◌, ◌≤◌, Bool, true, false, ◌&&◌, ◌||◌, if◌then◌else◌, ◌==◌, nat_lt, List, [], ◌∷◌, ◌++◌, length, map, refl}
use Rattle.std.proofs.Common.{sym, ap, ap₂, subst, ◌∙◌, arith, true≢false, eq-eqb, eqb-true}
use Rattle.iox_model.specs.declared.way.Way.{Way}
use Rattle.iox_model.specs.Handles.{is_own}
use Rattle.iox_model.specs.Maps.{AreDistinctWays, AreDistinct, has_number}
use Rattle.iox_lanes.specs.Lanes.{LaneState, delivered, without_oldest}
use Rattle.iox_tables.specs.HubStates.Tables.{HandleState, HubTables, PortState, numbers_of}
use Rattle.iox_tables.specs.HubStates.Ways.{with_lanes_on, with_port, with_states_on}
use Rattle.iox_tables.specs.HubStates.Changes.{emptied_lane}
use Rattle.iox_tables.specs.HubStates.Ends.{changed_handles, dropped_handles, with_changed}
use Rattle.iox_tables.specs.HubStates.Sendings.{pending_of}
use Rattle.iox_tables.specs.HubStates.Wirings.{IsHandle}
use Rattle.iox_tables.proofs.HubStates.Emptied.{has-append}
use Rattle.iox_tables.specs.HubBooks.Counts.{OfAll, OfAllLanes, how_many, on_lanes, total}
use Rattle.iox_tables.specs.HubBooks.Keeps.{delivers}
use Rattle.iox_tables.specs.HubBooks.Rooms.{own_count, spare}
use Rattle.iox_tables.proofs.HubBooks.Bounds.{all_lanes_from}
use Rattle.iox_tables.proofs.HubBooks.Delivering.{lanes_keep_at}
use Rattle.iox_tables.proofs.HubBooks.Eachs.{all_from, lane_is, lanes_keep}
use Rattle.iox_tables.proofs.HubBooks.Frames.{AreAlike, bare_lane, bare_port, bare_ports, lanes_on_bare, states_on_bare}
use Rattle.iox_tables.proofs.HubBooks.HandleTotals.{handle_changed, handle_dropped}
use Rattle.iox_tables.proofs.HubBooks.LaneLists.{lanes_same}
use Rattle.iox_tables.proofs.HubBooks.Release.{handles_apart}
use Rattle.iox_tables.proofs.HubBooks.Released.{states_keep, states_total}
use Rattle.iox_tables.proofs.HubBooks.Totals.{total_same}
use Rattle.iox_tables.proofs.HubLending.OneMore.{all_same}
use Rattle.iox_hub_delivering.specs.Counts.{AreCountedBy, EachSendIsCounted, EachSendNeedsAsMuch, EndsNeedOneLess, NeedsAsMuch}
use Rattle.iox_hub_delivering.proofs.Delivered.{its_name}
use Rattle.iox_tables.proofs.HubBooks.Alike.{loans_stay, own_stays}
use Rattle.iox_tables.proofs.HubBooks.Left.{one_shorter, room_left, total_ones}
use Rattle.iox_tables.proofs.HubKeeping.Ordered.{names_apart}
use Rattle.iox_tables.proofs.HubBooks.OneGiven.{gives_spare, once_more}
pub use Rattle.iox_tables.proofs.HubBooks.OneGiven.{gives_bare}

-- ---- counts

up : (a n : ℕ) → a ≤ n → a ≤ n + 1
up a n le = omega (arith, le)

loans_up : (n : ℕ) (ports : List PortState) → OfAll (λ p. p.loans ≤ n) ports → OfAll (λ p. p.loans ≤ n + 1) ports
loans_up n ports a = all_from (λ p. p.loans ≤ n) (λ p. p.loans ≤ n + 1) (λ p b. up p.loans n b) ports a

deliveries_up : (n : ℕ) (ports : List PortState) → OfAllLanes (λ l. l.deliveries ≤ n) ports → OfAllLanes (λ l. l.deliveries ≤ n + 1) ports
deliveries_up n ports a = all_lanes_from (λ l. l.deliveries ≤ n) (λ l. l.deliveries ≤ n + 1) (λ l b. up l.deliveries n b) ports a

-- one loan more of a port
lent_once : (n : ℕ) (ports : List PortState) (m : ℕ) → OfAll (λ p. p.loans ≤ n) ports → OfAll (λ p. p.loans ≤ n + 1) (with_port (λ p. record p { loans = p.loans + 1 }) ports m)
lent_once n [] m a = tt
lent_once n (p ∷ ps) m a = step (p.number == m) (lent_once n ps m a.1)
  where
    more : (b : ℕ) → b ≤ n → b + 1 ≤ n + 1
    more b le = omega (arith, le)

    step : (b : Bool) → OfAll (λ q. q.loans ≤ n + 1) (with_port (λ q. record q { loans = q.loans + 1 }) ps m)
        → OfAll (λ (q : PortState). q.loans ≤ n + 1) (if b then record p { loans = p.loans + 1 } ∷ ps else p ∷ with_port (λ q. record q { loans = q.loans + 1 }) ps m)
    step true rest = (more p.loans a.0, loans_up n ps a.1)
    step false rest = (up p.loans n a.0, rest)

module _ (n : ℕ) (ports : List PortState) (are : AreCountedBy n ports) (overflow : Bool) (k : ℕ) (ws : List Way) (apart : AreDistinctWays ws) where
  abbrev sent_ports : List PortState
  sent_ports = with_lanes_on (delivers overflow k) ports ws

  sent_loans : OfAll (λ p. p.loans ≤ n) sent_ports
  sent_loans = loans_stay n ports sent_ports (lanes_on_bare (delivers overflow k) (gives_bare overflow k) ports ws) are.loans

  sent_deliveries : OfAllLanes (λ l. l.deliveries ≤ n + 1) sent_ports
  sent_deliveries =
      lanes_keep_at (λ l. l.deliveries ≤ n + 1) (delivers overflow k) ports ws apart
      (λ w l has at b. once_more overflow k n l (lane_is (λ l. l.deliveries ≤ n) ports w l are.deliveries at)) (deliveries_up n ports are.deliveries)

pub each_send_is_counted : EachSendIsCounted
each_send_is_counted n ports are = record {
  delivered = λ overflow k ws apart. record {
    loans = loans_up n (sent_ports n ports are overflow k ws apart) (sent_loans n ports are overflow k ws apart);
    deliveries = sent_deliveries n ports are overflow k ws apart;
  };
  lent = λ overflow k ws m apart. record {
    loans = lent_once n (sent_ports n ports are overflow k ws apart) m (sent_loans n ports are overflow k ws apart);
    deliveries = all_same (sent_ports n ports are overflow k ws apart) m (λ l. l.deliveries ≤ n + 1) (sent_deliveries n ports are overflow k ws apart);
  };
  emptied = λ ws. record {
    loans = loans_stay n ports (with_lanes_on emptied_lane ports ws) (lanes_on_bare emptied_lane (λ l. refl) ports ws) are.loans;
    deliveries = lanes_keep (λ l. l.deliveries ≤ n) emptied_lane ports ws (λ l b. b) are.deliveries;
  };
  opened = λ g ws. record {
    loans = loans_stay n ports (with_states_on g ports ws) (states_on_bare g ports ws) are.loans;
    deliveries = states_keep g (λ l. l.deliveries ≤ n) ports ws are.deliveries;
  };
  later = record { loans = loans_up n ports are.loans; deliveries = deliveries_up n ports are.deliveries };
}

-- ---- room for what may come

as_much : (t : HubTables) (ports : List PortState) → AreAlike t.ports ports → on_lanes spare ports ≡ on_lanes spare t.ports → on_lanes (λ l. 1) ports ≡ on_lanes (λ l. 1) t.ports
    → NeedsAsMuch t (record t { ports = ports })
as_much t ports alike spares lanes = record {
  come = ap₂ (λ (a b : ℕ). a + b) spares (own_stays t.handles t.ports ports alike);
  holders = ap (λ n. n + length t.handles) lanes;
}

-- a loan that becomes a pending response of the same port
pending_needs : (t : HubTables) (node n : ℕ) (h : HandleState) (count : ℕ) → IsHandle t node n h → is_own h.kind ≡ true → NeedsAsMuch t (with_changed t (pending_of h count))
pending_needs t node n h count named own = record {
  come = ap (λ m. on_lanes spare t.ports + m) (total_same (λ p. p.size - own_count hs p) (λ p. p.size - own_count t.handles p) (λ p. ap (λ m. p.size - m) (same p)) t.ports);
  holders = ap (λ m. on_lanes (λ l. 1) t.ports + m) lengths;
}
  where
    hs : List HandleState
    hs = changed_handles (pending_of h count) t.handles

    less : (a b c : ℕ) → a + c ≡ b + c → a ≡ b
    less a b c e = omega (arith, e)

    same : (p : PortState) → own_count hs p ≡ own_count t.handles p
    same p =
        let all = handle_changed (λ k. if is_own k.kind && (k.port == p.number) then 1 else 0) t.handles (pending_of h count) h (its_name t node n h named) in
        less _ _ (if h.port == p.number then 1 else 0)
        (ap (λ (b : Bool). own_count hs p + (if b && (h.port == p.number) then 1 else 0)) (sym own) ∙ all)

    lengths : length hs ≡ length t.handles
    lengths =
        let all = handle_changed (λ k. 1) t.handles (pending_of h count) h (its_name t node n h named) in
        let new = total_ones hs in
        let old = total_ones t.handles in omega (arith, all, new, old)

pub each_send_needs_as_much : EachSendNeedsAsMuch
each_send_needs_as_much t = record {
  delivered = λ overflow k ws.
      as_much t (with_lanes_on (delivers overflow k) t.ports ws) (lanes_on_bare (delivers overflow k) (gives_bare overflow k) t.ports ws)
      (lanes_same spare (delivers overflow k) (gives_spare overflow k) t.ports ws) (lanes_same (λ l. 1) (delivers overflow k) (λ l. refl) t.ports ws);
  emptied = λ ws.
      as_much t (with_lanes_on emptied_lane t.ports ws) (lanes_on_bare emptied_lane (λ l. refl) t.ports ws) (lanes_same spare emptied_lane (λ l. refl) t.ports ws)
      (lanes_same (λ l. 1) emptied_lane (λ l. refl) t.ports ws);
  opened = λ g ws. as_much t (with_states_on g t.ports ws) (states_on_bare g t.ports ws) (states_total g spare t.ports ws) (states_total g (λ l. 1) t.ports ws);
  pending = λ node n h count named own. pending_needs t node n h count named own;
}

-- ---- room that a handle leaves

pub ends_need_one_less : EndsNeedOneLess
ends_need_one_less t node n h order named = record {
  come = let all = room_left t.handles node n h named.there apart t.ports (names_apart t order) in omega (arith, all);
  holders = let all = one_shorter t.handles node n h named.there apart in omega (arith, all);
}
  where
    apart : AreDistinct (map (λ k. k.number) t.handles)
    apart = handles_apart (numbers_of t.ports) (map (λ k. k.number) t.handles) order.numbers.apart
