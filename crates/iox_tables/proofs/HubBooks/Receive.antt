-- A receive keeps the tables of a hub in order.
use Rattle.std.specs.Prelude.{◌≡◌, ◌⊎◌, ℕ, ◌+◌, ◌<◌, ◌≤◌, Bool, true, false, ◌&&◌, if◌then◌else◌, ◌==◌, List, Option, Some, None, refl, ⊤}
use Rattle.std.specs.Option.{option_map_or}
use Rattle.std.proofs.Common.{sym, ap, subst, ◌∙◌, arith, inl, inr, true≢false}
use Rattle.iox_model.specs.declared.way.Way.{Way}
use Rattle.iox_model.specs.Handles.{is_own, is_received}
use Rattle.iox_model.specs.Maps.{has_number, same_way}
use Rattle.iox_lanes.specs.declared.wanted.Wanted.{Wanted}
use Rattle.iox_lanes.specs.declared.incoming.Visits.{Visits}
use Rattle.iox_lanes.specs.Lanes.{LaneState}
use Rattle.iox_tables.specs.HubStates.Tables.{HandleState, HubTables, PoolState, PortState, labels_of, slot_at}
use Rattle.iox_tables.specs.HubStates.Ways.{lane_on, with_port}
use Rattle.iox_tables.specs.HubStates.Ends.{OfEachHandle}
use Rattle.iox_tables.specs.HubStates.Receives.{visited_port}
use Rattle.iox_tables.specs.HubStates.Steps.{places_on}
use Rattle.iox_tables.specs.HubBooks.Counts.{OfAllLanes, how_many, how_often, is_at, lane_count, total}
use Rattle.iox_tables.specs.HubBooks.Handles.{IsAlone, IsFromLane, IsOfPort, LoansAreAlone, OwnAreApart, TakenHaveHandles, is_from, is_loan, is_own_at}
use Rattle.iox_tables.specs.HubBooks.Hubs.{AreInOrder, HasEachPlaceOnce, HaveNumbers, HaveSerials, HoldersAreCounted, IsUsed, ResponsesAreOnTheirLanes}
use Rattle.iox_tables.specs.HubBooks.Keeps.{HasMoreHolders, got_once}
use Rattle.iox_tables.proofs.HubBooks.Frames.{AreAlike, lane_before, port_before, visits_bare}
use Rattle.iox_tables.proofs.HubBooks.Going.{each_both, from_lane_stays, of_port_stays, off_lanes, way_stays}
use Rattle.iox_tables.proofs.HubBooks.Held.{IsCountedIn, each_counts, each_handle_from}
use Rattle.iox_tables.proofs.HubBooks.LaneCounts.{visit_places, visited_count}
use Rattle.iox_tables.proofs.HubBooks.LaneLists.{visits_keep, visits_same}
use Rattle.iox_tables.proofs.HubBooks.Places.{has_often, often_has}
use Rattle.iox_tables.proofs.HubBooks.Structures.{lanes_stay, owners_stay, pools_stay, same_lane, same_role_in, same_serial, widths_stay, wired_stay}
use Rattle.iox_tables.proofs.HubBooks.Totals.{total_same}
use Rattle.iox_tables.proofs.HubBooks.Used.{used_on_lane}
use Rattle.iox_tables.proofs.HubBooks.Visited.{got_by, ports_count, taken_by}

-- it is so of the handle, if there is one
abbrev pub OfThat : (HandleState → Type 0) → Option HandleState → Type 0
OfThat P (Some h) = P h
OfThat P None = ⊤

-- what the handle counts, if there is one
abbrev pub of_that : (HandleState → ℕ) → Option HandleState → ℕ
of_that f o = option_map_or f o 0

-- these are the old handles and perhaps one more
pub record HasOneMore (old new : List HandleState) (o : Option HandleState) : Type 1 where
  pub counts : (f : HandleState → ℕ) → total f new ≡ total f old + of_that f o
  pub each : (P : HandleState → Type 0) → OfEachHandle P old → OfThat P o → OfEachHandle P new

-- the tables after a receive that came to v, and perhaps to a handle
pub record GetsIt (t : HubTables) (n lane : ℕ) (wanted : Wanted) (v : Visits) (o : Option HandleState) : Type 1 where
  pub taken :
      (f : ℕ → ℕ) (w : Way)
      → taken_by f (lane_on (with_port (visited_port wanted (labels_of t.pools) lane) t.ports n) w)
      ≡ taken_by f (lane_on t.ports w) + (if w.receiver == n then got_by f wanted (labels_of t.pools) lane w.sender w.lane v else 0)
  pub at : (pool k : ℕ) → of_that (λ h. if is_at pool k h then 1 else 0) o ≡ got_once v pool k
  pub from :
      (w : Way) (l : LaneState) (k : ℕ) → lane_on t.ports w ≡ Some l
      → (if w.receiver == n then got_by (λ j. if j == k then 1 else 0) wanted (labels_of t.pools) lane w.sender w.lane v else 0)
      ≡ of_that (λ h. if is_from t.pools w l.pool k h then 1 else 0) o
  pub waited :
      (pool k : ℕ)
      → (got_once v pool k ≡ 0)
      ⊎ ((w : Way) × (l : LaneState) × (lane_on t.ports w ≡ Some l) × (l.pool ≡ pool) × (has_number k (places_on l) ≡ true))
  pub port : OfThat (IsOfPort t) o
  pub not_own : OfThat (λ h. is_own h.kind ≡ false) o
  pub not_loan : OfThat (λ h. is_loan h.kind ≡ false) o
  pub received : OfThat (IsFromLane t) o

module _ (t : HubTables) (order : AreInOrder t) (n lane : ℕ) (wanted : Wanted) (v : Visits) (o : Option HandleState) (gets : GetsIt t n lane wanted v o)
    (hs : List HandleState) (adds : HasOneMore t.handles hs o) (pools : List (Option PoolState)) (more : HasMoreHolders t.pools pools (got_once v)) (calls next : ℕ)
  where
    abbrev pub after : HubTables
    after = record t {
      calls = calls;
      next_number = next;
      ports = with_port (visited_port wanted (labels_of t.pools) lane) t.ports n;
      handles = hs;
      pools = pools;
    }

    alike : AreAlike t.ports after.ports
    alike = visits_bare wanted (labels_of t.pools) lane t.ports n

    counted : HoldersAreCounted after
    counted pool k =
        let holders = more.holders pool k in
        let old = order.counted pool k in
        let handles = adds.counts (λ h. if is_at pool k h then 1 else 0) in
        let one = gets.at pool k in
        let lanes = visits_same wanted (labels_of t.pools) lane (lane_count pool k) (visited_count pool k) t.ports n in
        omega (arith, holders, old, handles, one, lanes)

    used_before : (pool k : ℕ) → IsUsed after pool k → IsUsed t pool k
    used_before pool k used = step (gets.waited pool k)
      where
        step : (got_once v pool k ≡ 0) ⊎ ((w : Way) × (l : LaneState) × (lane_on t.ports w ≡ Some l) × (l.pool ≡ pool) × (has_number k (places_on l) ≡ true)) → IsUsed t pool k
        step (inl none) = let holders = more.holders pool k in omega (arith, holders, none, used)
        step (inr a) = subst (λ p. IsUsed t p k) a.3 (used_on_lane t order a.0 a.1 k a.2 a.4)

    serials : HaveSerials after
    serials = record {
      apart = λ pool j k a b e.
          order.serials.apart pool j k (used_before pool j a) (used_before pool k b) (same_serial t.pools pools more.same pool j ∙ e ∙ sym (same_serial t.pools pools more.same pool k));
      below = λ m k p at used.
          let q = port_before t.ports after.ports alike m p at in
          let is : q.0.pool ≡ p.pool = ap (λ (x : PortState). x.pool) q.2 in
          let low : (slot_at t.pools p.pool k).serial < q.0.loans
          = subst (λ c. (slot_at t.pools c k).serial < q.0.loans) is (order.serials.below m k q.0 q.1 (subst (λ c. IsUsed t c k) (sym is) (used_before p.pool k used))) in
          subst (λ c. c < p.loans) (same_serial t.pools pools more.same p.pool k) (subst (λ c. (slot_at t.pools p.pool k).serial < c) (ap (λ (x : PortState). x.loans) q.2) low);
    }

    once : OfAllLanes HasEachPlaceOnce after.ports
    once = visits_keep wanted (labels_of t.pools) lane HasEachPlaceOnce (λ test l has k. subst (λ c. c ≤ 1) (sym (visit_places (λ j. if j == k then 1 else 0) test l)) (has k)) t.ports n order.once

    -- what is on a lane was there
    was_there : (w : Way) (l m : LaneState) (k : ℕ) → lane_on after.ports w ≡ Some l → lane_on t.ports w ≡ Some m → has_number k (places_on l) ≡ true → has_number k (places_on m) ≡ true
    was_there w l m k at on has =
        let places = ports_count wanted (labels_of t.pools) lane (λ x. how_often k (places_on x)) (λ test x. visit_places (λ j. if j == k then 1 else 0) test x) t.ports n w in
        let new : option_map_or (λ x. how_often k (places_on x)) (lane_on after.ports w) 0 ≡ how_often k (places_on l) = ap (λ o. option_map_or (λ x. how_often k (places_on x)) o 0) at in
        let old : option_map_or (λ x. how_often k (places_on x)) (lane_on t.ports w) 0 ≡ how_often k (places_on m) = ap (λ o. option_map_or (λ x. how_often k (places_on x)) o 0) on in
        let some = often_has k (places_on l) has in has_often k (places_on m) (omega (arith, places, new, old, some))

    labels : ResponsesAreOnTheirLanes after
    labels w l k at client has =
        let m = lane_before t.ports after.ports alike w l at in
        let there : has_number k (places_on m.0) ≡ true = was_there w l m.0 k at m.1 has in
        sym (same_lane t.pools pools more.same l.pool k)
        ∙ subst (λ c. (slot_at t.pools c k).lane ≡ w.lane) (ap (λ (x : LaneState). x.pool) m.2)
        (order.labels w m.0 k m.1 (sym (same_role_in t.ports after.ports alike w.receiver) ∙ client) there)

    -- ---- handles

    old_each : (P Q : HandleState → Type 0) → ((h : HandleState) → P h → Q h) → OfEachHandle P t.handles → OfThat P o → OfEachHandle Q hs
    old_each P Q from a b = each_handle_from P Q from hs (adds.each P a b)

    alone : LoansAreAlone after
    alone =
        adds.each (IsAlone after)
        (each_handle_from (λ h. IsCountedIn t.handles h × IsAlone t h) (IsAlone after) (λ h both loan. stays h both.0 (both.1 loan)) t.handles (each_both (IsCountedIn t.handles) (IsAlone t) t.handles (each_counts t.handles) order.alone))
        (that o gets.not_loan)
      where
        stays : (h : HandleState) → IsCountedIn t.handles h → (slot_at t.pools h.pool h.slot).holders ≡ 1 → (slot_at pools h.pool h.slot).holders ≡ 1
        stays h counts one = step (gets.waited h.pool h.slot)
          where
            step : (got_once v h.pool h.slot ≡ 0) ⊎ ((w : Way) × (l : LaneState) × (lane_on t.ports w ≡ Some l) × (l.pool ≡ h.pool) × (has_number h.slot (places_on l) ≡ true)) → (slot_at pools h.pool h.slot).holders ≡ 1
            step (inl none) = let holders = more.holders h.pool h.slot in omega (arith, holders, none, one)
            step (inr a) = let off = off_lanes t order h counts one a.0 a.1 a.2 a.3 in let some = often_has h.slot (places_on a.1) a.4 in absurd (omega (arith, off, some))

        that : (o : Option HandleState) → OfThat (λ h. is_loan h.kind ≡ false) o → OfThat (IsAlone after) o
        that (Some h) not = λ loan. absurd (true≢false (sym loan ∙ not))
        that None not = tt

    own : OwnAreApart after
    own pool k =
        let all = adds.counts (λ h. if is_own_at pool k h then 1 else 0) in
        let old = order.own pool k in
        let none = that o gets.not_own in omega (arith, all, old, none)
      where
        that : (o : Option HandleState) → OfThat (λ h. is_own h.kind ≡ false) o → of_that (λ h. if is_own_at pool k h then 1 else 0) o ≡ 0
        that (Some h) not = ap (λ (b : Bool). if b && is_at pool k h then 1 else 0) not
        that None not = refl

    taken : TakenHaveHandles after
    taken w l k at =
        let m = lane_before t.ports after.ports alike w l at in
        let new : taken_by (λ j. if j == k then 1 else 0) (lane_on after.ports w) ≡ how_often k l.taken = ap (taken_by (λ j. if j == k then 1 else 0)) at in
        let old : taken_by (λ j. if j == k then 1 else 0) (lane_on t.ports w) ≡ how_often k m.0.taken = ap (taken_by (λ j. if j == k then 1 else 0)) m.1 in
        let change = gets.taken (λ j. if j == k then 1 else 0) w in
        let before = order.taken w m.0 k m.1 in
        let one = gets.from w m.0 k m.1 in
        let all = adds.counts (λ h. if is_from t.pools w m.0.pool k h then 1 else 0) in
        let here : how_often k l.taken ≡ total (λ h. if is_from t.pools w m.0.pool k h then 1 else 0) hs = omega (arith, new, old, change, before, one, all) in
        here
        ∙ ap (λ c. how_many (is_from t.pools w c k) hs) (ap (λ (x : LaneState). x.pool) m.2)
        ∙ total_same (λ h. if is_from t.pools w l.pool k h then 1 else 0) (λ h. if is_from pools w l.pool k h then 1 else 0)
        (λ h. ap (λ x. if is_received h.kind && (same_way x w && is_at l.pool k h) then 1 else 0) (way_stays t after order alike more.same h)) hs

    pub kept : HaveNumbers after → AreInOrder after
    kept numbers = record {
      counted = counted;
      serials = serials;
      pools = pools_stay t after order alike more.same refl;
      once = once;
      lanes = lanes_stay t after order alike more.same refl;
      labels = labels;
      owners = owners_stay t after order alike more.same (λ w l m k at on has. inl (was_there w l m k at on has));
      widths = widths_stay t after order alike more.same refl;
      wired = wired_stay t after order alike more.same refl;
      numbers = numbers;
      ports = old_each (IsOfPort t) (IsOfPort after) (of_port_stays t after order alike more.same) order.ports gets.port;
      alone = alone;
      own = own;
      taken = taken;
      received = old_each (IsFromLane t) (IsFromLane after) (from_lane_stays t after order alike more.same) order.received gets.received;
    }
