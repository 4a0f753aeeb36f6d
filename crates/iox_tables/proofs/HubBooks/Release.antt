-- A release of a handle keeps the tables of a hub in order.
use Rattle.std.specs.Prelude.{◌≡◌, ◌⊎◌, ℕ, ◌+◌, ◌<◌, Bool, true, false, not, ◌&&◌, if◌then◌else◌, ◌==◌, List, [], ◌∷◌, ◌++◌, map, filter, Option, Some, refl}
use Rattle.std.specs.Option.{option_map_or}
use Rattle.std.proofs.Common.{sym, ap, subst, ◌∙◌, arith, inl, inr}
use Rattle.iox_model.specs.declared.way.Way.{Way}
use Rattle.iox_model.specs.Handles.{is_received}
use Rattle.iox_model.specs.Maps.{AreDistinct, has_number, same_way}
use Rattle.iox_laws.proofs.WeaveLedger.Lists.{IsAmong, NoRepeats, among-number, distinct-no_repeats, no_repeats-distinct, no_repeats-map_filter, number-among}
use Rattle.iox_lanes.specs.Lanes.{LaneState}
use Rattle.iox_tables.specs.HubStates.Tables.{HandleState, HubTables, PoolState, PortState, numbers_of, slot_at}
use Rattle.iox_tables.specs.HubStates.Ways.{lane_on}
use Rattle.iox_tables.specs.HubStates.Ends.{OfEachHandle, dropped_handles}
use Rattle.iox_tables.specs.HubStates.Shown.{by_lane}
use Rattle.iox_tables.specs.HubStates.Steps.{places_on}
use Rattle.iox_tables.specs.HubStates.Wirings.{handle_in}
use Rattle.iox_tables.specs.HubBooks.Counts.{OfAllLanes, how_many, how_often, is_at, lane_uses, total}
use Rattle.iox_tables.specs.HubBooks.Handles.{IsAlone, IsFromLane, IsOfPort, LoansAreAlone, OwnAreApart, TakenHaveHandles, is_from, is_own_at}
use Rattle.iox_tables.specs.HubBooks.Hubs.{AreInOrder, HasEachPlaceOnce, HaveNumbers, HaveSerials, HoldersAreCounted, IsUsed, ResponsesAreOnTheirLanes, numbers_in}
use Rattle.iox_tables.specs.HubBooks.Keeps.{HasOneHolderLess}
use Rattle.iox_tables.proofs.HubBooks.Frames.{AreAlike, lane_before, port_before}
use Rattle.iox_tables.proofs.HubBooks.Going.{each_both, from_lane_stays, of_port_stays, way_stays}
use Rattle.iox_tables.proofs.HubBooks.HandleTotals.{handle_dropped}
use Rattle.iox_tables.proofs.HubBooks.Held.{IsCountedIn, each_counts, each_handle_from}
use Rattle.iox_tables.proofs.HubBooks.Places.{has_often, often_has}
use Rattle.iox_tables.proofs.HubBooks.Structures.{lanes_stay, low_kept, owners_stay, pool_before, pools_stay, same_lane, same_numbers, same_role_in, same_serial, widths_stay, wired_stay}
use Rattle.iox_tables.proofs.HubBooks.Totals.{total_same}
use Rattle.iox_tables.proofs.HubBooks.Used.{at_itself, passes_once}

-- ---- fewer handles

pub each_left : (P : HandleState → Type 0) (node n : ℕ) (hs : List HandleState) → OfEachHandle P hs → OfEachHandle P (dropped_handles node n hs)
each_left P node n [] a = tt
each_left P node n (h ∷ hs) a = step (not ((h.node == node) && (h.number == n))) (each_left P node n hs a.1)
  where
    step : (b : Bool) → OfEachHandle P (dropped_handles node n hs) → OfEachHandle P (if b then h ∷ dropped_handles node n hs else dropped_handles node n hs)
    step true rest = (a.0, rest)
    step false rest = rest

pub among_left : (test : HandleState → Bool) (a : ℕ) (xs : List ℕ) (hs : List HandleState) → IsAmong a (xs ++ map (λ h. h.number) (filter test hs)) → IsAmong a (xs ++ map (λ h. h.number) hs)
among_left test a [] [] among = among
among_left test a [] (h ∷ hs) among = step (test h) among (among_left test a [] hs)
  where
    step : (b : Bool) → IsAmong a (map (λ (h : HandleState). h.number) (if b then h ∷ filter test hs else filter test hs))
        → (IsAmong a (map (λ (h : HandleState). h.number) (filter test hs)) → IsAmong a (map (λ (h : HandleState). h.number) hs))
        → (a ≡ h.number) ⊎ IsAmong a (map (λ (h : HandleState). h.number) hs)
    step true (inl e) rest = inl e
    step true (inr m) rest = inr (rest m)
    step false m rest = inr (rest m)
among_left test a (x ∷ xs) hs (inl e) = inl e
among_left test a (x ∷ xs) hs (inr m) = inr (among_left test a xs hs m)

pub once_left : (test : HandleState → Bool) (xs : List ℕ) (hs : List HandleState) → NoRepeats (xs ++ map (λ h. h.number) hs) → NoRepeats (xs ++ map (λ h. h.number) (filter test hs))
once_left test [] hs once = no_repeats-map_filter (λ (h : HandleState). h.number) test hs once
once_left test (x ∷ xs) hs once = (λ m. once.0 (among_left test x xs hs m), once_left test xs hs once.1)

pub handles_apart : (xs ys : List ℕ) → AreDistinct (xs ++ ys) → AreDistinct ys
handles_apart [] ys d = d
handles_apart (x ∷ xs) ys d = handles_apart xs ys d.1

-- ports once the handle gave its message back, if it was received
pub record GaveBack (t : HubTables) (h : HandleState) (ports : List PortState) : Type 0 where
  pub alike : AreAlike t.ports ports
  pub lanes : (pool k : ℕ) → lane_uses ports pool k ≡ lane_uses t.ports pool k
  pub once : OfAllLanes HasEachPlaceOnce ports
  pub places :
      (w : Way) (k : ℕ) → by_lane (λ l. how_often k (places_on l)) 0 (lane_on ports) w ≡ by_lane (λ l. how_often k (places_on l)) 0 (lane_on t.ports) w
  pub taken :
      (w : Way) (l : LaneState) (k : ℕ) → lane_on t.ports w ≡ Some l
      → by_lane (λ m. how_often k m.taken) 0 (lane_on ports) w + (if is_from t.pools w l.pool k h then 1 else 0) ≡ how_often k l.taken

module _ (t : HubTables) (order : AreInOrder t) (node n : ℕ) (h : HandleState) (named : handle_in t.handles node n ≡ Some h) (ports : List PortState) (gave : GaveBack t h ports)
    (pools : List (Option PoolState)) (fewer : HasOneHolderLess t.pools pools h)
  where
    abbrev pub left : HubTables
    left = record t { ports = ports; handles = dropped_handles node n t.handles; pools = pools }

    distinct : AreDistinct (map (λ k. k.number) t.handles)
    distinct = handles_apart (numbers_of t.ports) (map (λ k. k.number) t.handles) order.numbers.apart

    drops : (f : HandleState → ℕ) → total f left.handles + f h ≡ total f t.handles
    drops f = handle_dropped f t.handles node n h named distinct

    counted : HoldersAreCounted left
    counted pool k =
        let holders = fewer.holders pool k in
        let old = order.counted pool k in
        let handles = drops (λ x. if is_at pool k x then 1 else 0) in
        let lanes = gave.lanes pool k in omega (arith, holders, old, handles, lanes)

    used_before : (pool k : ℕ) → IsUsed left pool k → IsUsed t pool k
    used_before pool k used = let holders = fewer.holders pool k in omega (arith, holders, used)

    serials : HaveSerials left
    serials = record {
      apart = λ pool j k a b e.
          order.serials.apart pool j k (used_before pool j a) (used_before pool k b) (same_serial t.pools pools fewer.same pool j ∙ e ∙ sym (same_serial t.pools pools fewer.same pool k));
      below = λ m k p at used.
          let q = port_before t.ports ports gave.alike m p at in
          let is : q.0.pool ≡ p.pool = ap (λ (x : PortState). x.pool) q.2 in
          let low : (slot_at t.pools p.pool k).serial < q.0.loans
          = subst (λ c. (slot_at t.pools c k).serial < q.0.loans) is (order.serials.below m k q.0 q.1 (subst (λ c. IsUsed t c k) (sym is) (used_before p.pool k used))) in
          subst (λ c. c < p.loans) (same_serial t.pools pools fewer.same p.pool k) (subst (λ c. (slot_at t.pools p.pool k).serial < c) (ap (λ (x : PortState). x.loans) q.2) low);
    }

    -- what is on a lane was there
    was_there : (w : Way) (l m : LaneState) (k : ℕ) → lane_on ports w ≡ Some l → lane_on t.ports w ≡ Some m → has_number k (places_on l) ≡ true → has_number k (places_on m) ≡ true
    was_there w l m k at on has =
        let places = gave.places w k in
        let new : option_map_or (λ x. how_often k (places_on x)) (lane_on ports w) 0 ≡ how_often k (places_on l) = ap (λ o. option_map_or (λ x. how_often k (places_on x)) o 0) at in
        let old : option_map_or (λ x. how_often k (places_on x)) (lane_on t.ports w) 0 ≡ how_often k (places_on m) = ap (λ o. option_map_or (λ x. how_often k (places_on x)) o 0) on in
        let some = often_has k (places_on l) has in has_often k (places_on m) (omega (arith, places, new, old, some))

    labels : ResponsesAreOnTheirLanes left
    labels w l k at client has =
        let m = lane_before t.ports ports gave.alike w l at in
        let there : has_number k (places_on m.0) ≡ true = was_there w l m.0 k at m.1 has in
        sym (same_lane t.pools pools fewer.same l.pool k)
        ∙ subst (λ c. (slot_at t.pools c k).lane ≡ w.lane) (ap (λ (x : LaneState). x.pool) m.2)
        (order.labels w m.0 k m.1 (sym (same_role_in t.ports ports gave.alike w.receiver) ∙ client) there)

    numbers : HaveNumbers left
    numbers = record {
      apart =
          subst (λ xs. AreDistinct (xs ++ map (λ k. k.number) left.handles)) (sym (same_numbers t.ports ports gave.alike))
          (no_repeats-distinct (numbers_of t.ports ++ map (λ k. k.number) left.handles)
          (once_left (λ k. not ((k.node == node) && (k.number == n))) (numbers_of t.ports) t.handles (distinct-no_repeats (numbers_in t) order.numbers.apart)));
      below = λ m has.
          order.numbers.below m
          (among-number m (numbers_in t)
          (among_left (λ k. not ((k.node == node) && (k.number == n))) m (numbers_of t.ports) t.handles
          (number-among m (numbers_of t.ports ++ map (λ k. k.number) left.handles)
          (subst (λ xs. has_number m (xs ++ map (λ k. k.number) left.handles) ≡ true) (same_numbers t.ports ports gave.alike) has))));
      owners = λ place q at.
          let p = pool_before t.pools pools fewer.same place q at in subst (λ k. k < t.next_number) (ap (λ (x : PoolState). x.port) p.2) (order.numbers.owners place p.0 p.1);
      kept = low_kept t.ports ports gave.alike t.next_number order.numbers.kept;
    }

    -- ---- handles

    alone : LoansAreAlone left
    alone =
        each_handle_from (λ x. IsCountedIn left.handles x × IsAlone t x) (IsAlone left) (λ x both loan. stays x both.0 (both.1 loan)) left.handles
        (each_both (IsCountedIn left.handles) (IsAlone t) left.handles (each_counts left.handles) (each_left (IsAlone t) node n t.handles order.alone))
      where
        stays : (x : HandleState) → IsCountedIn left.handles x → (slot_at t.pools x.pool x.slot).holders ≡ 1 → (slot_at pools x.pool x.slot).holders ≡ 1
        stays x counts one =
            let holders = fewer.holders x.pool x.slot in
            let all = order.counted x.pool x.slot in
            let below = counts (λ k. if is_at x.pool x.slot k then 1 else 0) in
            let some = passes_once (is_at x.pool x.slot) x (at_itself x) in
            let handles = drops (λ k. if is_at x.pool x.slot k then 1 else 0) in omega (arith, holders, all, below, some, handles, one)

    own : OwnAreApart left
    own pool k =
        let all = drops (λ x. if is_own_at pool k x then 1 else 0) in
        let old = order.own pool k in omega (arith, all, old)

    taken : TakenHaveHandles left
    taken w l k at =
        let m = lane_before t.ports ports gave.alike w l at in
        let new : by_lane (λ x. how_often k x.taken) 0 (lane_on ports) w ≡ how_often k l.taken = ap (λ o. option_map_or (λ x. how_often k x.taken) o 0) at in
        let change = gave.taken w m.0 k m.1 in
        let before = order.taken w m.0 k m.1 in
        let all = drops (λ x. if is_from t.pools w m.0.pool k x then 1 else 0) in
        let here : how_often k l.taken ≡ total (λ x. if is_from t.pools w m.0.pool k x then 1 else 0) left.handles = omega (arith, new, change, before, all) in
        here
        ∙ ap (λ c. how_many (is_from t.pools w c k) left.handles) (ap (λ (x : LaneState). x.pool) m.2)
        ∙ total_same (λ x. if is_from t.pools w l.pool k x then 1 else 0) (λ x. if is_from pools w l.pool k x then 1 else 0)
        (λ x. ap (λ v. if is_received x.kind && (same_way v w && is_at l.pool k x) then 1 else 0) (way_stays t left order gave.alike fewer.same x)) left.handles

    pub kept : AreInOrder left
    kept = record {
      counted = counted;
      serials = serials;
      pools = pools_stay t left order gave.alike fewer.same refl;
      once = gave.once;
      lanes = lanes_stay t left order gave.alike fewer.same refl;
      labels = labels;
      owners = owners_stay t left order gave.alike fewer.same (λ w l m k at on has. inl (was_there w l m k at on has));
      widths = widths_stay t left order gave.alike fewer.same refl;
      wired = wired_stay t left order gave.alike fewer.same refl;
      numbers = numbers;
      ports = each_handle_from (IsOfPort t) (IsOfPort left) (of_port_stays t left order gave.alike fewer.same) left.handles (each_left (IsOfPort t) node n t.handles order.ports);
      alone = alone;
      own = own;
      taken = taken;
      received =
          each_handle_from (IsFromLane t) (IsFromLane left) (from_lane_stays t left order gave.alike fewer.same) left.handles
          (each_left (IsFromLane t) node n t.handles order.received);
    }
