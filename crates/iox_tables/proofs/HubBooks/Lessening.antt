-- Where lanes have no more than before and receivers have the same, the tables stay in order.
use Rattle.std.specs.Prelude.{◌≡◌, ℕ, ◌+◌, ◌<◌, ◌≤◌, Bool, true, false, ◌&&◌, if◌then◌else◌, ◌==◌, List, [], ◌∷◌, ◌++◌, map, Option, Some, None, refl}
use Rattle.std.specs.Option.{option_map, option_map_or}
use Rattle.std.proofs.Common.{sym, ap, subst, ◌∙◌, arith, inl}
use Rattle.iox_model.specs.declared.way.Way.{Way}
use Rattle.iox_model.specs.Handles.{is_received}
use Rattle.iox_model.specs.Maps.{has_number, same_way}
use Rattle.iox_lanes.specs.Lanes.{LaneState}
use Rattle.iox_tables.specs.HubStates.Tables.{HandleState, HubTables, PoolState, PortState, slot_at}
use Rattle.iox_tables.specs.HubStates.Ways.{OnWays, at, lane_on, with_lane_on, with_lanes_on}
use Rattle.iox_tables.specs.HubStates.Changes.{emptied_lane}
use Rattle.iox_tables.specs.HubStates.Shown.{by_lane}
use Rattle.iox_tables.specs.HubStates.Steps.{places_on}
use Rattle.iox_tables.proofs.HubStates.Keys.{at_is, lane_turned}
use Rattle.iox_tables.specs.HubBooks.Counts.{OfAllLanes, how_many, how_often, is_at, lane_count, total}
use Rattle.iox_tables.specs.HubBooks.Handles.{IsAlone, IsFromLane, IsOfPort, LoansAreAlone, TakenHaveHandles, is_from}
use Rattle.iox_tables.specs.HubBooks.Hubs.{AreInOrder, HasEachPlaceOnce, HaveSerials, HoldersAreCounted, IsUsed, ResponsesAreOnTheirLanes}
use Rattle.iox_tables.specs.HubBooks.Keeps.{bare_pools}
use Rattle.iox_tables.proofs.HubBooks.Eachs.{lanes_keep}
use Rattle.iox_tables.proofs.HubBooks.Frames.{AreAlike, lane_before, lanes_on_bare, port_before}
use Rattle.iox_tables.proofs.HubBooks.Going.{each_both, from_lane_stays, numbers_stay, of_port_stays, way_stays}
use Rattle.iox_tables.proofs.HubBooks.Held.{IsCountedIn, each_counts, each_handle_from}
use Rattle.iox_tables.proofs.HubBooks.LaneCounts.{emptied_places}
use Rattle.iox_tables.proofs.HubBooks.LaneLists.{lanes_total}
use Rattle.iox_tables.proofs.HubBooks.Places.{has_often, often_has}
use Rattle.iox_tables.proofs.HubBooks.Structures.{lanes_stay, owners_stay, pools_stay, same_lane, same_numbers, same_role_in, same_serial, widths_stay, wired_stay}
use Rattle.iox_tables.proofs.HubBooks.Totals.{total_same}
use Rattle.iox_tables.proofs.HubBooks.Used.{at_itself, passes_once}

-- on these ports lanes have no more, and receivers the same
pub record HasNoMore (old new : List PortState) : Type 0 where
  pub alike : AreAlike old new
  pub once : OfAllLanes HasEachPlaceOnce old → OfAllLanes HasEachPlaceOnce new
  pub places :
      (w : Way) (k : ℕ) → by_lane (λ l. how_often k (places_on l)) 0 (lane_on new) w ≤ by_lane (λ l. how_often k (places_on l)) 0 (lane_on old) w
  pub taken :
      (w : Way) (k : ℕ) → by_lane (λ l. how_often k l.taken) 0 (lane_on new) w ≡ by_lane (λ l. how_often k l.taken) 0 (lane_on old) w

module _ (t : HubTables) (order : AreInOrder t) (ports : List PortState) (no_more : HasNoMore t.ports ports) (pools : List (Option PoolState)) (same : bare_pools t.pools ≡ bare_pools pools)
    (fewer : (pool k : ℕ) → (slot_at pools pool k).holders ≤ (slot_at t.pools pool k).holders) (calls : ℕ)
  where
    abbrev pub less : HubTables
    less = record t { calls = calls; ports = ports; pools = pools }

    module _ (counted : HoldersAreCounted less) where
      used_before : (pool k : ℕ) → IsUsed less pool k → IsUsed t pool k
      used_before pool k used = let holders = fewer pool k in omega (arith, holders, used)

      serials : HaveSerials less
      serials = record {
        apart = λ pool j k a b e. order.serials.apart pool j k (used_before pool j a) (used_before pool k b) (same_serial t.pools pools same pool j ∙ e ∙ sym (same_serial t.pools pools same pool k));
        below = λ m k p at used.
            let q = port_before t.ports ports no_more.alike m p at in
            let is : q.0.pool ≡ p.pool = ap (λ (x : PortState). x.pool) q.2 in
            let low : (slot_at t.pools p.pool k).serial < q.0.loans
            = subst (λ c. (slot_at t.pools c k).serial < q.0.loans) is (order.serials.below m k q.0 q.1 (subst (λ c. IsUsed t c k) (sym is) (used_before p.pool k used))) in
            subst (λ c. c < p.loans) (same_serial t.pools pools same p.pool k) (subst (λ c. (slot_at t.pools p.pool k).serial < c) (ap (λ (x : PortState). x.loans) q.2) low);
      }

      -- what is on a lane was there
      was_there : (w : Way) (l m : LaneState) (k : ℕ) → lane_on ports w ≡ Some l → lane_on t.ports w ≡ Some m → has_number k (places_on l) ≡ true → has_number k (places_on m) ≡ true
      was_there w l m k at on has =
          let places = no_more.places w k in
          let new : by_lane (λ x. how_often k (places_on x)) 0 (lane_on ports) w ≡ how_often k (places_on l) = ap (λ o. option_map_or (λ x. how_often k (places_on x)) o 0) at in
          let old : by_lane (λ x. how_often k (places_on x)) 0 (lane_on t.ports) w ≡ how_often k (places_on m) = ap (λ o. option_map_or (λ x. how_often k (places_on x)) o 0) on in
          let some = often_has k (places_on l) has in has_often k (places_on m) (omega (arith, places, new, old, some))

      labels : ResponsesAreOnTheirLanes less
      labels w l k at client has =
          let m = lane_before t.ports ports no_more.alike w l at in
          let there : has_number k (places_on m.0) ≡ true = was_there w l m.0 k at m.1 has in
          sym (same_lane t.pools pools same l.pool k)
          ∙ subst (λ c. (slot_at t.pools c k).lane ≡ w.lane) (ap (λ (x : LaneState). x.pool) m.2)
          (order.labels w m.0 k m.1 (sym (same_role_in t.ports ports no_more.alike w.receiver) ∙ client) there)

      alone : LoansAreAlone less
      alone =
          each_handle_from (λ x. IsCountedIn t.handles x × IsAlone t x) (IsAlone less) (λ x both loan. stays x both.0 (both.1 loan)) t.handles
          (each_both (IsCountedIn t.handles) (IsAlone t) t.handles (each_counts t.handles) order.alone)
        where
          stays : (x : HandleState) → IsCountedIn t.handles x → (slot_at t.pools x.pool x.slot).holders ≡ 1 → (slot_at pools x.pool x.slot).holders ≡ 1
          stays x counts one =
              let holders = fewer x.pool x.slot in
              let all = counted x.pool x.slot in
              let below = counts (λ k. if is_at x.pool x.slot k then 1 else 0) in
              let some = passes_once (is_at x.pool x.slot) x (at_itself x) in omega (arith, holders, all, below, some, one)

      taken : TakenHaveHandles less
      taken w l k at =
          let m = lane_before t.ports ports no_more.alike w l at in
          let new : by_lane (λ x. how_often k x.taken) 0 (lane_on ports) w ≡ how_often k l.taken = ap (λ o. option_map_or (λ x. how_often k x.taken) o 0) at in
          let old : by_lane (λ x. how_often k x.taken) 0 (lane_on t.ports) w ≡ how_often k m.0.taken = ap (λ o. option_map_or (λ x. how_often k x.taken) o 0) m.1 in
          sym new ∙ no_more.taken w k ∙ old ∙ order.taken w m.0 k m.1
          ∙ ap (λ c. how_many (is_from t.pools w c k) t.handles) (ap (λ (x : LaneState). x.pool) m.2)
          ∙ total_same (λ x. if is_from t.pools w l.pool k x then 1 else 0) (λ x. if is_from pools w l.pool k x then 1 else 0)
          (λ x. ap (λ v. if is_received x.kind && (same_way v w && is_at l.pool k x) then 1 else 0) (way_stays t less order no_more.alike same x)) t.handles

      pub kept : AreInOrder less
      kept = record {
        counted = counted;
        serials = serials;
        pools = pools_stay t less order no_more.alike same refl;
        once = no_more.once order.once;
        lanes = lanes_stay t less order no_more.alike same refl;
        labels = labels;
        owners = owners_stay t less order no_more.alike same (λ w l m k at on has. inl (was_there w l m k at on has));
        widths = widths_stay t less order no_more.alike same refl;
        wired = wired_stay t less order no_more.alike same refl;
        numbers = numbers_stay t less order no_more.alike same (ap (λ xs. xs ++ map (λ h. h.number) t.handles) (same_numbers t.ports ports no_more.alike)) refl;
        ports = each_handle_from (IsOfPort t) (IsOfPort less) (of_port_stays t less order no_more.alike same) t.handles order.ports;
        alone = alone;
        own = order.own;
        taken = taken;
        received = each_handle_from (IsFromLane t) (IsFromLane less) (from_lane_stays t less order no_more.alike same) t.handles order.received;
      }

-- ---- measures of lanes

le_refl : (n : ℕ) → n ≤ n
le_refl n = omega arith

le_trans : (a b c : ℕ) → a ≤ b → b ≤ c → a ≤ c
le_trans a b c p q = omega (arith, p, q)

-- a measure that no change raises
module _ (f : LaneState → ℕ) (g : LaneState → LaneState) where
  one_less : ((l : LaneState) → f (g l) ≤ f l) → (on : OnWays LaneState) (w v : Way) → by_lane f 0 (at g on w) v ≤ by_lane f 0 on v
  one_less below on w v = subst (λ o. option_map_or f o 0 ≤ option_map_or f (on v) 0) (sym (at_is g on w v)) (step (same_way v w) (on v))
    where
      step : (b : Bool) (o : Option LaneState) → option_map_or f (if b then option_map g o else o) 0 ≤ option_map_or f o 0
      step true (Some l) = below l
      step true None = le_refl 0
      step false o = le_refl (option_map_or f o 0)

  pub all_less : ((l : LaneState) → f (g l) ≤ f l) → (ports : List PortState) (ws : List Way) (v : Way) → by_lane f 0 (lane_on (with_lanes_on g ports ws)) v ≤ by_lane f 0 (lane_on ports) v
  all_less below ports [] v = le_refl (by_lane f 0 (lane_on ports) v)
  all_less below ports (w ∷ ws) v =
      le_trans _ _ _ (all_less below (with_lane_on g ports w) ws v)
      (subst (λ on. by_lane f 0 on v ≤ by_lane f 0 (lane_on ports) v) (sym (lane_turned g ports w)) (one_less below (lane_on ports) w v))

  pub all_same : ((l : LaneState) → f (g l) ≡ f l) → (ports : List PortState) (ws : List Way) (v : Way) → by_lane f 0 (lane_on (with_lanes_on g ports ws)) v ≡ by_lane f 0 (lane_on ports) v
  all_same same ports [] v = refl
  all_same same ports (w ∷ ws) v =
      all_same same (with_lane_on g ports w) ws v ∙ ap (λ on. by_lane f 0 on v) (lane_turned g ports w) ∙ ap (λ o. option_map_or f o 0) (at_is g (lane_on ports) w v)
      ∙ step (same_way v w) (lane_on ports v)
    where
      step : (b : Bool) (o : Option LaneState) → option_map_or f (if b then option_map g o else o) 0 ≡ option_map_or f o 0
      step true (Some l) = same l
      step true None = refl
      step false o = refl
