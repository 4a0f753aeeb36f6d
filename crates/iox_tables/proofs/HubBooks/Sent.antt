-- A loan that is delivered becomes another handle, or ends: the tables stay in order.
use Rattle.std.specs.Prelude.{◌≡◌, ◌⊎◌, ℕ, ◌+◌, ◌<◌, ◌≤◌, Bool, true, false, ◌&&◌, if◌then◌else◌, ◌==◌, List, [], ◌∷◌, Option, Some, None, refl}
use Rattle.std.specs.Option.{option_map_or}
use Rattle.std.proofs.Common.{sym, ap, ap₂, subst, ◌∙◌, arith, inl, inr, true≢false, eqb-true}
use Rattle.iox_model.specs.declared.kind.Role.TheVariants.{Client}
use Rattle.iox_model.specs.declared.way.Way.{Way}
use Rattle.iox_model.specs.Handles.{is_own, is_received}
use Rattle.iox_model.specs.Maps.{has_number, same_way}
use Rattle.iox_lanes.specs.Lanes.{LaneState}
use Rattle.iox_tables.specs.HubStates.Tables.{HandleState, HubTables, PoolState, PortState, owner_of, slot_at}
use Rattle.iox_tables.specs.HubStates.Ways.{lane_on}
use Rattle.iox_tables.specs.HubStates.Ends.{OfEachHandle}
use Rattle.iox_tables.specs.HubStates.Shown.{by_lane}
use Rattle.iox_tables.specs.HubStates.Steps.{places_on}
use Rattle.iox_tables.specs.HubStates.Wirings.{handle_in, role_in}
use Rattle.iox_tables.specs.HubBooks.Counts.{OfAllLanes, how_many, how_often, is_at, lane_uses, total}
use Rattle.iox_tables.specs.HubBooks.Handles.{IsAlone, IsFromLane, IsOfPort, LoansAreAlone, OwnAreApart, TakenHaveHandles, is_from, is_loan, is_own_at, way_in}
use Rattle.iox_tables.specs.HubBooks.Hubs.{AreInOrder, HasEachPlaceOnce, HaveNumbers, HaveSerials, HoldersAreCounted, IsUsed, ResponsesAreOnTheirLanes}
use Rattle.iox_tables.specs.HubBooks.Keeps.{bare_pools}
use Rattle.iox_tables.proofs.HubBooks.Frames.{AreAlike, lane_before, port_before}
use Rattle.iox_tables.proofs.HubBooks.Going.{each_both, from_lane_stays, of_port_stays, way_stays}
use Rattle.iox_tables.proofs.HubBooks.Held.{IsCountedIn, each_counts, each_handle_from}
use Rattle.iox_tables.proofs.HubBooks.Receive.{OfThat, of_that}
use Rattle.iox_tables.proofs.HubBooks.Structures.{lanes_stay, owners_stay, pools_stay, same_lane, same_role_in, same_serial, widths_stay, wired_stay}
use Rattle.iox_tables.proofs.HubBooks.Totals.{total_same}
use Rattle.iox_tables.proofs.HubBooks.Used.{at_itself, passes_once, used_by_handle}

-- one handle gave way to another, or to none
pub record GivesWay (old new : List HandleState) (h : HandleState) (o : Option HandleState) : Type 1 where
  pub counts : (f : HandleState → ℕ) → total f new + f h ≡ total f old + of_that f o
  pub each : (P : HandleState → Type 0) → OfEachHandle P old → OfThat P o → OfEachHandle P new

-- what takes the place of a loan: nothing, or a handle of the same message that is no loan
pub record IsAfterLoan (t : HubTables) (h : HandleState) (o : Option HandleState) : Type 0 where
  pub port : OfThat (IsOfPort t) o
  pub same : OfThat (λ k. (k.pool ≡ h.pool) × (k.slot ≡ h.slot)) o
  pub not_loan : OfThat (λ k. is_loan k.kind ≡ false) o
  pub not_received : OfThat (λ k. is_received k.kind ≡ false) o

-- ports once the handle's message is on some lanes more
pub record Gives (t : HubTables) (h : HandleState) (ports : List PortState) : Type 0 where
  pub alike : AreAlike t.ports ports
  pub once : OfAllLanes HasEachPlaceOnce ports
  pub others : (pool k : ℕ) → is_at pool k h ≡ false → lane_uses ports pool k ≤ lane_uses t.ports pool k
  pub places :
      (w : Way) (l m : LaneState) (k : ℕ) → lane_on ports w ≡ Some l → lane_on t.ports w ≡ Some m → has_number k (places_on l) ≡ true
      → (has_number k (places_on m) ≡ true)
      ⊎ (((role_in t.ports w.receiver ≡ Client) → (slot_at t.pools m.pool k).lane ≡ w.lane) × (owner_of t.pools m.pool ≡ w.sender))
  pub taken :
      (w : Way) (k : ℕ) → by_lane (λ l. how_often k l.taken) 0 (lane_on ports) w ≡ by_lane (λ l. how_often k l.taken) 0 (lane_on t.ports) w

total_le : {A : Type 0} (f g : A → ℕ) → ((x : A) → f x ≤ g x) → (xs : List A) → total f xs ≤ total g xs
total_le f g below [] = omega arith
total_le f g below (x ∷ xs) = let one = below x in let more = total_le f g below xs in omega (arith, one, more)

module _ (t : HubTables) (order : AreInOrder t) (node n : ℕ) (h : HandleState) (named : handle_in t.handles node n ≡ Some h) (loan : is_loan h.kind ≡ true) (own_kind : is_own h.kind ≡ true)
    (not : is_received h.kind ≡ false) (ports : List PortState) (gives : Gives t h ports) (o : Option HandleState) (is : IsAfterLoan t h o) (hs : List HandleState)
    (gone : GivesWay t.handles hs h o) (pools : List (Option PoolState)) (same : bare_pools t.pools ≡ bare_pools pools) (calls : ℕ)
  where
    abbrev pub sent : HubTables
    sent = record t { calls = calls; ports = ports; handles = hs; pools = pools }

    module _ (counted : HoldersAreCounted sent) where
      -- nothing else is held by more
      elsewhere : (pool k : ℕ) → is_at pool k h ≡ false → (slot_at pools pool k).holders ≤ (slot_at t.pools pool k).holders
      elsewhere pool k off =
          let new = counted pool k in
          let old = order.counted pool k in
          let lanes = gives.others pool k off in
          let handles = gone.counts (λ x. if is_at pool k x then 1 else 0) in
          let none = that o is.same in omega (arith, new, old, lanes, handles, none)
        where
          that : (o : Option HandleState) → OfThat (λ x. (x.pool ≡ h.pool) × (x.slot ≡ h.slot)) o → of_that (λ x. if is_at pool k x then 1 else 0) o ≡ 0
          that (Some x) e = ap₂ (λ (a b : ℕ). if (a == pool) && (b == k) then 1 else 0) e.0 e.1 ∙ ap (λ (b : Bool). if b then 1 else 0) off
          that None e = refl

      used_before : (pool k : ℕ) → IsUsed sent pool k → IsUsed t pool k
      used_before pool k used = step (h.pool == pool) (h.slot == k) refl refl
        where
          off : (a b : Bool) → (h.pool == pool) ≡ a → (h.slot == k) ≡ b → (a && b) ≡ false → IsUsed t pool k
          off a b e f none = let less = elsewhere pool k (ap₂ (λ x y. x && y) e f ∙ none) in omega (arith, less, used)

          step : (a b : Bool) → (h.pool == pool) ≡ a → (h.slot == k) ≡ b → IsUsed t pool k
          step true true e f = subst (λ p. IsUsed t p k) (eqb-true h.pool pool e) (subst (λ i. IsUsed t h.pool i) (eqb-true h.slot k f) (used_by_handle t order node n h named))
          step true false e f = off true false e f refl
          step false b e f = off false b e f refl

      serials : HaveSerials sent
      serials = record {
        apart = λ pool j k a b e. order.serials.apart pool j k (used_before pool j a) (used_before pool k b) (same_serial t.pools pools same pool j ∙ e ∙ sym (same_serial t.pools pools same pool k));
        below = λ m k p at used.
            let q = port_before t.ports ports gives.alike m p at in
            let e : q.0.pool ≡ p.pool = ap (λ (x : PortState). x.pool) q.2 in
            let low : (slot_at t.pools p.pool k).serial < q.0.loans
            = subst (λ c. (slot_at t.pools c k).serial < q.0.loans) e (order.serials.below m k q.0 q.1 (subst (λ c. IsUsed t c k) (sym e) (used_before p.pool k used))) in
            subst (λ c. c < p.loans) (same_serial t.pools pools same p.pool k) (subst (λ c. (slot_at t.pools p.pool k).serial < c) (ap (λ (x : PortState). x.loans) q.2) low);
      }

      labels : ResponsesAreOnTheirLanes sent
      labels w l k at role has =
          let m = lane_before t.ports ports gives.alike w l at in
          let client : role_in t.ports w.receiver ≡ Client = sym (same_role_in t.ports ports gives.alike w.receiver) ∙ role in
          sym (same_lane t.pools pools same l.pool k)
          ∙ subst (λ c. (slot_at t.pools c k).lane ≡ w.lane) (ap (λ (x : LaneState). x.pool) m.2) (step m.0 m.1 client (gives.places w l m.0 k at m.1 has))
        where
          step : (m : LaneState) → lane_on t.ports w ≡ Some m → role_in t.ports w.receiver ≡ Client
              → (has_number k (places_on m) ≡ true) ⊎ (((role_in t.ports w.receiver ≡ Client) → (slot_at t.pools m.pool k).lane ≡ w.lane) × (owner_of t.pools m.pool ≡ w.sender))
              → (slot_at t.pools m.pool k).lane ≡ w.lane
          step m on client (inl there) = order.labels w m k on client there
          step m on client (inr new) = new.0 client

      -- what is on a lane was there, or is of its sender
      owned : (w : Way) (l m : LaneState) (k : ℕ) → lane_on ports w ≡ Some l → lane_on t.ports w ≡ Some m → has_number k (places_on l) ≡ true
          → (has_number k (places_on m) ≡ true) ⊎ (owner_of t.pools m.pool ≡ w.sender)
      owned w l m k at on has = step (gives.places w l m k at on has)
        where
          step : (has_number k (places_on m) ≡ true) ⊎ (((role_in t.ports w.receiver ≡ Client) → (slot_at t.pools m.pool k).lane ≡ w.lane) × (owner_of t.pools m.pool ≡ w.sender))
              → (has_number k (places_on m) ≡ true) ⊎ (owner_of t.pools m.pool ≡ w.sender)
          step (inl there) = inl there
          step (inr new) = inr new.1

      alone : LoansAreAlone sent
      alone =
          each_handle_from (λ x. IsCountedIn hs x × IsAlone t x) (IsAlone sent) (λ x both is_one. stays x both.0 is_one (both.1 is_one)) hs
          (each_both (IsCountedIn hs) (IsAlone t) hs (each_counts hs) (gone.each (IsAlone t) order.alone (that o is.not_loan)))
        where
          that : (o : Option HandleState) → OfThat (λ k. is_loan k.kind ≡ false) o → OfThat (IsAlone t) o
          that (Some k) none = λ e. absurd (true≢false (sym e ∙ none))
          that None none = tt

          stays : (x : HandleState) → IsCountedIn hs x → is_loan x.kind ≡ true → (slot_at t.pools x.pool x.slot).holders ≡ 1 → (slot_at pools x.pool x.slot).holders ≡ 1
          stays x counts is_one one = step (is_at x.pool x.slot h) refl
            where
              both_there : is_at x.pool x.slot h ≡ true → ⊥
              both_there e =
                  let loans = gone.counts (λ k. if is_loan k.kind && is_at x.pool x.slot k then 1 else 0) in
                  let of_x = counts (λ k. if is_loan k.kind && is_at x.pool x.slot k then 1 else 0) in
                  let some_x = passes_once (λ k. is_loan k.kind && is_at x.pool x.slot k) x (ap₂ (λ a b. a && b) is_one (at_itself x)) in
                  let some_h = passes_once (λ k. is_loan k.kind && is_at x.pool x.slot k) h (ap₂ (λ a b. a && b) loan e) in
                  let all = order.counted x.pool x.slot in
                  let below = total_le (λ k. if is_loan k.kind && is_at x.pool x.slot k then 1 else 0) (λ k. if is_at x.pool x.slot k then 1 else 0) (λ k. less (is_loan k.kind) (is_at x.pool x.slot k)) t.handles in
                  omega (arith, loans, of_x, some_x, some_h, all, below, one, none o is.not_loan)
                where
                  less : (a b : Bool) → (if a && b then 1 else 0) ≤ (if b then 1 else 0)
                  less true true = omega arith
                  less true false = omega arith
                  less false true = omega arith
                  less false false = omega arith

                  none : (o : Option HandleState) → OfThat (λ k. is_loan k.kind ≡ false) o → of_that (λ k. if is_loan k.kind && is_at x.pool x.slot k then 1 else 0) o ≡ 0
                  none (Some k) e = ap (λ (b : Bool). if b && is_at x.pool x.slot k then 1 else 0) e
                  none None e = refl

              step : (b : Bool) → is_at x.pool x.slot h ≡ b → (slot_at pools x.pool x.slot).holders ≡ 1
              step true e = absurd (both_there e)
              step false e =
                  let less = elsewhere x.pool x.slot e in
                  let new = counted x.pool x.slot in
                  let below = counts (λ k. if is_at x.pool x.slot k then 1 else 0) in
                  let some = passes_once (is_at x.pool x.slot) x (at_itself x) in omega (arith, less, new, below, some, one)

      own : OwnAreApart sent
      own pool k =
          let all = gone.counts (λ x. if is_own_at pool k x then 1 else 0) in
          let old = order.own pool k in
          let less = that o is.same in omega (arith, all, old, less)
        where
          at_most : (b c : Bool) → c ≡ true → (d : Bool) → (if b && d then 1 else 0) ≤ (if c && d then 1 else 0)
          at_most true true e d = same_le (if d then 1 else 0)
            where
              same_le : (i : ℕ) → i ≤ i
              same_le i = omega arith
          at_most false true e true = omega arith
          at_most false true e false = omega arith
          at_most b false e d = absurd (true≢false (sym e))

          that : (o : Option HandleState) → OfThat (λ x. (x.pool ≡ h.pool) × (x.slot ≡ h.slot)) o → of_that (λ x. if is_own_at pool k x then 1 else 0) o ≤ (if is_own_at pool k h then 1 else 0)
          that (Some x) e =
              subst (λ b. (if is_own x.kind && b then 1 else 0) ≤ (if is_own h.kind && is_at pool k h then 1 else 0)) (sym (ap₂ (λ (a b : ℕ). (a == pool) && (b == k)) e.0 e.1))
              (at_most (is_own x.kind) (is_own h.kind) own_kind (is_at pool k h))
          that None e = omega arith

      taken : TakenHaveHandles sent
      taken w l k at =
          let m = lane_before t.ports ports gives.alike w l at in
          let new : by_lane (λ x. how_often k x.taken) 0 (lane_on ports) w ≡ how_often k l.taken = ap (λ o. option_map_or (λ x. how_often k x.taken) o 0) at in
          let old : by_lane (λ x. how_often k x.taken) 0 (lane_on t.ports) w ≡ how_often k m.0.taken = ap (λ o. option_map_or (λ x. how_often k x.taken) o 0) m.1 in
          let change = gives.taken w k in
          let before = order.taken w m.0 k m.1 in
          let all = gone.counts (λ x. if is_from t.pools w m.0.pool k x then 1 else 0) in
          let none : of_that (λ x. if is_from t.pools w m.0.pool k x then 1 else 0) (Some h) ≡ 0 = none_received m.0 (Some h) not in
          let that = none_received m.0 o is.not_received in
          let here : how_often k l.taken ≡ total (λ x. if is_from t.pools w m.0.pool k x then 1 else 0) hs = omega (arith, new, old, change, before, all, none, that) in
          here
          ∙ ap (λ c. how_many (is_from t.pools w c k) hs) (ap (λ (x : LaneState). x.pool) m.2)
          ∙ total_same (λ x. if is_from t.pools w l.pool k x then 1 else 0) (λ x. if is_from pools w l.pool k x then 1 else 0)
          (λ x. ap (λ v. if is_received x.kind && (same_way v w && is_at l.pool k x) then 1 else 0) (way_stays t sent order gives.alike same x)) hs
        where
          none_received : (m : LaneState) (o : Option HandleState) → OfThat (λ x. is_received x.kind ≡ false) o → of_that (λ x. if is_from t.pools w m.pool k x then 1 else 0) o ≡ 0
          none_received m (Some x) e = ap (λ (b : Bool). if b && (same_way (way_in t.pools x) w && is_at m.pool k x) then 1 else 0) e
          none_received m None e = refl

      from_lane : (o : Option HandleState) → OfThat (λ x. is_received x.kind ≡ false) o → OfThat (IsFromLane t) o
      from_lane (Some x) e = λ r. absurd (true≢false (sym r ∙ e))
      from_lane None e = tt

      pub kept : HaveNumbers sent → AreInOrder sent
      kept numbers = record {
        counted = counted;
        serials = serials;
        pools = pools_stay t sent order gives.alike same refl;
        once = gives.once;
        lanes = lanes_stay t sent order gives.alike same refl;
        labels = labels;
        owners = owners_stay t sent order gives.alike same owned;
        widths = widths_stay t sent order gives.alike same refl;
        wired = wired_stay t sent order gives.alike same refl;
        numbers = numbers;
        ports = each_handle_from (IsOfPort t) (IsOfPort sent) (of_port_stays t sent order gives.alike same) hs (gone.each (IsOfPort t) order.ports is.port);
        alone = alone;
        own = own;
        taken = taken;
        received = each_handle_from (IsFromLane t) (IsFromLane sent) (from_lane_stays t sent order gives.alike same) hs (gone.each (IsFromLane t) order.received (from_lane o is.not_received));
      }
