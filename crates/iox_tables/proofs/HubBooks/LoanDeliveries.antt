-- Loans that are delivered keep the tables of a hub in order.
use Rattle.std.specs.Prelude.{◌≡◌, ◌⊎◌, ℕ, ◌+◌, ◌<◌, ◌≤◌, Bool, true, false, not, ◌&&◌, ◌||◌, if◌then◌else◌, ◌==◌, nat_lt, List, [], ◌∷◌, ◌++◌, map, length, Option, Some, None, refl}
use Rattle.std.specs.Option.{option_map_or}
use Rattle.std.proofs.Common.{sym, ap, ap₂, subst, ◌∙◌, arith, inl, inr, true≢false, eqb-true}
use Rattle.iox_model.specs.declared.kind.Role.TheVariants.{Client}
use Rattle.iox_model.specs.declared.kind.Kind.{Kind}
use Rattle.iox_model.specs.declared.kind.Kind.TheVariants as kinds
use Rattle.iox_model.specs.declared.way.Way.{Way}
use Rattle.iox_model.specs.Handles.{is_own, is_received, is_request_loan, is_response_loan}
use Rattle.iox_model.specs.Maps.{AreDistinct, has_number, has_way, same_way}
use Rattle.iox_laws.proofs.WeaveLaws.MapLemmas.{same_way-refl}
use Rattle.iox_laws.proofs.WeaveLedger.Lists.{among-number, distinct-no_repeats, no_repeats-distinct, number-among}
use Rattle.iox_lanes.specs.Lanes.{LaneState, delivered, without_oldest}
use Rattle.iox_tables.specs.HubStates.Tables.{HandleState, HubTables, PoolState, PortState, numbers_of, owner_of, pool_at, port_in, slot_at}
use Rattle.iox_tables.proofs.HubStates.Fixing.{first_key}
use Rattle.iox_tables.specs.HubStates.Ways.{lane_on, with_lanes_on}
use Rattle.iox_tables.specs.HubStates.Ends.{OfEachHandle, changed_handles, dropped_handles}
use Rattle.iox_tables.specs.HubStates.Sendings.{pending_of}
use Rattle.iox_tables.specs.HubStates.Shown.{by_lane}
use Rattle.iox_tables.specs.HubStates.Steps.{places_on}
use Rattle.iox_tables.specs.HubStates.Wirings.{IsHandle, handle_in, role_in}
use Rattle.iox_tables.proofs.HubStates.Naming.{handle_node, handle_number}
use Rattle.iox_tables.specs.HubBooks.Counts.{how_often, is_at, lane_count, lane_uses, total}
use Rattle.iox_tables.specs.HubBooks.Handles.{IsOfPort, is_loan, role_for}
use Rattle.iox_tables.specs.HubBooks.Hubs.{AreInOrder, HasEachPlaceOnce, HaveNumbers, numbers_in}
use Rattle.iox_tables.specs.HubBooks.Keeps.{AreTargetsOf, RequestDeliveriesKeepOrder, ResponseDeliveriesKeepOrder, delivers}
use Rattle.iox_tables.proofs.HubBooks.Delivering.{lane_elsewhere, lanes_keep_at}
use Rattle.iox_tables.proofs.HubBooks.Frames.{bare_lane, lanes_on_bare}
use Rattle.iox_tables.proofs.HubBooks.Going.{numbers_stay}
use Rattle.iox_tables.proofs.HubBooks.HandleTotals.{handle_changed, handle_dropped}
use Rattle.iox_tables.proofs.HubBooks.LaneCounts.{delivered_places, evicted_places}
use Rattle.iox_tables.proofs.HubBooks.LaneLists.{lanes_total}
use Rattle.iox_tables.proofs.HubBooks.Lessening.{all_less, all_same}
use Rattle.iox_tables.proofs.HubBooks.Places.{has_often, often_has}
use Rattle.iox_tables.proofs.HubBooks.Release.{among_left, each_left, handles_apart, once_left}
use Rattle.iox_tables.proofs.HubBooks.Sent.{Gives, GivesWay, IsAfterLoan, kept}
use Rattle.iox_tables.proofs.HubBooks.Structures.{low_kept, pool_before, same_numbers}
use Rattle.iox_tables.proofs.HubBooks.Used.{handle_is, on_no_lane}
use Rattle.iox_tables.proofs.HubBooks.OneGiven.{gives_bare, gives_taken}

-- ---- one lane

module _ (overflow : Bool) (k : ℕ) where
  gives_more : (i : ℕ) (l : LaneState) → how_often i (places_on (delivers overflow k l)) ≤ how_often i (places_on l) + (if k == i then 1 else 0)
  gives_more i l = step overflow (nat_lt l.buffer (length (delivered l k).waiting))
    where
      one : how_often i (places_on (delivered l k)) ≤ how_often i (places_on l) + (if k == i then 1 else 0)
      one = let e = delivered_places (λ n. if n == i then 1 else 0) l k in omega (arith, e)

      step : (b c : Bool)
          → how_often i (places_on (if b then (if c then without_oldest (delivered l k) else delivered l k) else delivered l k)) ≤ how_often i (places_on l) + (if k == i then 1 else 0)
      step true true = let e = evicted_places (λ n. if n == i then 1 else 0) (delivered l k) in let more = one in omega (arith, e, more)
      step true false = one
      step false c = one

-- ---- all lanes

module _ (t : HubTables) (order : AreInOrder t) (node n : ℕ) (h : HandleState) (named : IsHandle t node n h) (loan : is_loan h.kind ≡ true) (own : is_own h.kind ≡ true) (overflow : Bool)
    (ws : List Way) (targets : AreTargetsOf t h ws)
  where
    is : IsOfPort t h
    is = handle_is (IsOfPort t) t.handles node n h order.ports named.there

    alone : (slot_at t.pools h.pool h.slot).holders ≡ 1
    alone = handle_is (λ k. is_loan k.kind ≡ true → (slot_at t.pools k.pool k.slot).holders ≡ 1) t.handles node n h order.alone named.there loan

    pool_is : (w : Way) (l : LaneState) → has_way w ws ≡ true → lane_on t.ports w ≡ Some l → l.pool ≡ h.pool
    pool_is w l has at = (order.lanes w l is.port at (ap (port_in t.ports) (targets.sender w has) ∙ is.there)).of_pool ∙ sym (is.of_pool own)

    -- what is of the loan's pool is of its port
    owner : (w : Way) (l : LaneState) → has_way w ws ≡ true → lane_on t.ports w ≡ Some l → owner_of t.pools l.pool ≡ w.sender
    owner w l has at =
        let pool = order.pools.each h.port is.port is.there in
        ap (owner_of t.pools) (pool_is w l has at ∙ is.of_pool own) ∙ ap (λ o. option_map_or (λ (x : PoolState). x.port) o 0) pool.there ∙ pool.port
        ∙ first_key (λ (x : PortState). x.number) t.ports h.port is.port is.there ∙ sym (targets.sender w has)

    abbrev pub new_ports : List PortState
    new_ports = with_lanes_on (delivers overflow h.slot) t.ports ws

    not_slot : (i : ℕ) → (h.slot == i) ≡ false → (l : LaneState) → how_often i (places_on (delivers overflow h.slot l)) ≤ how_often i (places_on l)
    not_slot i e l = less _ _ _ (gives_more overflow h.slot i l) (ap (λ (b : Bool). if b then 1 else 0) e)
      where
        less : (a b c : ℕ) → a ≤ b + c → c ≡ 0 → a ≤ b
        less a b c p q = omega (arith, p, q)

    once_more : (w : Way) (l : LaneState) → has_way w ws ≡ true → lane_on t.ports w ≡ Some l → HasEachPlaceOnce l → HasEachPlaceOnce (delivers overflow h.slot l)
    once_more w l has at once i = step (h.slot == i) refl
      where
        fits : (a b c : ℕ) → a ≤ b + c → b ≡ 0 → c ≤ 1 → a ≤ 1
        fits a b c p q r = omega (arith, p, q, r)

        le_trans : (a b c : ℕ) → a ≤ b → b ≤ c → a ≤ c
        le_trans a b c p q = omega (arith, p, q)

        small : (b : Bool) → (if b then 1 else 0) ≤ 1
        small true = omega arith
        small false = omega arith

        step : (b : Bool) → (h.slot == i) ≡ b → how_often i (places_on (delivers overflow h.slot l)) ≤ 1
        step true e =
            fits _ _ _ (gives_more overflow h.slot i l)
            (subst (λ j. how_often j (places_on l) ≡ 0) (eqb-true h.slot i e) (on_no_lane t order node n h named.there alone w l at (pool_is w l has at))) (small (h.slot == i))
        step false e = le_trans _ _ _ (not_slot i e l) (once i)

    others : (pool i : ℕ) → is_at pool i h ≡ false → lane_uses new_ports pool i ≤ lane_uses t.ports pool i
    others pool i off = bound _ _ _ _ (lanes_total (lane_count pool i) (delivers overflow h.slot) t.ports ws targets.apart) (sums ws (λ w has. has))
      where
        bound : (a b c d : ℕ) → a + b ≡ c + d → d ≤ b → a ≤ c
        bound a b c d e le = omega (arith, e, le)

        both : (a b c d : ℕ) → a ≤ b → c ≤ d → a + c ≤ b + d
        both a b c d p q = omega (arith, p, q)

        one : (l : LaneState) → l.pool ≡ h.pool → lane_count pool i (delivers overflow h.slot l) ≤ lane_count pool i l
        one l e =
            subst (λ p. (if p == pool then how_often i (places_on (delivers overflow h.slot l)) else 0) ≤ lane_count pool i l) (sym (ap (λ (m : LaneState). m.pool) (gives_bare overflow h.slot l)))
            (step (l.pool == pool) (h.slot == i) refl refl)
          where
            step : (a b : Bool) → (l.pool == pool) ≡ a → (h.slot == i) ≡ b
                → (if a then how_often i (places_on (delivers overflow h.slot l)) else 0) ≤ (if a then how_often i (places_on l) else 0)
            step true true p q = absurd (true≢false (sym (ap₂ (λ x y. x && y) (ap (λ c. c == pool) (sym e) ∙ p) q) ∙ off))
            step true false p q = not_slot i q l
            step false b p q = omega arith

        sums : (vs : List Way) → ((w : Way) → has_way w vs ≡ true → has_way w ws ≡ true)
            → total (by_lane (λ l. lane_count pool i (delivers overflow h.slot l)) 0 (lane_on t.ports)) vs ≤ total (by_lane (lane_count pool i) 0 (lane_on t.ports)) vs
        sums [] in_ws = omega arith
        sums (v ∷ vs) in_ws =
            both _ _ _ _ (at (lane_on t.ports v) refl)
            (sums vs (λ w has. in_ws w (second (same_way w v) (has_way w vs) has)))
          where
            second : (b c : Bool) → c ≡ true → (b || c) ≡ true
            second true c e = refl
            second false c e = e

            at : (o : Option LaneState) → lane_on t.ports v ≡ o → option_map_or (λ l. lane_count pool i (delivers overflow h.slot l)) o 0 ≤ option_map_or (lane_count pool i) o 0
            at (Some l) e = one l (pool_is v l (in_ws v (ap (λ b. b || has_way v vs) (same_way-refl v))) e)
            at None e = omega arith

    places : (w : Way) (l m : LaneState) (i : ℕ) → lane_on new_ports w ≡ Some l → lane_on t.ports w ≡ Some m → has_number i (places_on l) ≡ true
        → (has_number i (places_on m) ≡ true) ⊎ (((role_in t.ports w.receiver ≡ Client) → (slot_at t.pools m.pool i).lane ≡ w.lane) × (owner_of t.pools m.pool ≡ w.sender))
    places w l m i new old has = step (h.slot == i) (has_way w ws) refl refl
      where
        step : (a b : Bool) → (h.slot == i) ≡ a → has_way w ws ≡ b
            → (has_number i (places_on m) ≡ true) ⊎ (((role_in t.ports w.receiver ≡ Client) → (slot_at t.pools m.pool i).lane ≡ w.lane) × (owner_of t.pools m.pool ≡ w.sender))
        step true true e f =
            inr (
              (λ client. ap₂ (λ p j. (slot_at t.pools p j).lane) (pool_is w m f old) (sym (eqb-true h.slot i e)) ∙ targets.lane w f client),
              owner w m f old,
            )
        step true false e f =
            let same : l ≡ m = ap (λ o. option_map_or (λ (x : LaneState). x) o l) (sym new ∙ lane_elsewhere (delivers overflow h.slot) t.ports ws w f ∙ old) in
            inl (subst (λ x. has_number i (places_on x) ≡ true) same has)
        step false b e f =
            let below = all_less (λ x. how_often i (places_on x)) (delivers overflow h.slot) (not_slot i e) t.ports ws w in
            let here : by_lane (λ x. how_often i (places_on x)) 0 (lane_on new_ports) w ≡ how_often i (places_on l) = ap (λ o. option_map_or (λ x. how_often i (places_on x)) o 0) new in
            let before : by_lane (λ x. how_often i (places_on x)) 0 (lane_on t.ports) w ≡ how_often i (places_on m) = ap (λ o. option_map_or (λ x. how_often i (places_on x)) o 0) old in
            let some = often_has i (places_on l) has in inl (has_often i (places_on m) (omega (arith, below, here, before, some)))

    pub gives : Gives t h new_ports
    gives = record {
      alike = lanes_on_bare (delivers overflow h.slot) (gives_bare overflow h.slot) t.ports ws;
      once = lanes_keep_at HasEachPlaceOnce (delivers overflow h.slot) t.ports ws targets.apart once_more order.once;
      others = others;
      places = places;
      taken = λ w i. all_same (λ l. how_often i l.taken) (delivers overflow h.slot) (λ l. ap (how_often i) (gives_taken overflow h.slot l)) t.ports ws w;
    }

-- ---- handles

-- what is so of each handle, and of the new one, is so of each after the change
pub each_changed : (P : HandleState → Type 0) (new : HandleState) (hs : List HandleState) → OfEachHandle P hs → P new → OfEachHandle P (changed_handles new hs)
each_changed P new [] a b = tt
each_changed P new (k ∷ ks) a b = step ((k.node == new.node) && (k.number == new.number)) (each_changed P new ks a.1 b)
  where
    step : (c : Bool) → OfEachHandle P (changed_handles new ks) → OfEachHandle P (if c then new ∷ ks else k ∷ changed_handles new ks)
    step true rest = (b, a.1)
    step false rest = (a.0, rest)

-- a change keeps numbers
pub changed_numbers : (new : HandleState) (hs : List HandleState) → map (λ k. k.number) (changed_handles new hs) ≡ map (λ k. k.number) hs
changed_numbers new [] = refl
changed_numbers new (k ∷ ks) = step (k.node == new.node) (k.number == new.number) refl (changed_numbers new ks)
  where
    step : (a b : Bool) → (k.number == new.number) ≡ b → map (λ (x : HandleState). x.number) (changed_handles new ks) ≡ map (λ (x : HandleState). x.number) ks
        → map (λ (x : HandleState). x.number) (if a && b then new ∷ ks else k ∷ changed_handles new ks) ≡ k.number ∷ map (λ (x : HandleState). x.number) ks
    step true true e rest = ap (λ m. m ∷ map (λ (x : HandleState). x.number) ks) (sym (eqb-true k.number new.number e))
    step true false e rest = ap (λ ms. k.number ∷ ms) rest
    step false b e rest = ap (λ ms. k.number ∷ ms) rest

request_kind : (kind : Kind) → is_request_loan kind ≡ true → (is_loan kind ≡ true) × (is_own kind ≡ true) × (is_received kind ≡ false) × (role_for kind ≡ Client)
request_kind kinds.RequestMutUninit e = (refl, refl, refl, refl)
request_kind kinds.RequestMut e = (refl, refl, refl, refl)
request_kind kinds.Client e = absurd (true≢false (sym e))
request_kind kinds.Server e = absurd (true≢false (sym e))
request_kind kinds.ResponseMutUninit e = absurd (true≢false (sym e))
request_kind kinds.ResponseMut e = absurd (true≢false (sym e))
request_kind kinds.PendingResponse e = absurd (true≢false (sym e))
request_kind kinds.ActiveRequest e = absurd (true≢false (sym e))
request_kind kinds.Response e = absurd (true≢false (sym e))

response_kind : (kind : Kind) → is_response_loan kind ≡ true → (is_loan kind ≡ true) × (is_own kind ≡ true) × (is_received kind ≡ false)
response_kind kinds.ResponseMutUninit e = (refl, refl, refl)
response_kind kinds.ResponseMut e = (refl, refl, refl)
response_kind kinds.Client e = absurd (true≢false (sym e))
response_kind kinds.Server e = absurd (true≢false (sym e))
response_kind kinds.RequestMutUninit e = absurd (true≢false (sym e))
response_kind kinds.RequestMut e = absurd (true≢false (sym e))
response_kind kinds.PendingResponse e = absurd (true≢false (sym e))
response_kind kinds.ActiveRequest e = absurd (true≢false (sym e))
response_kind kinds.Response e = absurd (true≢false (sym e))

plus_none : (n : ℕ) → n ≡ n + 0
plus_none n = omega arith

-- ---- the laws

pub request_deliveries_keep_order : RequestDeliveriesKeepOrder
request_deliveries_keep_order t node n h overflow ws count pools order named kind targets same counted =
    kept t order node n h named.there k.0 k.1 k.2 ports given (Some (pending_of h count)) after (changed_handles (pending_of h count) t.handles) gone pools same t.calls counted
    (numbers_stay t (record t { ports = ports; handles = changed_handles (pending_of h count) t.handles; pools = pools }) order given.alike same
    (ap₂ (λ (xs ys : List ℕ). xs ++ ys) (same_numbers t.ports ports given.alike) (changed_numbers (pending_of h count) t.handles)) refl)
  where
    k : (is_loan h.kind ≡ true) × (is_own h.kind ≡ true) × (is_received h.kind ≡ false) × (role_for h.kind ≡ Client)
    k = request_kind h.kind kind

    ports : List PortState
    ports = new_ports t order node n h named k.0 k.1 overflow ws targets

    given : Gives t h ports
    given = gives t order node n h named k.0 k.1 overflow ws targets

    of_port : IsOfPort t h
    of_port = handle_is (IsOfPort t) t.handles node n h order.ports named.there

    after : IsAfterLoan t h (Some (pending_of h count))
    after = record {
      port = record {
        port = of_port.port;
        there = of_port.there;
        on_node = of_port.on_node;
        role = of_port.role ∙ k.3;
        either = refl;
        of_pool = λ e. of_port.of_pool k.1;
        lane = λ e client. of_port.lane k.1 client;
        client = λ e. absurd (true≢false (sym e));
      };
      same = (refl, refl);
      not_loan = refl;
      not_received = refl;
    }

    its_name : handle_in t.handles h.node h.number ≡ Some h
    its_name =
        ap₂ (λ a b. handle_in t.handles a b) (handle_node t.handles node n h named.there) (handle_number t.handles node n h named.there) ∙ named.there

    gone : GivesWay t.handles (changed_handles (pending_of h count) t.handles) h (Some (pending_of h count))
    gone = record {
      counts = λ f. handle_changed f t.handles (pending_of h count) h its_name;
      each = λ P a b. each_changed P (pending_of h count) t.handles a b;
    }

pub response_deliveries_keep_order : ResponseDeliveriesKeepOrder
response_deliveries_keep_order t node n h overflow ws pools order named kind targets same counted =
    kept t order node n h named.there k.0 k.1 k.2 ports given None (record { port = tt; same = tt; not_loan = tt; not_received = tt }) (dropped_handles node n t.handles) gone pools same
    t.calls counted numbers
  where
    k : (is_loan h.kind ≡ true) × (is_own h.kind ≡ true) × (is_received h.kind ≡ false)
    k = response_kind h.kind kind

    ports : List PortState
    ports = new_ports t order node n h named k.0 k.1 overflow ws targets

    given : Gives t h ports
    given = gives t order node n h named k.0 k.1 overflow ws targets

    gone : GivesWay t.handles (dropped_handles node n t.handles) h None
    gone = record {
      counts = λ f. handle_dropped f t.handles node n h named.there (handles_apart (numbers_of t.ports) (map (λ x. x.number) t.handles) order.numbers.apart) ∙ plus_none (total f t.handles);
      each = λ P a b. each_left P node n t.handles a;
    }

    numbers : HaveNumbers (record t { ports = ports; handles = dropped_handles node n t.handles; pools = pools })
    numbers = record {
      apart =
          subst (λ xs. AreDistinct (xs ++ map (λ x. x.number) (dropped_handles node n t.handles))) (sym (same_numbers t.ports ports given.alike))
          (no_repeats-distinct (numbers_of t.ports ++ map (λ x. x.number) (dropped_handles node n t.handles))
          (once_left (λ x. not ((x.node == node) && (x.number == n))) (numbers_of t.ports) t.handles (distinct-no_repeats (numbers_in t) order.numbers.apart)));
      below = λ m has.
          order.numbers.below m
          (among-number m (numbers_in t)
          (among_left (λ x. not ((x.node == node) && (x.number == n))) m (numbers_of t.ports) t.handles
          (number-among m (numbers_of t.ports ++ map (λ x. x.number) (dropped_handles node n t.handles))
          (subst (λ xs. has_number m (xs ++ map (λ x. x.number) (dropped_handles node n t.handles)) ≡ true) (same_numbers t.ports ports given.alike) has))));
      owners = λ place q at.
          let p = pool_before t.pools pools same place q at in subst (λ c. c < t.next_number) (ap (λ (x : PoolState). x.port) p.2) (order.numbers.owners place p.0 p.1);
      kept = low_kept t.ports ports given.alike t.next_number order.numbers.kept;
    }
