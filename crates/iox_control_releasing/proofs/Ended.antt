-- The end of a handle: all that is so of a hub stays so.
use Rattle.std.specs.Prelude.{◌≡◌, ℕ, zero, suc, ◌+◌, ◌-◌, ◌≤◌, Bool, true, false, ◌&&◌, if◌then◌else◌, ◌==◌, List, [], ◌∷◌, length, map, Option, Some, None, refl}
use Rattle.std.specs.Option.{option_map_or}
use Rattle.std.proofs.Common.{sym, ap, ap₂, subst, ◌∙◌, arith, true≢false, eqb-true}
use Rattle.iox_model.specs.declared.kind.Kind.{Kind}
use Rattle.iox_model.specs.declared.kind.Kind.TheVariants as kinds
use Rattle.iox_model.specs.declared.way.Way.{Way}
use Rattle.iox_model.specs.Handles.{is_own, is_received}
use Rattle.iox_model.specs.Maps.{AreDistinct, has_number}
use Rattle.iox_model.specs.Messages.{closed_for}
use Rattle.iox_lanes.specs.Lanes.{LaneState, is_taken, rank_in, released, with_returned, without_taken}
use Rattle.iox_tables.specs.HubStates.Tables.{HandleState, HubTables, PoolState, PortState, numbers_of, slot_at}
use Rattle.iox_tables.specs.HubStates.Ways.{lane_on, with_lane_on, with_states_on}
use Rattle.iox_tables.specs.HubStates.Ends.{dropped_handles, with_dropped}
use Rattle.iox_tables.specs.HubStates.Releases.{pending_states, request_of, way_to_client}
use Rattle.iox_tables.specs.HubStates.Wirings.{IsHandle}
use Rattle.iox_slots.specs.Pools.{with_slot}
use Rattle.iox_slots.specs.Slots.{let_go}
use Rattle.iox_slots.proofs.CallerLemmas.{holders_let_go, one_at}
use Rattle.iox_tables.specs.HubBooks.Counts.{OfAll, OfAllLanes, is_at, on_lanes, total}
use Rattle.iox_tables.specs.HubBooks.Handles.{way_in}
use Rattle.iox_tables.specs.HubBooks.Hubs.{AreInOrder, IsUsed}
use Rattle.iox_tables.specs.HubBooks.Keeps.{HasOneHolderLess}
use Rattle.iox_tables.specs.HubBooks.Rooms.{CanCountHolders, HasRoomForAll, own_count, spare}
use Rattle.iox_tables.proofs.HubBooks.Eachs.{lane_keeps}
use Rattle.iox_tables.proofs.HubBooks.Frames.{bare_lane, bare_port, bare_ports, lane_on_bare, states_on_bare}
use Rattle.iox_tables.proofs.HubBooks.HandleTotals.{handle_dropped}
use Rattle.iox_tables.proofs.HubBooks.LaneCounts.{fewer_taken}
use Rattle.iox_tables.proofs.HubBooks.LaneLists.{lanes_same}
use Rattle.iox_tables.proofs.HubBooks.LaneTotals.{lane_total}
use Rattle.iox_tables.proofs.HubBooks.Released.{loan_releases_keep_order, pending_releases_keep_order, request_releases_keep_order, response_releases_keep_order, states_keep, states_total}
use Rattle.iox_tables.proofs.HubBooks.Release.{handles_apart}
use Rattle.iox_tables.proofs.HubBooks.Used.{handle_is}
use Rattle.iox_tables.proofs.HubKeeping.Ordered.{each_used, names_apart}
use Rattle.iox_control.specs.Controls.{AreCounted, ControlState, IsControl}
use Rattle.iox_control.proofs.RoomLemmas.{lane_seats, room_as, seats_of, states_seats}
use Rattle.iox_control_releasing.specs.Endings.{given_up_as, with_ended}
use Rattle.iox_slots.proofs.BareLemmas.{let_go_bare}
use Rattle.std.proofs.lemmas.Bool.{or_parts}
use Rattle.iox_tables.proofs.HubBooks.Left.{total_ones}
use Rattle.iox_tables.proofs.HubBooks.Alike.{loans_stay, sums_stay}
use Rattle.iox_tables.proofs.HubStates.Keys.{flip}
use Rattle.std.specs.List.{swap_remove}

-- ---- what is given up

-- What a change of ports leaves, where so many messages more may be received.
record GivesUp (t : HubTables) (ports : List PortState) (more : ℕ) : Type 0 where
  seats : seats_of ports ≡ seats_of t.ports
  loans : OfAll (λ p. p.loans ≤ t.calls) t.ports → OfAll (λ p. p.loans ≤ t.calls) ports
  deliveries : OfAllLanes (λ l. l.deliveries ≤ t.calls) t.ports → OfAllLanes (λ l. l.deliveries ≤ t.calls) ports
  sums : (f : PortState → ℕ) → ((p : PortState) → f (bare_port p) ≡ f p) → total f ports ≡ total f t.ports
  ones : on_lanes (λ l. 1) ports ≡ on_lanes (λ l. 1) t.ports
  spares : on_lanes spare ports ≤ on_lanes spare t.ports + more

nothing_up : (t : HubTables) → GivesUp t t.ports 0
nothing_up t = record {
  seats = refl;
  loans = λ a. a;
  deliveries = λ a. a;
  sums = λ f same. refl;
  ones = refl;
  spares = no_more (on_lanes spare t.ports);
}
  where
    no_more : (n : ℕ) → n ≤ n + 0
    no_more n = omega arith

states_up : (t : HubTables) (ports : List PortState) (id more : ℕ) (ws : List Way) → GivesUp t ports more → GivesUp t (with_states_on (λ r. closed_for r id) ports ws) more
states_up t ports id more ws up = record {
  seats = states_seats (λ r. closed_for r id) ports ws ∙ up.seats;
  loans = λ a. loans_stay t.calls ports (with_states_on (λ r. closed_for r id) ports ws) (states_on_bare (λ r. closed_for r id) ports ws) (up.loans a);
  deliveries = λ a. states_keep (λ r. closed_for r id) (λ l. l.deliveries ≤ t.calls) ports ws (up.deliveries a);
  sums = λ f same. sums_stay f same ports (with_states_on (λ r. closed_for r id) ports ws) (states_on_bare (λ r. closed_for r id) ports ws) ∙ up.sums f same;
  ones = states_total (λ r. closed_for r id) (λ l. 1) ports ws ∙ up.ones;
  spares = subst (λ k. k ≤ on_lanes spare t.ports + more) (sym (states_total (λ r. closed_for r id) spare ports ws)) up.spares;
}

-- ---- one message is given back

spare_back : (k : ℕ) (l : LaneState) → spare (released l k) ≤ spare l + 1
spare_back k l = step (is_taken l k) refl
  where
    sums : (limit a b c d : ℕ) → a + 1 ≡ b → c ≡ a → d ≡ b → limit - c ≤ (limit - d) + 1
    sums limit a b c d e f g = omega (arith, e, f, g)

    same_limit : (without_taken l k).limit ≡ l.limit
    same_limit = over (rank_in l.taken k)
      where
        over : (o : Option ℕ) → (option_map_or (λ i. record l { taken = swap_remove l.taken i k }) o l).limit ≡ l.limit
        over (Some i) = refl
        over None = refl

    step : (b : Bool) → is_taken l k ≡ b
        → spare (if b then with_returned (without_taken l k) k else l) ≤ spare l + 1
    step true e =
        subst (λ m. m - length (without_taken l k).taken ≤ spare l + 1) (sym same_limit)
        (sums l.limit _ _ _ _ (fewer_taken (λ n. 1) l k e) (sym (total_ones (without_taken l k).taken)) (sym (total_ones l.taken)))
    step false e = omega arith

deliveries_back : (k : ℕ) (l : LaneState) → (released l k).deliveries ≡ l.deliveries
deliveries_back k l = step (is_taken l k)
  where
    inner : (o : Option ℕ) → (option_map_or (λ i. record l { taken = swap_remove l.taken i k }) o l).deliveries ≡ l.deliveries
    inner (Some i) = refl
    inner None = refl

    step : (b : Bool) → (if b then with_returned (without_taken l k) k else l).deliveries ≡ l.deliveries
    step true = inner (rank_in l.taken k)
    step false = refl

pub bare_back : (k : ℕ) (l : LaneState) → bare_lane (released l k) ≡ bare_lane l
bare_back k l = step (is_taken l k)
  where
    inner : (o : Option ℕ)
        → bare_lane (with_returned (option_map_or (λ i. record l { taken = swap_remove l.taken i k }) o l) k)
        ≡ bare_lane l
    inner (Some i) = refl
    inner None = refl

    step : (b : Bool) → bare_lane (if b then with_returned (without_taken l k) k else l) ≡ bare_lane l
    step true = inner (rank_in l.taken k)
    step false = refl

back_up : (t : HubTables) (k : ℕ) (w : Way) → GivesUp t (with_lane_on (λ l. released l k) t.ports w) 1
back_up t k w = record {
  seats = lane_seats (λ l. released l k) t.ports w;
  loans = loans_stay t.calls t.ports (with_lane_on (λ l. released l k) t.ports w) bare;
  deliveries = lane_keeps (λ l. l.deliveries ≤ t.calls) (λ l. released l k) t.ports w (λ l a. subst (λ n. n ≤ t.calls) (sym (deliveries_back k l)) a);
  sums = λ f same. sums_stay f same t.ports (with_lane_on (λ l. released l k) t.ports w) bare;
  ones = lanes_same (λ l. 1) (λ l. released l k) (λ l. refl) t.ports (w ∷ []);
  spares = step (lane_on t.ports w) (lane_total spare (λ l. released l k) t.ports w);
}
  where
    bare : bare_ports (with_lane_on (λ l. released l k) t.ports w) ≡ bare_ports t.ports
    bare = lane_on_bare (λ l. released l k) (bare_back k) t.ports w

    step : (o : Option LaneState)
        → on_lanes spare (with_lane_on (λ l. released l k) t.ports w) + option_map_or spare o 0 ≡ on_lanes spare t.ports + option_map_or (λ l. spare (released l k)) o 0
        → on_lanes spare (with_lane_on (λ l. released l k) t.ports w) ≤ on_lanes spare t.ports + 1
    step (Some l) e = let one = spare_back k l in omega (arith, e, one)
    step None e = omega (arith, e)

-- how many more may be received
abbrev more_received : Kind → ℕ
more_received k = if is_received k then 1 else 0

gives_up : (t : HubTables) (h : HandleState) (k : Kind) → GivesUp t (given_up_as k t h).ports (more_received k)
gives_up t h kinds.PendingResponse = states_up t t.ports (request_of t h) 0 (pending_states t h) (nothing_up t)
gives_up t h kinds.ActiveRequest = states_up t (with_lane_on (λ l. released l h.slot) t.ports (way_in t.pools h)) (request_of t h) 1 (way_to_client t h ∷ []) (back_up t h.slot (way_in t.pools h))
gives_up t h kinds.Response = back_up t h.slot (way_in t.pools h)
gives_up t h kinds.Client = nothing_up t
gives_up t h kinds.Server = nothing_up t
gives_up t h kinds.RequestMutUninit = nothing_up t
gives_up t h kinds.RequestMut = nothing_up t
gives_up t h kinds.ResponseMutUninit = nothing_up t
gives_up t h kinds.ResponseMut = nothing_up t

-- the rest of the tables stays
rest_stays : (t : HubTables) (h : HandleState) (k : Kind) → given_up_as k t h ≡ record t { ports = (given_up_as k t h).ports }
rest_stays t h kinds.PendingResponse = refl
rest_stays t h kinds.ActiveRequest = refl
rest_stays t h kinds.Response = refl
rest_stays t h kinds.Client = refl
rest_stays t h kinds.Server = refl
rest_stays t h kinds.RequestMutUninit = refl
rest_stays t h kinds.RequestMut = refl
rest_stays t h kinds.ResponseMutUninit = refl
rest_stays t h kinds.ResponseMut = refl

-- ---- one handle less

-- each port may have one handle of its own more, if it was its own
one_port : (c : Bool) (n : ℕ) (ports : List PortState) → AreDistinct (numbers_of ports) → total (λ p. if c && (n == p.number) then 1 else 0) ports ≤ (if c then 1 else 0)
one_port false n ports apart = none ports
  where
    none : (ps : List PortState) → total (λ p. if false && (n == p.number) then 1 else 0) ps ≤ 0
    none [] = omega arith
    none (p ∷ ps) = let more = none ps in omega (arith, more)
one_port true n [] apart = omega arith
one_port true n (p ∷ ps) apart = step (n == p.number) refl (one_port true n ps apart.1)
  where
    nobody : (ks : List PortState) → has_number n (numbers_of ks) ≡ false → total (λ q. if true && (n == q.number) then 1 else 0) ks ≡ 0
    nobody [] e = refl
    nobody (q ∷ qs) e =
        let parts = or_parts (q.number == n) (has_number n (numbers_of qs)) e in
        ap₂ (λ (b : Bool) (k : ℕ). (if b then 1 else 0) + k) (flip n q.number ∙ parts.0) (nobody qs parts.1)

    step : (b : Bool) → (n == p.number) ≡ b → total (λ q. if true && (n == q.number) then 1 else 0) ps ≤ 1
        → (if b then 1 else 0) + total (λ q. if true && (n == q.number) then 1 else 0) ps ≤ 1
    step true e more =
        let zero = nobody ps (subst (λ k. has_number k (numbers_of ps) ≡ false) (sym (eqb-true n p.number e)) apart.0) in omega (arith, zero)
    step false e more = omega (arith, more)

own_more : (a b d : PortState → ℕ) → ((p : PortState) → a p ≤ b p + d p) → (ports : List PortState) → total a ports ≤ total b ports + total d ports
own_more a b d each [] = omega arith
own_more a b d each (p ∷ ps) = let one = each p in let rest = own_more a b d each ps in omega (arith, one, rest)

one_of_both : (k : Kind) → (if is_own k then 1 else 0) + more_received k ≤ 1
one_of_both kinds.PendingResponse = omega arith
one_of_both kinds.ActiveRequest = omega arith
one_of_both kinds.Response = omega arith
one_of_both kinds.Client = omega arith
one_of_both kinds.Server = omega arith
one_of_both kinds.RequestMutUninit = omega arith
one_of_both kinds.RequestMut = omega arith
one_of_both kinds.ResponseMutUninit = omega arith
one_of_both kinds.ResponseMut = omega arith

-- ---- the tables stay in order

in_order : (t : HubTables) (h : HandleState) (pools : List (Option PoolState)) → AreInOrder t → IsHandle t h.node h.number h → HasOneHolderLess t.pools pools h
    → (k : Kind) → h.kind ≡ k → AreInOrder (record (with_dropped (given_up_as k t h) h.node h.number) { pools = pools })
in_order t h pools order named fewer kinds.PendingResponse e = pending_releases_keep_order t h.node h.number h pools order named e fewer
in_order t h pools order named fewer kinds.ActiveRequest e = request_releases_keep_order t h.node h.number h (way_to_client t h) pools order named (ap is_received e) fewer
in_order t h pools order named fewer kinds.Response e = response_releases_keep_order t h.node h.number h pools order named (ap is_received e) fewer
in_order t h pools order named fewer kinds.Client e = loan_releases_keep_order t h.node h.number h pools order named (ap is_received e) fewer
in_order t h pools order named fewer kinds.Server e = loan_releases_keep_order t h.node h.number h pools order named (ap is_received e) fewer
in_order t h pools order named fewer kinds.RequestMutUninit e = loan_releases_keep_order t h.node h.number h pools order named (ap is_received e) fewer
in_order t h pools order named fewer kinds.RequestMut e = loan_releases_keep_order t h.node h.number h pools order named (ap is_received e) fewer
in_order t h pools order named fewer kinds.ResponseMutUninit e = loan_releases_keep_order t h.node h.number h pools order named (ap is_received e) fewer
in_order t h pools order named fewer kinds.ResponseMut e = loan_releases_keep_order t h.node h.number h pools order named (ap is_received e) fewer

module _ (c new : ControlState) (h : HandleState) (order : IsControl c) (named : IsHandle c.tables h.node h.number h) (room : new.room ≡ c.room + 1)
    (is : new.tables ≡ record (with_ended c.tables h) { pools = with_slot let_go c.tables.pools h.pool h.slot })
  where
    abbrev t : HubTables
    t = c.tables

    abbrev pools : List (Option PoolState)
    pools = with_slot let_go t.pools h.pool h.slot

    abbrev up : HubTables
    up = given_up_as h.kind t h

    abbrev left : List HandleState
    left = dropped_handles h.node h.number t.handles

    abbrev own : List HandleState → PortState → ℕ
    own hs p = p.size - own_count hs p

    fewer : HasOneHolderLess t.pools pools h
    fewer = record {
      same = let_go_bare t.pools h.pool h.slot;
      holders = λ pool k. step pool k (is_at pool k h) refl;
    }
      where
        used : IsUsed t h.pool h.slot
        used = handle_is (λ g. IsUsed t g.pool g.slot) t.handles h.node h.number h (each_used t order.order) named.there

        step : (pool k : ℕ) (b : Bool) → is_at pool k h ≡ b
            → (slot_at pools pool k).holders + (if b then 1 else 0) ≡ (slot_at t.pools pool k).holders
        step pool k true e =
            let one : one_at h.pool h.slot pool k ≡ 1 = ap (λ (b : Bool). if b then suc zero else zero) e in
            let less = holders_let_go t.pools h.pool h.slot pool k in
            let some : 1 ≤ (slot_at t.pools pool k).holders
            = subst (λ n. 1 ≤ (slot_at t.pools pool n).holders) (eqb-true h.slot k (second (h.pool == pool) (h.slot == k) e))
            (subst (λ n. 1 ≤ (slot_at t.pools n h.slot).holders) (eqb-true h.pool pool (first (h.pool == pool) (h.slot == k) e)) used) in
            omega (arith, one, less, some)
          where
            first : (a b : Bool) → (a && b) ≡ true → a ≡ true
            first true b e = refl
            first false b e = e

            second : (a b : Bool) → (a && b) ≡ true → b ≡ true
            second true b e = e
            second false b e = absurd (true≢false (sym e))
        step pool k false e =
            let none : one_at h.pool h.slot pool k ≡ 0 = ap (λ (b : Bool). if b then suc zero else zero) e in
            let less = holders_let_go t.pools h.pool h.slot pool k in omega (arith, none, less)

    -- how sums over handles change
    one_less : (f : HandleState → ℕ) → total f left + f h ≡ total f t.handles
    one_less f = handle_dropped f t.handles h.node h.number h named.there (handles_apart (numbers_of t.ports) (map (λ g. g.number) t.handles) order.order.numbers.apart)

    given : GivesUp t up.ports (more_received h.kind)
    given = gives_up t h h.kind

    abbrev u : HubTables
    u = record t { ports = up.ports; handles = left; pools = pools }

    is_u : new.tables ≡ u
    is_u = is ∙ ap (λ (s : HubTables). record s { handles = dropped_handles h.node h.number s.handles; pools = pools }) (rest_stays t h h.kind)

    all : HasRoomForAll (c.room + 1) u
    all =
        let each : total (own left) up.ports ≡ total (own left) t.ports = given.sums (own left) (λ p. refl) in
        let more : total (own left) t.ports ≤ total (own t.handles) t.ports + total (λ p. if is_own h.kind && (h.port == p.number) then 1 else 0) t.ports
        = own_more (own left) (own t.handles) (λ p. if is_own h.kind && (h.port == p.number) then 1 else 0)
        (λ p. sums p.size _ _ _ (one_less (λ g. if is_own g.kind && (g.port == p.number) then 1 else 0))) t.ports in
        let few = one_port (is_own h.kind) h.port t.ports (names_apart t order.order) in
        let both = one_of_both h.kind in
        let spares = given.spares in
        let was : HasRoomForAll c.room t = order.room in
        omega (arith, each, more, few, both, spares, was)
      where
        sums : (s a d b : ℕ) → a + d ≡ b → s - a ≤ (s - b) + d
        sums s a d b e = omega (arith, e)

    held : CanCountHolders (c.room + 1) u
    held =
        let ones = given.ones in
        let less = one_less (λ g. 1) in
        let a = total_ones left in
        let b = total_ones t.handles in
        let was : CanCountHolders c.room t = order.holders in
        omega (arith, ones, less, a, b, was)

    pub ended : IsControl new
    ended = record {
      buffers = subst (λ (s : HubTables). Rattle.iox_control.specs.Controls.HaveBuffers s.settings) (sym is_u) order.buffers;
      order = subst AreInOrder (sym is) (in_order t h pools order.order named fewer h.kind refl);
      ports = subst Rattle.iox_tables.specs.HubMaking.OneByOne.HaveRoom (sym is_u) (room_as t u refl given.seats order.ports);
      counted = subst AreCounted (sym is_u) (record {
        calls = order.counted.calls;
        ports = order.counted.ports;
        numbers = order.counted.numbers;
        loans = given.loans order.counted.loans;
        deliveries = given.deliveries order.counted.deliveries;
      });
      room = subst (λ k. HasRoomForAll k new.tables) (sym room) (subst (HasRoomForAll (c.room + 1)) (sym is_u) all);
      holders = subst (λ k. CanCountHolders k new.tables) (sym room) (subst (CanCountHolders (c.room + 1)) (sym is_u) held);
    }
