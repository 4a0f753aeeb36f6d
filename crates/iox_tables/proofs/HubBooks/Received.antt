-- The receives of servers and of pending responses keep the tables of a hub in order.
use Rattle.std.specs.Prelude.{◌≡◌, ◌⊎◌, ℕ, zero, ◌+◌, Bool, true, false, ◌&&◌, ◌||◌, if◌then◌else◌, ◌==◌, List, [], ◌∷◌, ◌++◌, map, Option, Some, None, slice_get, refl}
use Rattle.std.specs.Option.{option_map_or}
use Rattle.std.proofs.Common.{sym, append_assoc, ap, ap₂, subst, ◌∙◌, arith, inl, inr, true≢false, eqb-true}
use Rattle.iox_model.specs.declared.kind.Kind.{Kind}
use Rattle.iox_model.specs.declared.kind.Kind.TheVariants.{ActiveRequest, Response}
use Rattle.iox_model.specs.declared.kind.Role.{Role}
use Rattle.iox_model.specs.declared.kind.Role.TheVariants.{Client, Server}
use Rattle.iox_model.specs.declared.way.Way.{Way}
use Rattle.iox_model.specs.Handles.{is_own, is_received, same_kind}
use Rattle.iox_model.specs.Maps.{AreDistinct, has_number, same_way}
use Rattle.iox_model.specs.Messages.{request_way, response_way}
use Rattle.iox_model.specs.Settings.{is_client, other_role}
use Rattle.iox_laws.proofs.WeaveLaws.MapLemmas.{eqb-refl, same_way-true}
use Rattle.iox_laws.proofs.WeaveLedger.Lists.{number-among}
use Rattle.iox_lanes.specs.declared.wanted.Wanted.{Wanted}
use Rattle.iox_lanes.specs.declared.wanted.Wanted.TheVariants.{Of}
use Rattle.iox_lanes.specs.declared.incoming.Visits.{Visits}
use Rattle.iox_lanes.specs.declared.incoming.Visits.TheVariants.{Got, AtLimit, Nothing}
use Rattle.iox_lanes.specs.Lanes.{LaneState}
use Rattle.iox_lanes.specs.Pipes.{PipeState}
use Rattle.iox_lanes.specs.Visited.{all_visits}
use Rattle.iox_tables.specs.HubStates.Tables.{HandleState, HubTables, PoolState, PortState, labels_of, numbers_of, owner_of, pipes_of, port_in, senders_of, slot_at}
use Rattle.iox_tables.specs.HubStates.Ways.{lane_on, lanes_from, with_port}
use Rattle.iox_tables.specs.HubStates.Receives.{got_handle, visited_port, visits_at, wanted_by_server, with_got, with_visited}
use Rattle.iox_tables.specs.HubStates.Steps.{places_on}
use Rattle.iox_tables.proofs.HubStates.Fixing.{first_key}
use Rattle.iox_tables.proofs.HubStates.Keys.{flip}
use Rattle.iox_tables.proofs.HubStates.Naming.{handle_node}
use Rattle.iox_tables.specs.HubBooks.Counts.{total}
use Rattle.iox_tables.specs.HubBooks.Handles.{IsOfPort, is_from, is_loan, role_for, way_in}
use Rattle.iox_tables.specs.HubBooks.Hubs.{AreInOrder}
use Rattle.iox_tables.specs.HubBooks.Keeps.{HasMoreHolders, RequestsKeepOrder, ResponsesKeepOrder, got_once}
use Rattle.iox_tables.proofs.HubBooks.Frames.{map_append, visits_bare}
use Rattle.iox_tables.proofs.HubBooks.Going.{each_last, numbers_stay, one_number_more}
use Rattle.iox_tables.proofs.HubBooks.Receive.{GetsIt, HasOneMore, kept}
use Rattle.iox_tables.proofs.HubBooks.Sendable.{of_role}
use Rattle.iox_tables.proofs.HubBooks.Structures.{same_numbers}
use Rattle.iox_tables.proofs.HubBooks.Totals.{total-last}
use Rattle.iox_tables.proofs.HubBooks.Used.{handle_is}
use Rattle.iox_tables.proofs.HubBooks.Visited.{GotFrom, got_by, got_is, ports_taken, taken_by}

-- ---- lists

plus_none : (n : ℕ) → n ≡ n + 0
plus_none n = omega arith

pub has_back : (k : ℕ) (xs ys : List ℕ) → has_number k ys ≡ true → has_number k (xs ++ ys) ≡ true
has_back k [] ys e = e
has_back k (x ∷ xs) ys e = step (x == k) (has_back k xs ys e)
  where
    step : (b : Bool) → has_number k (xs ++ ys) ≡ true → (b || has_number k (xs ++ ys)) ≡ true
    step true h = refl
    step false h = h

has_front : (k : ℕ) (xs ys : List ℕ) → has_number k xs ≡ true → has_number k (xs ++ ys) ≡ true
has_front k [] ys e = absurd (true≢false (sym e))
has_front k (x ∷ xs) ys e = step (x == k) e (has_front k xs ys)
  where
    step : (b : Bool) → (b || has_number k xs) ≡ true → (has_number k xs ≡ true → has_number k (xs ++ ys) ≡ true) → (b || has_number k (xs ++ ys)) ≡ true
    step true h rest = refl
    step false h rest = rest h

-- ---- the kind of what is got

abbrev got_kind : Role → Kind
got_kind role = if is_client role then Response else ActiveRequest

got_received : (r : Role) → is_received (got_kind r) ≡ true
got_received Client = refl
got_received Server = refl

got_not_own : (r : Role) → is_own (got_kind r) ≡ false
got_not_own Client = refl
got_not_own Server = refl

got_either : (r : Role) → (is_own (got_kind r) || is_received (got_kind r)) ≡ true
got_either Client = refl
got_either Server = refl

got_no_loan : (r : Role) → is_loan (got_kind r) ≡ false
got_no_loan Client = refl
got_no_loan Server = refl

got_role : (r : Role) → r ≡ role_for (got_kind r)
got_role Client = refl
got_role Server = refl

got_client : (r : Role) (port owner : ℕ) → same_kind (got_kind r) ActiveRequest ≡ true → (if is_client r then port else owner) ≡ owner
got_client Client port owner e = absurd (true≢false (sym e))
got_client Server port owner e = refl

module _ (t : HubTables) (order : AreInOrder t) (node n lane : ℕ) (p : PortState) (there : port_in t.ports n ≡ Some p) (on_node : node ≡ p.node) (role : Role)
    (role_is : p.role ≡ role) (lane_is : role ≡ Server → lane ≡ 0) (wanted : Wanted)
  where
    apart : AreDistinct (senders_of (pipes_of p))
    apart = (order.wired.each n p there).apart

    abbrev Came : Visits → Type 0
    Came v = GotFrom wanted (labels_of t.pools) lane (pipes_of p) v

    abbrev the_way : ℕ → Way
    the_way s = record { sender = s; receiver = n; lane = lane }

    on_way : (s pool k : ℕ) (c : Came (Got s pool k)) → lane_on t.ports (the_way s) ≡ Some c.0
    on_way s pool k c = ap (λ o. slice_get (lanes_from (option_map_or pipes_of o []) s) lane) there ∙ c.1

    in_place : (s pool k : ℕ) (c : Came (Got s pool k)) → has_number k (places_on c.0) ≡ true
    in_place s pool k c = has_back k c.0.returned (c.0.waiting ++ c.0.taken) (has_front k c.0.waiting c.0.taken c.3)

    -- the pool of what is got is its sender's
    owner_is : (s pool k : ℕ) → Came (Got s pool k) → owner_of t.pools pool ≡ s
    owner_is s pool k c = ap (owner_of t.pools) (sym c.2) ∙ order.owners (the_way s) c.0 k (on_way s pool k c) (in_place s pool k c)

    abbrev new_handle : ℕ → ℕ → HandleState
    new_handle pool k = got_handle t node role n pool k

    way_is : (s pool k : ℕ) → Came (Got s pool k) → way_in t.pools (new_handle pool k) ≡ the_way s
    way_is s pool k c = step role refl
      where
        step : (r : Role) → role ≡ r
            → (if same_kind (got_kind r) ActiveRequest then request_way (if is_client r then n else owner_of t.pools pool) n
            else response_way n (slot_at t.pools pool k).lane (owner_of t.pools pool))
            ≡ the_way s
        step Client e =
            ap₂ (λ (l o : ℕ). response_way n l o)
            (subst (λ c. (slot_at t.pools c k).lane ≡ lane) c.2
            (order.labels (the_way s) c.0 k (on_way s pool k c) (ap (λ o. option_map_or (λ (x : PortState). x.role) o Client) there ∙ role_is ∙ e) (in_place s pool k c)))
            (owner_is s pool k c)
        step Server e = ap₂ (λ (o l : ℕ). record { sender = o; receiver = n; lane = l }) (owner_is s pool k c) (sym (lane_is e))

    abbrev handle_got : Visits → Option HandleState
    handle_got (Got s pool k) = Some (new_handle pool k)
    handle_got AtLimit = None
    handle_got Nothing = None

    abbrev Takes : Visits → Type 0
    Takes v =
        (f : ℕ → ℕ) (w : Way)
        → taken_by f (lane_on (with_port (visited_port wanted (labels_of t.pools) lane) t.ports n) w)
        ≡ taken_by f (lane_on t.ports w) + (if w.receiver == n then got_by f wanted (labels_of t.pools) lane w.sender w.lane v else 0)

    nothing_if : (b : Bool) → (if b then zero else zero) ≡ zero
    nothing_if true = refl
    nothing_if false = refl

    gets : (v : Visits) → Takes v → Came v → GetsIt t n lane wanted v (handle_got v)
    gets AtLimit takes c = record {
      taken = takes;
      at = λ pool k. refl;
      from = λ w l k at. nothing_if (w.receiver == n);
      waited = λ pool k. inl refl;
      port = tt;
      not_own = tt;
      not_loan = tt;
      received = tt;
    }
    gets Nothing takes c = record {
      taken = takes;
      at = λ pool k. refl;
      from = λ w l k at. nothing_if (w.receiver == n);
      waited = λ pool k. inl refl;
      port = tt;
      not_own = tt;
      not_loan = tt;
      received = tt;
    }
    gets (Got s pool j) takes c = record {
      taken = takes;
      at = λ place k. refl;
      from = from;
      waited = λ place k. waited place k (pool == place) (j == k) refl refl;
      port = record {
        port = p;
        there = there;
        on_node = on_node;
        role = role_is ∙ got_role role;
        either = got_either role;
        of_pool = λ own. absurd (true≢false (sym own ∙ got_not_own role));
        lane = λ own client. absurd (true≢false (sym own ∙ got_not_own role));
        client = λ e. got_client role n (owner_of t.pools pool) e;
      };
      not_own = got_not_own role;
      not_loan = got_no_loan role;
      received = λ e. inl (c.0, ap (lane_on t.ports) (way_is s pool j c) ∙ on_way s pool j c, c.2);
    }
      where
        waited : (place k : ℕ) (a b : Bool) → (pool == place) ≡ a → (j == k) ≡ b
            → ((if a && b then 1 else 0) ≡ zero) ⊎ ((w : Way) × (l : LaneState) × (lane_on t.ports w ≡ Some l) × (l.pool ≡ place) × (has_number k (places_on l) ≡ true))
        waited place k true true e f =
            inr
            (the_way s, c.0, on_way s pool j c, c.2 ∙ eqb-true pool place e, subst (λ i. has_number i (places_on c.0) ≡ true) (eqb-true j k f) (in_place s pool j c))
        waited place k true false e f = inl refl
        waited place k false b e f = inl refl

        -- where the ways are the same, so is the pool
        pool_is : (w : Way) (l : LaneState) → lane_on t.ports w ≡ Some l → same_way (the_way s) w ≡ true → (pool == l.pool) ≡ true
        pool_is w l at e =
            let same : the_way s ≡ w = same_way-true (the_way s) w e in
            let lanes : Some c.0 ≡ Some l = sym (on_way s pool j c) ∙ ap (lane_on t.ports) same ∙ at in
            ap (λ (o : Option LaneState). pool == option_map_or (λ x. x.pool) o 0) (sym lanes) ∙ ap (λ i. pool == i) c.2 ∙ eqb-refl pool

        cases : (x y z q k : Bool) → ((x && (y && z)) ≡ true → q ≡ true)
            → (if y then (if x && z then (if k then 1 else 0) else 0) else 0) ≡ (if true && ((x && (y && z)) && (q && k)) then 1 else zero)
        cases true true true q k same = ap (λ (b : Bool). if b && k then 1 else zero) (sym (same refl))
        cases true true false q k same = refl
        cases true false z q k same = refl
        cases false true z q k same = refl
        cases false false z q k same = refl

        from : (w : Way) (l : LaneState) (k : ℕ) → lane_on t.ports w ≡ Some l
            → (if w.receiver == n then (if (s == w.sender) && (w.lane == lane) then (if j == k then 1 else 0) else 0) else 0)
            ≡ (if is_from t.pools w l.pool k (new_handle pool j) then 1 else zero)
        from w l k at =
            ap₂ (λ (b d : Bool). if b then (if (s == w.sender) && d then (if j == k then 1 else 0) else 0) else 0) (flip w.receiver n) (flip w.lane lane)
            ∙ cases (s == w.sender) (n == w.receiver) (lane == w.lane) (pool == l.pool) (j == k) (λ e. pool_is w l at e)
            ∙ ap₂ (λ (b : Bool) (x : Way). if b && (same_way x w && ((pool == l.pool) && (j == k))) then 1 else zero) (sym (got_received role)) (sym (way_is s pool j c))

    -- ---- numbers

    one_more : (h : HandleState) → HasOneMore t.handles (t.handles ++ h ∷ []) (Some h)
    one_more h = record { counts = λ f. total-last f t.handles h; each = λ P a b. each_last P t.handles h a b }

    none_more : HasOneMore t.handles t.handles None
    none_more = record { counts = λ f. plus_none (total f t.handles); each = λ P a b. a }

    keeps : (v : Visits) → Takes v → Came v → (pools : List (Option PoolState)) → HasMoreHolders t.pools pools (got_once v)
        → AreInOrder (record (with_got (with_visited t n lane wanted) node role n v) { pools = pools })
    keeps (Got s pool k) takes c pools more =
        kept t order n lane wanted (Got s pool k) (Some (new_handle pool k)) (gets (Got s pool k) takes c) (t.handles ++ new_handle pool k ∷ []) (one_more (new_handle pool k)) pools more (t.calls + 1) (t.next_number + 1)
        (one_number_more t (record t {
          calls = t.calls + 1;
          next_number = t.next_number + 1;
          ports = with_port (visited_port wanted (labels_of t.pools) lane) t.ports n;
          handles = t.handles ++ new_handle pool k ∷ [];
          pools = pools;
        }) order (visits_bare wanted (labels_of t.pools) lane t.ports n) more.same
        (ap₂ (λ (xs ys : List ℕ). xs ++ ys) (same_numbers t.ports (with_port (visited_port wanted (labels_of t.pools) lane) t.ports n) (visits_bare wanted (labels_of t.pools) lane t.ports n)) (map_append (λ (h : HandleState). h.number) t.handles (new_handle pool k ∷ []))
        ∙ sym (append_assoc (numbers_of t.ports) (map (λ h. h.number) t.handles) (t.next_number ∷ [])))
        refl)
    keeps AtLimit takes c pools more =
        kept t order n lane wanted AtLimit None (gets AtLimit takes c) t.handles none_more pools more t.calls t.next_number
        (numbers_stay t (record t {
          ports = with_port (visited_port wanted (labels_of t.pools) lane) t.ports n;
          pools = pools;
        }) order (visits_bare wanted (labels_of t.pools) lane t.ports n) more.same
        (ap (λ (xs : List ℕ). xs ++ map (λ h. h.number) t.handles) (same_numbers t.ports (with_port (visited_port wanted (labels_of t.pools) lane) t.ports n) (visits_bare wanted (labels_of t.pools) lane t.ports n)))
        refl)
    keeps Nothing takes c pools more =
        kept t order n lane wanted Nothing None (gets Nothing takes c) t.handles none_more pools more (t.calls + 1) t.next_number
        (numbers_stay t (record t {
          calls = t.calls + 1;
          ports = with_port (visited_port wanted (labels_of t.pools) lane) t.ports n;
          pools = pools;
        }) order (visits_bare wanted (labels_of t.pools) lane t.ports n) more.same
        (ap (λ (xs : List ℕ). xs ++ map (λ h. h.number) t.handles) (same_numbers t.ports (with_port (visited_port wanted (labels_of t.pools) lane) t.ports n) (visits_bare wanted (labels_of t.pools) lane t.ports n)))
        refl)

    pub visit_keeps : (pools : List (Option PoolState)) → HasMoreHolders t.pools pools (got_once (visits_at t n lane wanted))
        → AreInOrder (record (with_got (with_visited t n lane wanted) node role n (visits_at t n lane wanted)) { pools = pools })
    visit_keeps pools =
        subst (λ v. HasMoreHolders t.pools pools (got_once v) → AreInOrder (record (with_got (with_visited t n lane wanted) node role n v) { pools = pools }))
        (sym (ap (λ o. all_visits wanted (labels_of t.pools) lane (option_map_or pipes_of o [])) there))
        (keeps (all_visits wanted (labels_of t.pools) lane (pipes_of p)) (λ f w. ports_taken f wanted (labels_of t.pools) lane t.ports n p there apart w)
        (got_is wanted (labels_of t.pools) lane (pipes_of p) false apart) pools)

pub requests_keep_order : RequestsKeepOrder
requests_keep_order t node n pools order server more =
    visit_keeps t order node n 0 server.port server.there (sym server.on_node) Server server.server (λ e. refl) (wanted_by_server t.settings.fire_and_forget) pools more

pub responses_keep_order : ResponsesKeepOrder
responses_keep_order t node n pools order pending more =
    let h = pending.handle in
    let is = handle_is (IsOfPort t) t.handles node n h order.ports pending.named.there in
    let ports : is.port ≡ pending.port = ap (λ o. option_map_or (λ (x : PortState). x) o is.port) (sym is.there ∙ pending.there) in
    visit_keeps t order node h.port (labels_of t.pools h.pool h.slot).lane pending.port pending.there
    (sym (handle_node t.handles node n h pending.named.there) ∙ is.on_node ∙ ap (λ (x : PortState). x.node) ports) Client pending.client
    (λ e. absurd (true≢false (ap is_client e))) (Of (labels_of t.pools h.pool h.slot).request) pools more
