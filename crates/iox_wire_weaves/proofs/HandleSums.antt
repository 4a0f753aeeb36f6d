-- A node's handles are no more than its ports may have together.
use Rattle.std.specs.Prelude.{filter, flat_map, ◌&&◌, ◌||◌}
use Rattle.std.specs.List.{list_any, range_with_len, sum_by}
use Rattle.std.specs.Option.{option_map_or}
use Rattle.std.specs.Prelude.{option_map}
use Rattle.std.proofs.Common.{◌≡◌, ℕ, suc, ◌+◌, ◌*◌, ◌≤◌, ◌<◌, Bool, true, false, if◌then◌else◌, ◌==◌, List, [], ◌∷◌, length, map, Option, None, Some, refl, ap, sym, subst, ◌∙◌, arith, inl, inr, true≢false, eqb-true, eq-eqb}
use Rattle.std.proofs.lemmas.List.{length-map}
use Rattle.std.proofs.lemmas.List.FromFn.{length-range_with_len}
use Rattle.std.proofs.lemmas.List.Sums.{sum_by-cons}
use Rattle.std.proofs.Math.Nat.{mul-le-mul_right, mul_comm}
use Rattle.iox_model.specs.declared.kind.Kind.{Kind}
use Rattle.iox_model.specs.declared.kind.Kind.TheVariants as kinds
use Rattle.iox_model.specs.declared.kind.Role.{Role}
use Rattle.iox_model.specs.declared.kind.Role.TheVariants.{Client, Server}
use Rattle.iox_model.specs.declared.way.Way.{Way}
use Rattle.iox_model.specs.Handles.{is_own, is_received, same_kind}
use Rattle.iox_model.specs.Joins.{not_living}
use Rattle.iox_model.specs.Maps.{AreDistinct, has_number, same_way}
use Rattle.iox_model.specs.Messages.{request_way, response_way}
use Rattle.iox_model.specs.Peers.{borrow_limit_on, lanes_of, ports_of_role, role_at}
use Rattle.iox_model.specs.Settings.{Limits, borrow_limit_of, is_client, other_role}
use Rattle.iox_model.specs.States.{Fixed, Port}
use Rattle.iox_laws.proofs.WeaveLaws.MapLemmas.{same_way-refl}
use Rattle.iox_laws.proofs.WeaveLaws.WholeLemmas.{some-is, split}
use Rattle.iox_laws.proofs.WeaveLedger.Counts.{count, count-fewer, count-none}
use Rattle.iox_laws.proofs.WeaveLedger.Lists.{IsAmong, NoRepeats, among-any, among-filter, among-map, among-number, distinct-no_repeats, filter-among, find-among, find-own, flat-among, map-among, number-among}
use Rattle.iox_laws.proofs.WeaveLedger.Orders.{at-most}
use Rattle.iox_laws.proofs.WeaveLedger.Ranges.{range-has}
use Rattle.iox_laws.proofs.WeaveLedger.Truths.{both_true}
use Rattle.iox_laws.proofs.WeavePools.Unions.{count-any, count-or, length-flat}
use Rattle.iox_wire_laws.specs.WireOwners.Releases.{ReleasesOwnHandle}
use Rattle.iox_wire_laws.proofs.WireHolding.WireWays.{among_flat}
use Rattle.iox_wire_nodes.specs.Entry.{Entry}
use Rattle.iox_wire_nodes.specs.Local.{Local}
use Rattle.iox_wire_nodes.specs.PlanPort.{PlanPort}
use Rattle.iox_wire_nodes.specs.Plans.{numbers_of, planned_limit, port_numbers, port_of}
use Rattle.iox_wire_nodes.specs.PlansOf.{IsAsPlanned, IsPlanFor}
use Rattle.iox_wire_nodes.specs.Programs.{WireLayout}
use Rattle.iox_wire_nodes.specs.Seat.{Seat}
use Rattle.iox_wire_nodes.specs.Tables.{Setting, way_in, with_entry}
use Rattle.iox_wire_nodes.specs.WirePlan.{WirePlan}
use Rattle.iox_wire_nodes.proofs.Planned.{Found, same_found, same_names, same_numbers}
use Rattle.iox_wire_needs.specs.Aside.{shown_at}
use Rattle.iox_wire_needs.specs.CallPlaces.{SuitsPort, is_kind_of}
use Rattle.iox_wire_needs.specs.CallsStand.{CallStands}
use Rattle.iox_wire_needs.specs.HandleCounts.{received_on}
use Rattle.iox_wire_needs.specs.Local.TheVariants.{ReleaseExchanges, ReleaseLooks}
use Rattle.iox_wire_needs.specs.Nodes.{NodeStands}
use Rattle.iox_wire_needs.specs.Runs.{Run}
use Rattle.iox_wire_needs.specs.SlotsKnown.{HasEntry, IsPortOfSeat}
use Rattle.iox_wire_needs.specs.Stands.{seats_of}
use Rattle.iox_wire_needs.proofs.HandleCounts.{handles_are_few}
use Rattle.iox_wire_weaves.specs.HandleBounds.{NodesHaveFewHandles, most_of_node, most_of_port, ways_to}
use Rattle.iox_wire_weaves.specs.Wires.{Shows, WireData, WireNode, living_refusal, node_at, players_of, refusal_in, seat_of}
use Rattle.iox_wire_weaves.proofs.Lookups.{seat_there}
use Rattle.iox_wire_weaves.proofs.NodesKnown.{table_alike}
use Rattle.iox_wire_weaves.proofs.PortSlots as slots

-- ---- lists

all_pass : {A : Type 0} (test : A → Bool) (xs : List A) → ((x : A) → IsAmong x xs → test x ≡ true) → length xs ≡ count test xs
all_pass test [] each = refl
all_pass test (x ∷ xs) each =
    ap suc (all_pass test xs (λ y among. each y (inr among)))
    ∙ sym (ap (λ b. length (if b then x ∷ filter test xs else filter test xs)) (each x (inl refl)))

-- those that pass one of many tests are no more than the tests let pass together
count_sum : {A B : Type 0} (test : B → A → Bool) (most : B → ℕ) (bs : List B) (xs : List A) → ((b : B) → IsAmong b bs → count (test b) xs ≤ most b)
    → count (λ x. list_any (λ b. test b x) bs) xs ≤ sum_by most bs
count_sum test most [] xs each = subst (λ k. k ≤ 0) (sym (count-none (λ x. false) xs (λ x among. refl))) (omega arith)
count_sum test most (b ∷ bs) xs each =
    both (count (test b) xs) (count (λ x. list_any (λ c. test c x) bs) xs) (most b) (sum_by most bs) (count-or (test b) (λ x. list_any (λ c. test c x) bs) xs) (each b (inl refl))
    (count_sum test most bs xs (λ c among. each c (inr among))) (sum_by-cons most b bs)
  where
    both : (a c d e : ℕ) {k s : ℕ} → k ≤ a + c → a ≤ d → c ≤ e → s ≡ d + e → k ≤ s
    both a c d e {k} {s} sum one rest is = omega (arith, sum, one, rest, is)

same_length : (e : Entry) (es : List Entry) → length (with_entry e es) ≡ length es
same_length e [] = refl
same_length e (k ∷ ks) = by_case (k.number == e.number) (same_length e ks)
  where
    by_case : (b : Bool) → length (with_entry e ks) ≡ length ks → length (if b then e ∷ ks else k ∷ with_entry e ks) ≡ length (k ∷ ks)
    by_case true rest = refl
    by_case false rest = ap suc rest

-- ---- kinds

-- a handle holds a message of its port, or one that was received
own_or_received : (role : Role) (kind : Kind) → is_kind_of role kind ≡ true → (is_own kind || is_received kind) ≡ true
own_or_received Client kinds.RequestMut is = refl
own_or_received Client kinds.PendingResponse is = refl
own_or_received Client kinds.Response is = refl
own_or_received Client kind is = absurd (true≢false (sym is))
own_or_received Server kinds.ResponseMut is = refl
own_or_received Server kinds.ActiveRequest is = refl
own_or_received Server kind is = absurd (true≢false (sym is))

-- a client receives responses
response_kind : (kind : Kind) → is_kind_of Client kind ≡ true → is_received kind ≡ true → (same_kind kind kinds.Response ≡ true) × (same_kind kind kinds.ActiveRequest ≡ false)
response_kind kinds.RequestMut is received = absurd (true≢false (sym received))
response_kind kinds.PendingResponse is received = absurd (true≢false (sym received))
response_kind kinds.Response is received = (refl, refl)
response_kind kind is received = absurd (true≢false (sym is))

-- and a server requests
request_kind : (kind : Kind) → is_kind_of Server kind ≡ true → is_received kind ≡ true → same_kind kind kinds.ActiveRequest ≡ true
request_kind kinds.ResponseMut is received = absurd (true≢false (sym received))
request_kind kinds.ActiveRequest is received = refl
request_kind kind is received = absurd (true≢false (sym is))

-- ---- a node

-- as it is shown it has as many handles
shown_length : (p : Setting) (s : Seat) (l : Local) → length (shown_at p s l).table ≡ length s.table
shown_length p s (ReleaseLooks e) = same_length _ s.table
shown_length p s (ReleaseExchanges e old) = same_length _ s.table
shown_length p s l = refl

module _ (p : Setting) (wire : WireData) (r : Run) (n : ℕ) (x : WireNode) (shows : Shows p wire r) (alive : living_refusal wire.nodes n ≡ None) (there : node_at n wire.nodes ≡ Some x) where
  abbrev y : Seat
  y = seats_of p (players_of p wire.nodes r) n

  abbrev plan : WirePlan
  plan = wire.plan

  abbrev f : Fixed
  f = r.last.state.fixed

  living : not_living r.last.state n ≡ None
  living = shows.living n ∙ ap (option_map refusal_in) alive

  mine : NodeStands p shows.stands.stands.held r.last.state (seats_of p (players_of p wire.nodes r) n)
  mine = shows.stands.stands.nodes n living

  call : CallStands p shows.stands.stands.held (seats_of p (players_of p wire.nodes r) n)
  call = shows.stands.calls n living

  node_is : (seats_of p (players_of p wire.nodes r) n).node ≡ n
  node_is = shows.stands.stands.shows.node n

  few : ((port : ℕ) → IsPortOfSeat p (seats_of p (players_of p wire.nodes r) n) port → length (map (λ (e : Entry). e.slot) (filter (λ (e : Entry). is_own e.kind && (e.port == port)) (seats_of p (players_of p wire.nodes r) n).table)) ≤ (p.port port).pool)
      × ((w : Way) → p.layout.owner w.receiver ≡ (seats_of p (players_of p wire.nodes r) n).node
      → length (received_on (seats_of p (players_of p wire.nodes r) n) w) ≤ borrow_limit_on r.last.state.fixed w)
  few = handles_are_few p wire.words (players_of p wire.nodes r) r n shows.stands living

  -- ---- the plan

  numbers_are : p.layout.sizes.ports ≡ port_numbers wire.plan
  numbers_are = ap (λ (l : WireLayout). l.sizes.ports) shows.setting.setting.layout

  planned_for : IsPlanFor wire.plan r.last.state.fixed.limits r.last.state.fixed.ports
  planned_for =
      subst (λ (l : Limits). IsPlanFor plan l f.ports) (sym (shows.stands.stands.shows.counts n living).knows.limits)
      (subst (IsPlanFor plan p.limits) (sym (shows.ports ∙ ap (map p.port) numbers_are)) shows.setting.setting.is_for)

  apart : NoRepeats (port_numbers wire.plan)
  apart =
      distinct-no_repeats (port_numbers plan)
      (subst AreDistinct (same_numbers plan.ports.items f.ports planned_for.ports) shows.stands.stands.layout.numbers)

  names : (role : Role) → ports_of_role r.last.state.fixed role ≡ numbers_of wire.plan role
  names role = sym (same_names role plan.ports.items f.ports planned_for.ports)

  owner_is : (port : ℕ) (q : PlanPort) → port_of wire.plan port ≡ Some q → p.layout.owner port ≡ q.node
  owner_is port q is =
      ap (λ (l : WireLayout). l.owner port) shows.setting.setting.layout ∙ ap (λ o. option_map_or (λ (k : PlanPort). k.node) o 0) is

  -- ---- a handle

  has : (e : Entry) → IsAmong e (seats_of p (players_of p wire.nodes r) n).table → HasEntry (seats_of p (players_of p wire.nodes r) n) e
  has e among = find-own (λ (k : Entry). k.number) y.table e (distinct-no_repeats (map (λ (k : Entry). k.number) y.table) mine.numbers) among

  suits : (e : Entry) → IsAmong e (seats_of p (players_of p wire.nodes r) n).table → SuitsPort p (seats_of p (players_of p wire.nodes r) n) e.port e.kind
  suits e among = call.fits.handles e (has e among)

  released : (e : Entry) → IsAmong e (seats_of p (players_of p wire.nodes r) n).table
      → ReleasesOwnHandle r.last.state.fixed (seats_of p (players_of p wire.nodes r) n).node e
  released e among = mine.released e (has e among)

  -- ---- a port of the node

  module _ (q : PlanPort) (among : IsAmong q wire.plan.ports.items) (own : (q.node == n) ≡ true) where
    found : port_of wire.plan q.number ≡ Some q
    found = find-own (λ (k : PlanPort). k.number) plan.ports.items q apart among

    known : has_number q.number p.layout.sizes.ports ≡ true
    known =
        subst (λ ks. has_number q.number ks ≡ true) (sym numbers_are)
        (among-number q.number (port_numbers plan) (among-map (λ (k : PlanPort). k.number) q plan.ports.items among))

    home : IsPortOfSeat p (seats_of p (players_of p wire.nodes r) n) q.number
    home = (known, owner_is q.number q found ∙ eqb-true q.node n own ∙ sym node_is)

    as_planned : IsAsPlanned q (p.port q.number)
    as_planned =
        let at : Found (λ k. IsAsPlanned k (p.port k.number)) plan.ports.items q.number = slots.planned p wire r shows q.number known in
        subst (λ (k : PlanPort). IsAsPlanned k (p.port k.number)) (some-is at.port q (sym at.found ∙ found)) at.so

    role_is : role_at r.last.state.fixed q.number ≡ q.role
    role_is =
        same_found (λ (k : PlanPort). k.role) (λ (k : Port). k.role) Client q.number (λ k i like. like.role) plan.ports.items f.ports planned_for.ports
        ∙ ap (λ (o : Option PlanPort). option_map_or (λ k. k.role) o Client) found

    lanes_are : lanes_of r.last.state.fixed q.number ≡ q.pool
    lanes_are =
        same_found (λ (k : PlanPort). k.pool) (λ (k : Port). k.pool) 0 q.number (λ k i like. like.pool) plan.ports.items f.ports planned_for.ports
        ∙ ap (λ (o : Option PlanPort). option_map_or (λ k. k.pool) o 0) found

    -- ---- its own messages

    own_few : count (λ (e : Entry). is_own e.kind && (e.port == q.number)) (seats_of p (players_of p wire.nodes r) n).table ≤ q.pool
    own_few =
        subst (λ k. count (λ (e : Entry). is_own e.kind && (e.port == q.number)) y.table ≤ k) as_planned.pool
        (subst (λ k. k ≤ (p.port q.number).pool) (length-map (filter (λ (e : Entry). is_own e.kind && (e.port == q.number)) y.table) (λ (e : Entry). e.slot)) (few.0 q.number home))

    -- ---- the ways that come to it

    abbrev ways_for : Role → List Way
    ways_for Client = flat_map (λ server. map (λ lane. response_way q.number lane server) (range_with_len 0 q.pool)) (numbers_of plan Server)
    ways_for Server = map (λ client. request_way client q.number) (numbers_of plan Client)

    ways_few : (role : Role) → length (ways_for role) ≤ (if is_client role then length (numbers_of wire.plan Server) * q.pool else length (numbers_of wire.plan Client))
    ways_few Client =
        length-flat (λ server. map (λ lane. response_way q.number lane server) (range_with_len 0 q.pool)) q.pool (numbers_of plan Server)
        (λ server a. exact (length (map (λ lane. response_way q.number lane server) (range_with_len 0 q.pool)))
        (length-map (range_with_len 0 q.pool) (λ lane. response_way q.number lane server) ∙ length-range_with_len 0 q.pool))
      where
        exact : (k : ℕ) → k ≡ q.pool → k ≤ q.pool
        exact k is = omega (arith, is)
    ways_few Server = exact (length (map (λ client. request_way client q.number) (numbers_of plan Client))) (length (numbers_of plan Client)) (length-map (numbers_of plan Client) (λ client. request_way client q.number))
      where
        exact : (k m : ℕ) → k ≡ m → k ≤ m
        exact k m is = omega (arith, is)

    comes_here : (role : Role) (w : Way) → IsAmong w (ways_for role) → w.receiver ≡ q.number
    comes_here Client w a =
        let s = flat-among (λ server. map (λ lane. response_way q.number lane server) (range_with_len 0 q.pool)) w (numbers_of plan Server) a in
        let l = map-among (λ lane. response_way q.number lane s.0) w (range_with_len 0 q.pool) s.2 in
        ap (λ (v : Way). v.receiver) l.2
    comes_here Server w a = let c = map-among (λ client. request_way client q.number) w (numbers_of plan Client) a in ap (λ (v : Way). v.receiver) c.2

    limit_is : (w : Way) → w.receiver ≡ q.number → borrow_limit_on r.last.state.fixed w ≡ planned_limit wire.plan.limits (other_role q.role)
    limit_is w here =
        ap (λ (k : Role). borrow_limit_of f.limits (other_role k)) (ap (role_at f) here ∙ role_is) ∙ sym (planned_for.borrows (other_role q.role))

    -- what it received came on one of them
    came : (role : Role) → q.role ≡ role → (e : Entry) → IsAmong e (seats_of p (players_of p wire.nodes r) n).table → e.port ≡ q.number → is_received e.kind ≡ true
        → IsAmong (way_in e) (ways_for role)
    came Client is e a port received =
        let kind : is_kind_of Client e.kind ≡ true
        = subst (λ k. is_kind_of k e.kind ≡ true) (ap (λ k. (p.port k).role) port ∙ as_planned.role ∙ is) (suits e a).1 in
        let response = response_kind e.kind kind received in
        let from = (released e a).response response.0 in
        let low : e.lane < q.pool = subst (λ k. e.lane < k) (ap (lanes_of f) port ∙ lanes_are) from.1 in
        subst (λ w. IsAmong w (ways_for Client))
        (sym (ap (λ b. if b then request_way e.client e.port else response_way e.port e.lane e.sender) response.1 ∙ ap (λ k. response_way k e.lane e.sender) port))
        (among_flat (λ server. map (λ lane. response_way q.number lane server) (range_with_len 0 q.pool)) e.sender (response_way q.number e.lane e.sender) (numbers_of plan Server)
        (subst (IsAmong e.sender) (names Server) (number-among e.sender (ports_of_role f Server) from.2))
        (among-map (λ lane. response_way q.number lane e.sender) e.lane (range_with_len 0 q.pool) (range-has 0 q.pool e.lane (omega arith) (omega (arith, low)))))
    came Server is e a port received =
        let kind : is_kind_of Server e.kind ≡ true
        = subst (λ k. is_kind_of k e.kind ≡ true) (ap (λ k. (p.port k).role) port ∙ as_planned.role ∙ is) (suits e a).1 in
        let request = request_kind e.kind kind received in
        let from = (released e a).request request in
        subst (λ w. IsAmong w (ways_for Server))
        (sym (ap (λ b. if b then request_way e.client e.port else response_way e.port e.lane e.sender) request ∙ ap (request_way e.client) port))
        (among-map (λ client. request_way client q.number) e.client (numbers_of plan Client)
        (subst (IsAmong e.client) (names Client) (number-among e.client (ports_of_role f Client) from.3)))

    received_few : count (λ (e : Entry). is_received e.kind && (e.port == q.number)) (seats_of p (players_of p wire.nodes r) n).table
        ≤ length (ways_for q.role) * planned_limit wire.plan.limits (other_role q.role)
    received_few =
        at-most _ _ _
        (count-fewer (λ (e : Entry). is_received e.kind && (e.port == q.number)) (λ e. list_any (λ w. is_received e.kind && same_way (way_in e) w) (ways_for q.role)) y.table each)
        (count-any (λ w (e : Entry). is_received e.kind && same_way (way_in e) w) (planned_limit plan.limits (other_role q.role)) (ways_for q.role) y.table
        (λ w a. subst (λ k. length (received_on y w) ≤ k) (limit_is w (comes_here q.role w a)) (few.1 w (ap p.layout.owner (comes_here q.role w a) ∙ home.1))))
      where
        each : (e : Entry) → IsAmong e (seats_of p (players_of p wire.nodes r) n).table → (is_received e.kind && (e.port == q.number)) ≡ true
            → list_any (λ w. is_received e.kind && same_way (way_in e) w) (ways_for q.role) ≡ true
        each e a is =
            let both = split (is_received e.kind) (e.port == q.number) is in
            among-any (λ w. is_received e.kind && same_way (way_in e) w) (way_in e) (ways_for q.role) (came q.role refl e a (eqb-true e.port q.number both.1) both.0)
            (both_true (is_received e.kind) (same_way (way_in e) (way_in e)) both.0 (same_way-refl (way_in e)))

    -- ---- all of them

    at_port : count (λ (e : Entry). e.port == q.number) (seats_of p (players_of p wire.nodes r) n).table ≤ most_of_port wire.plan q
    at_port =
        sum _ _ q.pool (length (ways_for q.role)) (ways_to plan q) (planned_limit plan.limits (other_role q.role))
        (count-fewer (λ (e : Entry). e.port == q.number) (λ e. (is_own e.kind && (e.port == q.number)) || (is_received e.kind && (e.port == q.number))) y.table each)
        (count-or (λ (e : Entry). is_own e.kind && (e.port == q.number)) (λ e. is_received e.kind && (e.port == q.number)) y.table) own_few received_few (ways_few q.role)
      where
        spread : (a b c : Bool) → c ≡ true → (a || b) ≡ true → ((a && c) || (b && c)) ≡ true
        spread true b true c is = refl
        spread false true true c is = refl
        spread false false true c is = absurd (true≢false (sym is))
        spread a b false c is = absurd (true≢false (sym c))

        each : (e : Entry) → IsAmong e (seats_of p (players_of p wire.nodes r) n).table → (e.port == q.number) ≡ true
            → ((is_own e.kind && (e.port == q.number)) || (is_received e.kind && (e.port == q.number))) ≡ true
        each e a is = spread (is_own e.kind) (is_received e.kind) (e.port == q.number) is (own_or_received (p.port e.port).role e.kind (suits e a).1)

        sum : (own received pool ways most limit : ℕ) {here both : ℕ} → here ≤ both → both ≤ own + received → own ≤ pool → received ≤ ways * limit → ways ≤ most
            → here ≤ pool + limit * most
        sum own received pool ways most limit {here} {both} a b c d e =
            let g : ways * limit ≤ most * limit = mul-le-mul_right limit e in let s : most * limit ≡ limit * most = mul_comm most limit in omega (arith, a, b, c, d, g, s)

  -- ---- the node

  at_some_port : (e : Entry) → IsAmong e (seats_of p (players_of p wire.nodes r) n).table
      → list_any (λ (q : PlanPort). e.port == q.number) (filter (λ (q : PlanPort). q.node == n) wire.plan.ports.items) ≡ true
  at_some_port e among =
      let own = (suits e among).0 in
      let at : Found (λ k. IsAsPlanned k (p.port k.number)) plan.ports.items e.port = slots.planned p wire r shows e.port own.0 in
      among-any (λ (q : PlanPort). e.port == q.number) at.port (filter (λ (q : PlanPort). q.node == n) plan.ports.items)
      (among-filter (λ (q : PlanPort). q.node == n) at.port plan.ports.items (find-among (λ (k : PlanPort). k.number == e.port) at.port plan.ports.items at.found).0
      (eq-eqb at.port.node n (sym (owner_is e.port at.port at.found) ∙ own.1 ∙ node_is)))
      (eq-eqb e.port at.port.number (sym at.number))

  together : length (seats_of p (players_of p wire.nodes r) n).table ≤ most_of_node wire.plan n
  together =
      subst (λ k. k ≤ most_of_node plan n) (sym (all_pass (λ (e : Entry). list_any (λ (q : PlanPort). e.port == q.number) (filter (λ (q : PlanPort). q.node == n) plan.ports.items)) y.table at_some_port))
      (count_sum (λ (q : PlanPort) (e : Entry). e.port == q.number) (most_of_port plan) (filter (λ (q : PlanPort). q.node == n) plan.ports.items) y.table
      (λ q a. let own = filter-among (λ (q : PlanPort). q.node == n) q plan.ports.items a in at_port q own.0 own.1))

  as_long : length (seats_of p (players_of p wire.nodes r) n).table ≡ length x.node.seat.seat.table
  as_long =
      shown_length p (seat_of p wire.nodes n) (seat_of p wire.nodes n).local
      ∙ ap (λ (s : Seat). length s.table) (seat_there p wire.nodes n x there) ∙ ap (λ (es : List Entry). length es) (table_alike x.node x.node.at)

  pub within : length x.node.seat.seat.table ≤ most_of_node wire.plan n
  within = subst (λ k. k ≤ most_of_node plan n) as_long together

pub nodes_have_few_handles : NodesHaveFewHandles
nodes_have_few_handles p wire r n x shows alive there = within p wire r n x shows alive there
