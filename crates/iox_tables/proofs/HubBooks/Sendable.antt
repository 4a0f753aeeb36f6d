-- A loan may be sent, where the tables of a hub are in order.
use Rattle.std.specs.Prelude.{◌≡◌, ℕ, zero, suc, ◌<◌, Bool, true, false, ◌&&◌, ◌||◌, if◌then◌else◌, ◌==◌, List, [], ◌∷◌, ◌++◌, map, filter, length, Option, Some, None, is_some, slice_get, refl}
use Rattle.std.specs.Option.{option_map_or}
use Rattle.std.proofs.Common.{sym, ap, subst, ◌∙◌, arith, true≢false, eqb-true, inl, inr}
use Rattle.std.proofs.lemmas.Option.{slice_get_within}
use Rattle.iox_model.specs.declared.kind.Kind.{Kind}
use Rattle.iox_model.specs.declared.kind.Kind.TheVariants as kinds
use Rattle.iox_model.specs.declared.kind.Role.{Role}
use Rattle.iox_model.specs.declared.kind.Role.TheVariants.{Client, Server}
use Rattle.iox_model.specs.declared.way.Way.{Way}
use Rattle.iox_model.specs.declared.way.RequestState.{RequestState}
use Rattle.iox_model.specs.declared.way.RequestState.TheVariants.{Closed}
use Rattle.iox_model.specs.Doings.{Sending}
use Rattle.iox_model.specs.Handles.{is_own, is_request_loan, is_response_loan, same_kind}
use Rattle.iox_model.specs.Maps.{AreDistinctWays, AreDistinct, has_number, has_way}
use Rattle.iox_model.specs.Messages.{names, request_way, response_way}
use Rattle.iox_model.specs.Peers.{others}
use Rattle.iox_model.specs.Requests.{targets, to_open}
use Rattle.iox_model.specs.Settings.{is_client, other_role, same_role}
use Rattle.iox_laws.proofs.WeaveLaws.MapLemmas.{eqb-refl, others_are_all}
use Rattle.iox_laws.proofs.WeaveLedger.Lists.{IsAmong, NoRepeats, distinct-no_repeats, filter-among, map-among, no_repeats-map_filter, number-among, way-among}
use Rattle.iox_laws.specs.CallFunctions.Responses.{is_awaited}
use Rattle.iox_lanes.specs.Lanes.{LaneState}
use Rattle.iox_tables.specs.HubStates.Tables.{HandleState, HubTables, PortState, first_by, numbers_of, pipes_of, port_in, slot_at}
use Rattle.iox_tables.specs.HubStates.Ways.{OnWays, lane_on, lanes_from, state_on, states_from}
use Rattle.iox_tables.specs.HubStates.States.{Given, fixed_of, state_shown}
use Rattle.iox_tables.specs.HubStates.Changes.{OnEach}
use Rattle.iox_tables.specs.HubStates.Releases.{handle_shown, lane_of}
use Rattle.iox_tables.specs.HubStates.Sendings.{request_sending, response_sending}
use Rattle.iox_tables.specs.HubStates.Sends.{MaySendFrom}
use Rattle.iox_tables.specs.HubStates.Steps.{IsOpenable, IsOpenToNew, is_there}
use Rattle.iox_tables.specs.HubStates.Wirings.{IsHandle, buffer_from, numbers_of_role}
use Rattle.iox_tables.proofs.HubStates.Fixing.{first_key, roles_are}
use Rattle.iox_tables.specs.HubBooks.Handles.{IsOfPort, is_loan, role_for}
use Rattle.iox_tables.specs.HubBooks.Hubs.{AreInOrder, IsLaneOf}
use Rattle.iox_tables.specs.HubBooks.Premises.{RequestsMayBeSent, ResponsesMayBeSent}
use Rattle.iox_tables.proofs.HubBooks.Used.{handle_is, once_delivered, once_on}
use Rattle.iox_tables.specs.HubMaking.NewPorts.{states_of, width_of}

-- ---- lists

distinct_front : (xs ys : List ℕ) → AreDistinct (xs ++ ys) → AreDistinct xs
distinct_front [] ys d = tt
distinct_front (x ∷ xs) ys d = (absent (has_number x xs) refl, distinct_front xs ys d.1)
  where
    in_front : (zs : List ℕ) → has_number x zs ≡ true → has_number x (zs ++ ys) ≡ true
    in_front [] has = absurd (true≢false (sym has))
    in_front (z ∷ zs) has = step (z == x) has (in_front zs)
      where
        step : (b : Bool) → (b || has_number x zs) ≡ true → (has_number x zs ≡ true → has_number x (zs ++ ys) ≡ true) → (b || has_number x (zs ++ ys)) ≡ true
        step true h rest = refl
        step false h rest = rest h

    absent : (b : Bool) → has_number x xs ≡ b → b ≡ false
    absent true e = absurd (true≢false (sym (in_front xs e) ∙ d.0))
    absent false e = refl

pub on_each : {A : Type 0} (P : Way → A → Type 0) (on : OnWays A) (ws : List Way) → ((w : Way) → IsAmong w ws → (x : A) × (on w ≡ Some x) × P w x) → OnEach P on ws
on_each P on [] each = tt
on_each P on (w ∷ ws) each = (each w (inl refl), on_each P on ws (λ v a. each v (inr a)))

-- ways to different numbers differ
pub apart_map : (to : ℕ → Way) (back : Way → ℕ) → ((n : ℕ) → back (to n) ≡ n) → (ns : List ℕ) → NoRepeats ns → AreDistinctWays (map to ns)
apart_map to back is [] once = tt
apart_map to back is (n ∷ ns) once = (absent (has_way (to n) (map to ns)) refl, apart_map to back is ns once.1)
  where
    absent : (b : Bool) → has_way (to n) (map to ns) ≡ b → b ≡ false
    absent false e = refl
    absent true e =
        let a = map-among to (to n) ns (way-among (to n) (map to ns) e) in
        absurd (once.0 (subst (λ k. IsAmong k ns) (sym (sym (is n) ∙ ap back a.2 ∙ is a.0)) a.1))

pub first_own : {A : Type 0} (key : A → ℕ) (xs : List A) (a : A) → NoRepeats (map key xs) → IsAmong a xs → first_by key xs (key a) ≡ Some a
first_own key [] a once among = absurd among
first_own key (x ∷ xs) a once (inl e) = ap (λ (b : Bool). if b then Some x else first_by key xs (key a)) (ap (λ n. key x == n) (ap key e) ∙ eqb-refl (key x)) ∙ ap Some (sym e)
first_own {A} key (x ∷ xs) a once (inr among) = step (key x == key a) refl (first_own key xs a once.1 among)
  where
    mapped : (ys : List A) → IsAmong a ys → IsAmong (key a) (map key ys)
    mapped [] b = b
    mapped (y ∷ ys) (inl e) = inl (ap key e)
    mapped (y ∷ ys) (inr b) = inr (mapped ys b)

    step : (b : Bool) → (key x == key a) ≡ b → first_by key xs (key a) ≡ Some a → (if b then Some x else first_by key xs (key a)) ≡ Some a
    step true e rest = absurd (once.0 (subst (λ n. IsAmong n (map key xs)) (sym (eqb-true (key x) (key a) e)) (mapped xs among)))
    step false e rest = rest

role_is : (a b : Role) → same_role a b ≡ true → a ≡ b
role_is Client Client e = refl
role_is Client Server e = absurd (true≢false (sym e))
role_is Server Client e = absurd (true≢false (sym e))
role_is Server Server e = refl

-- an index below the length has something
pub there_below : {A : Type 0} (xs : List A) (i : ℕ) → i < length xs → (x : A) × (slice_get xs i ≡ Some x)
there_below [] i lt = absurd (omega (arith, lt))
there_below (x ∷ xs) zero lt = (x, refl)
there_below (x ∷ xs) (suc i) lt = there_below xs i (omega (arith, lt))

-- ---- kinds

request_own : (a b : Bool) → a ≡ true → (a || b) ≡ true
request_own true b e = refl
request_own false b e = absurd (true≢false (sym e))

response_own : (a b c : Bool) → b ≡ true → (a || (b || c)) ≡ true
response_own true b c e = refl
response_own false true c e = refl
response_own false false c e = absurd (true≢false (sym e))

response_loan : (a b : Bool) → b ≡ true → (a || b) ≡ true
response_loan true b e = refl
response_loan false b e = e

response_kind : (kind : Kind) → is_response_loan kind ≡ true → is_request_loan kind ≡ false
response_kind kinds.ResponseMutUninit e = refl
response_kind kinds.ResponseMut e = refl
response_kind kinds.Client e = absurd (true≢false (sym e))
response_kind kinds.Server e = absurd (true≢false (sym e))
response_kind kinds.RequestMutUninit e = absurd (true≢false (sym e))
response_kind kinds.RequestMut e = absurd (true≢false (sym e))
response_kind kinds.PendingResponse e = absurd (true≢false (sym e))
response_kind kinds.ActiveRequest e = absurd (true≢false (sym e))
response_kind kinds.Response e = absurd (true≢false (sym e))

server_kind : (kind : Kind) → is_response_loan kind ≡ true → role_for kind ≡ Server
server_kind kinds.ResponseMutUninit e = refl
server_kind kinds.ResponseMut e = refl
server_kind kinds.Client e = refl
server_kind kinds.Server e = refl
server_kind kinds.RequestMutUninit e = absurd (true≢false (sym e))
server_kind kinds.RequestMut e = absurd (true≢false (sym e))
server_kind kinds.PendingResponse e = absurd (true≢false (sym e))
server_kind kinds.ActiveRequest e = refl
server_kind kinds.Response e = absurd (true≢false (sym e))

-- ---- ports

module _ (t : HubTables) (order : AreInOrder t) where
  pub numbers_apart : NoRepeats (numbers_of t.ports)
  numbers_apart = distinct-no_repeats (numbers_of t.ports) (distinct_front (numbers_of t.ports) (map (λ h. h.number) t.handles) order.numbers.apart)

  pub roles_apart : (role : Role) → NoRepeats (numbers_of_role role t.ports)
  roles_apart role = no_repeats-map_filter (λ (p : PortState). p.number) (λ p. same_role p.role role) t.ports numbers_apart

  -- who is among the numbers of a role is a connected port of that role
  pub of_role : (role : Role) (n : ℕ) → IsAmong n (numbers_of_role role t.ports) → (p : PortState) × (port_in t.ports n ≡ Some p) × (p.role ≡ role)
  of_role role n among =
      let m = map-among (λ (p : PortState). p.number) n (filter (λ p. same_role p.role role) t.ports) among in
      let f = filter-among (λ (p : PortState). same_role p.role role) m.0 t.ports m.1 in
      (m.0, ap (port_in t.ports) m.2 ∙ first_own (λ (p : PortState). p.number) t.ports m.0 numbers_apart f.0, role_is m.0.role role f.1)

  -- a lane of a number that is low enough is there, from each port to each of the other role
  pub lane_there : (n m lane : ℕ) (to from : PortState) → port_in t.ports n ≡ Some to → port_in t.ports m ≡ Some from → to.role ≡ other_role from.role
      → lane < width_of to → (l : LaneState) × (lane_on t.ports (record { sender = m; receiver = n; lane = lane }) ≡ Some l)
  lane_there n m lane to from a b roles low =
      let width = order.widths n m to from a b roles in
      let l = there_below (lanes_from (pipes_of to) from.number) lane (subst (λ k. lane < k) (sym width.lanes) low) in
      (l.0, ap (λ o. slice_get (lanes_from (option_map_or pipes_of o []) m) lane) a ∙ ap (λ k. slice_get (lanes_from (pipes_of to) k) lane) (sym (first_key (λ (p : PortState). p.number) t.ports m from b)) ∙ l.1)

  pub state_there : (n m lane : ℕ) (to from : PortState) → port_in t.ports n ≡ Some to → port_in t.ports m ≡ Some from → to.role ≡ other_role from.role
      → lane < states_of from → (r : RequestState) × (state_on t.ports (record { sender = n; receiver = m; lane = lane }) ≡ Some r)
  state_there n m lane to from a b roles low =
      let width = order.widths n m to from a b roles in
      let r = there_below (states_from (pipes_of to) from.number) lane (subst (λ k. lane < k) (sym width.states) low) in
      (r.0, ap (λ o. slice_get (states_from (option_map_or pipes_of o []) m) lane) a ∙ ap (λ k. slice_get (states_from (pipes_of to) k) lane) (sym (first_key (λ (p : PortState). p.number) t.ports m from b)) ∙ r.1)

  there_is : (n : ℕ) (p : PortState) → port_in t.ports n ≡ Some p → is_there t.ports n ≡ true
  there_is n p e = ap is_some e

  module _ (x : Given) (node n : ℕ) (h : HandleState) (named : IsHandle t node n h) where
    pub of_port : IsOfPort t h
    of_port = handle_is (IsOfPort t) t.handles node n h order.ports named.there

    pub alone : is_loan h.kind ≡ true → (slot_at t.pools h.pool h.slot).holders ≡ 1
    alone = handle_is (λ k. is_loan k.kind ≡ true → (slot_at t.pools k.pool k.slot).holders ≡ 1) t.handles node n h order.alone named.there

    -- each lane from the loan's port takes the loan's message
    pub open_to_new : is_loan h.kind ≡ true → is_own h.kind ≡ true → (w : Way) (l : LaneState) → w.sender ≡ h.port → lane_on t.ports w ≡ Some l
        → IsOpenToNew x t h.pool h.slot w l
    open_to_new loan own w l from there =
        let port : port_in t.ports w.sender ≡ Some of_port.port = ap (port_in t.ports) from ∙ of_port.there in
        let lane : IsLaneOf t of_port.port l = order.lanes w l of_port.port there port in
        let pool : l.pool ≡ h.pool = lane.of_pool ∙ sym (of_port.of_pool own) in record {
          open_to = record {
            of_pool = pool;
            sender = there_is w.sender of_port.port port;
            buffer = lane.buffer ∙ sym (ap (λ o. buffer_from t.settings (option_map_or (λ (p : PortState). p.role) o Client)) port);
          };
          once = once_delivered t order node n h named.there (alone loan) x w l there pool;
        }

    -- ---- requests

    module _ (kind : is_request_loan h.kind ≡ true) where
      own_request : is_own h.kind ≡ true
      own_request = request_own (is_request_loan h.kind) _ kind

      client_role : of_port.port.role ≡ Client
      client_role = of_port.role ∙ ap (λ (b : Bool). if b || (same_kind h.kind kinds.PendingResponse || same_kind h.kind kinds.Response) then Client else Server) kind

      abbrev y : Sending
      y = request_sending x t h

      targets_are : targets y ≡ map (request_way h.port) (numbers_of_role Server t.ports)
      targets_are = ap (λ (b : Bool). if b then map (request_way h.port) y.to else map (λ client. response_way client y.loan.lane h.port) y.to) kind

      opens_are : to_open y ≡ map (response_way h.port (lane_of t h)) (numbers_of_role Server t.ports)
      opens_are = ap (λ (b : Bool). if b then map (response_way h.port (lane_of t h)) y.to else []) kind

      to_server : (w : Way) → IsAmong w (map (request_way h.port) (numbers_of_role Server t.ports))
          → (l : LaneState) × (lane_on t.ports w ≡ Some l) × IsOpenToNew x t h.pool h.slot w l
      to_server w among =
          let m = map-among (request_way h.port) w (numbers_of_role Server t.ports) among in
          let p = of_role Server m.0 m.1 in
          let l = lane_there m.0 h.port 0 p.0 of_port.port p.1 of_port.there (p.2 ∙ sym (ap other_role client_role))
          (subst (λ (r : Role). 0 < (if is_client r then p.0.size else 1)) (sym p.2) (omega arith)) in
          let there : lane_on t.ports w ≡ Some l.0 = ap (lane_on t.ports) m.2 ∙ l.1 in
          (l.0, there, open_to_new (request_own (is_request_loan h.kind) _ kind) own_request w l.0 (ap (λ (v : Way). v.sender) m.2) there)

      state_of_server : (w : Way) → IsAmong w (map (response_way h.port (lane_of t h)) (numbers_of_role Server t.ports))
          → (r : RequestState) × (state_on t.ports w ≡ Some r) × IsOpenable t w r
      state_of_server w among =
          let m = map-among (response_way h.port (lane_of t h)) w (numbers_of_role Server t.ports) among in
          let p = of_role Server m.0 m.1 in
          let r = state_there m.0 h.port (lane_of t h) p.0 of_port.port p.1 of_port.there (p.2 ∙ sym (ap other_role client_role))
          (subst (λ (c : Role). lane_of t h < (if is_client c then of_port.port.size else 0)) (sym client_role) (of_port.lane own_request client_role)) in
          (r.0, ap (state_on t.ports) m.2 ∙ r.1, there_is w.receiver of_port.port (ap (λ (v : Way). port_in t.ports v.receiver) m.2 ∙ of_port.there))

      pub request_may_be_sent : MaySendFrom x t y h.pool h.slot
      request_may_be_sent = record {
        message = refl;
        apart = subst AreDistinctWays (sym targets_are) (apart_map (request_way h.port) (λ w. w.receiver) (λ k. refl) (numbers_of_role Server t.ports) (roles_apart Server));
        states_apart = subst AreDistinctWays (sym opens_are) (apart_map (response_way h.port (lane_of t h)) (λ w. w.sender) (λ k. refl) (numbers_of_role Server t.ports) (roles_apart Server));
        once = λ w l there. once_on t order x w l there;
        lanes = subst (OnEach (IsOpenToNew x t h.pool h.slot) (lane_on t.ports)) (sym targets_are) (on_each (IsOpenToNew x t h.pool h.slot) (lane_on t.ports) _ to_server);
        states = subst (OnEach (IsOpenable t) (state_on t.ports)) (sym opens_are) (on_each (IsOpenable t) (state_on t.ports) _ state_of_server);
      }

    -- ---- responses

    module _ (kind : is_response_loan h.kind ≡ true) (awaited : is_awaited (state_shown x t) (handle_shown x t h) ≡ true) where
      own_response : is_own h.kind ≡ true
      own_response = response_own (is_request_loan h.kind) (is_response_loan h.kind) _ kind

      server_role : of_port.port.role ≡ Server
      server_role = of_port.role ∙ server_kind h.kind kind

      abbrev z : Sending
      z = response_sending x t h

      abbrev its_way : Way
      its_way = response_way h.client (lane_of t h) h.port

      not_request : is_request_loan h.kind ≡ false
      not_request = response_kind h.kind kind

      one_target : targets z ≡ its_way ∷ []
      one_target = ap (λ (b : Bool). if b then map (request_way h.port) z.to else map (λ client. response_way client z.loan.lane h.port) z.to) not_request

      none_opened : to_open z ≡ []
      none_opened = ap (λ (b : Bool). if b then map (response_way h.port (lane_of t h)) z.to else []) not_request

      both : (a b : Bool) → (a && b) ≡ true → (a ≡ true) × (b ≡ true)
      both true b e = (refl, e)
      both false b e = absurd (true≢false (sym e))

      clients : others (fixed_of x t) h.node Client ≡ numbers_of_role Client t.ports
      clients = others_are_all (fixed_of x t) h.node Client refl ∙ roles_are x t.ports Client

      the_client : (p : PortState) × (port_in t.ports h.client ≡ Some p) × (p.role ≡ Client)
      the_client =
          of_role Client h.client
          (number-among h.client (numbers_of_role Client t.ports)
          (sym (ap (has_number h.client) clients) ∙ (both (has_number h.client (others (fixed_of x t) h.node Client)) _ awaited).0))

      named_state : (b : Bool) (o : Option RequestState) → names (if b then option_map_or (λ r. r) o Closed else Closed) (handle_shown x t h).request ≡ true
          → (r : RequestState) × (o ≡ Some r)
      named_state true (Some r) e = (r, refl)
      named_state true None e = absurd (true≢false (sym e))
      named_state false o e = absurd (true≢false (sym e))

      the_state : (r : RequestState) × (state_on t.ports its_way ≡ Some r)
      the_state = named_state _ (state_on t.ports its_way) (both (has_number h.client (others (fixed_of x t) h.node Client)) _ awaited).1

      low : lane_of t h < the_client.0.size
      low =
          let c = the_client in
          let width = order.widths h.port h.client of_port.port c.0 of_port.there c.1 (server_role ∙ sym (ap other_role c.2)) in
          let there = slice_get_within (states_from (pipes_of of_port.port) c.0.number) (lane_of t h) the_state.0
          (ap (λ k. slice_get (states_from (pipes_of of_port.port) k) (lane_of t h)) (first_key (λ (p : PortState). p.number) t.ports h.client c.0 c.1)
          ∙ sym (ap (λ o. slice_get (states_from (option_map_or pipes_of o []) h.client) (lane_of t h)) of_port.there) ∙ the_state.1) in
          subst (λ (r : Role). lane_of t h < (if is_client r then c.0.size else 0)) c.2 (subst (λ k. lane_of t h < k) width.states there)

      to_client : (l : LaneState) × (lane_on t.ports its_way ≡ Some l) × IsOpenToNew x t h.pool h.slot its_way l
      to_client =
          let c = the_client in
          let l = lane_there h.client h.port (lane_of t h) c.0 of_port.port c.1 of_port.there (c.2 ∙ sym (ap other_role server_role))
          (subst (λ (r : Role). lane_of t h < (if is_client r then c.0.size else 1)) (sym c.2) low) in
          (l.0, l.1, open_to_new (response_loan (is_request_loan h.kind) (is_response_loan h.kind) kind) own_response its_way l.0 refl l.1)

      pub response_may_be_sent : MaySendFrom x t z h.pool h.slot
      response_may_be_sent = record {
        message = refl;
        apart = subst AreDistinctWays (sym one_target) (refl, tt);
        states_apart = subst AreDistinctWays (sym none_opened) tt;
        once = λ w l there. once_on t order x w l there;
        lanes = subst (OnEach (IsOpenToNew x t h.pool h.slot) (lane_on t.ports)) (sym one_target) (to_client, tt);
        states = subst (OnEach (IsOpenable t) (state_on t.ports)) (sym none_opened) tt;
      }

pub requests_may_be_sent : RequestsMayBeSent
requests_may_be_sent x t node n h order named kind = request_may_be_sent t order x node n h named kind

pub responses_may_be_sent : ResponsesMayBeSent
responses_may_be_sent x t node n h order named kind awaited = response_may_be_sent t order x node n h named kind awaited
