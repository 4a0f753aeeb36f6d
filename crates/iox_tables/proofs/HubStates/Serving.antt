-- The receives of servers and of pending responses.
use Rattle.std.specs.Prelude.{◌≡◌, ℕ, ◌<◌, ◌^◌, Bool, true, false, not, ◌||◌, ◌&&◌, if◌then◌else◌, ◌==◌, List, [], ◌∷◌, ◌++◌, length, map, Option, Some, None, slice_get, refl}
use Rattle.std.specs.Option.{option_map, option_map_or}
use Rattle.std.proofs.Common.{sym, ap, ap₂, subst, ◌∙◌, append_assoc, eqb-true}
use Rattle.std.proofs.lemmas.List.{map-append}
use Rattle.std.proofs.lemmas.Option.{none-some}
use Rattle.iox_model.specs.declared.way.Way.{Way}
use Rattle.iox_model.specs.declared.way.RequestState.{RequestState}
use Rattle.iox_model.specs.declared.way.RequestState.TheVariants.{Closed}
use Rattle.iox_model.specs.declared.kind.Kind.{Kind}
use Rattle.iox_model.specs.declared.kind.Role.{Role}
use Rattle.iox_model.specs.declared.kind.Role.TheVariants.{Client, Server}
use Rattle.iox_model.specs.declared.call.Call.TheVariants.{Receive}
use Rattle.iox_model.specs.declared.reply.Refusal.TheVariants.{ForeignNumber, WrongKind}
use Rattle.iox_model.specs.Doings.{Receiver}
use Rattle.iox_model.specs.Handles.{ThePort, TheHandle, handle_at, kind_of, port_or_handle, subject}
use Rattle.iox_model.specs.Maps.{has_number, or_else, put_at, refused_if, AreDistinct}
use Rattle.iox_model.specs.Messages.{names, request_way, response_way}
use Rattle.iox_model.specs.Names.{misnamed, misnamed_by, suits}
use Rattle.iox_model.specs.Peers.{is_connected_port, others, port_at, ports_of_role}
use Rattle.iox_model.specs.Receives.{pending_ways, server_ways}
use Rattle.iox_model.specs.Settings.{other_role}
use Rattle.iox_model.specs.States as m
use Rattle.iox_laws.proofs.WeaveLaws.MapLemmas.{eqb-refl, others_are_all}
use Rattle.iox_laws.specs.CallFunctions.Searches.{fits}
use Rattle.iox_laws.specs.CallFunctions.Searches as calls
use Rattle.iox_lanes.specs.declared.wanted.Wanted.{Wanted}
use Rattle.iox_lanes.specs.declared.wanted.Wanted.TheVariants.{Of}
use Rattle.iox_lanes.specs.Lanes.{LaneState}
use Rattle.iox_lanes.specs.Pipes.{PipeState}
use Rattle.iox_lanes.specs.Searches.{is_wanted}
use Rattle.iox_tables.specs.HubStates.Tables.{HandleState, HubTables, PortState, labels_of, pipes_of, pipes_to, port_in, senders_of}
use Rattle.iox_tables.specs.HubStates.Ways.{lane_by, lane_on, state_on, states_from}
use Rattle.iox_tables.specs.HubStates.States.{Given, fixed_of, handle_of, message_of, port_of, state_shown}
use Rattle.iox_tables.specs.HubStates.Wirings.{HaveLimits, IsPending, IsServer, IsWired, handle_in, numbers_of_role}
use Rattle.iox_tables.specs.HubStates.Receives.{ResponsesAreReceived, ServersReceive, request_reply, response_reply, with_request, with_response, way_to, ways_to, wanted_by_server}
use Rattle.iox_tables.proofs.HubStates.Fixing.{connected_is, find_handle, find_port, first_key, limit_is, roles_are}
use Rattle.iox_tables.proofs.HubStates.Pipes.{lane_there, none_before, pipe_there, put_at_same}
use Rattle.iox_tables.proofs.HubStates.Receiving.{received_is}
use Rattle.iox_tables.proofs.HubStates.Visits.{AllFit}

-- ---- lists

append_none : (ns : List ℕ) → ns ++ [] ≡ ns
append_none [] = refl
append_none (k ∷ ks) = ap (λ ns. k ∷ ns) (append_none ks)

-- a number in the midst of numbers
pub has_middle : (xs ys : List ℕ) (n : ℕ) → has_number n (xs ++ n ∷ ys) ≡ true
has_middle [] ys n = ap (λ b. b || has_number n ys) (eqb-refl n)
has_middle (x ∷ xs) ys n = ap (λ b. (x == n) || b) (has_middle xs ys n) ∙ or_true (x == n)
  where
    or_true : (b : Bool) → (b || true) ≡ true
    or_true true = refl
    or_true false = refl

-- ---- whatever receives

module _ (x : Given) (t : HubTables) (n lane request : ℕ) (role : Role) (wanted : Wanted) (port : PortState) (there : port_in t.ports n ≡ Some port)
    (limits : HaveLimits t) (apart : AreDistinct (senders_of (pipes_to t.ports n))) where
  abbrev r : Receiver
  r = record { port = n; role = role; lane = lane; request = request }

  abbrev ps : List PipeState
  ps = pipes_to t.ports n

  -- the lane of a pipe is that of its way
  pub lane_is : (done qs : List PipeState) (q : PipeState) → ps ≡ done ++ q ∷ qs → lane_on t.ports (way_to r q.sender) ≡ slice_get q.lanes lane
  lane_is done qs q is =
      ap (λ pipes. lane_by pipes (way_to r q.sender)) (sym (ap (put_at (pipes_to t.ports) n) (sym is) ∙ put_at_same (pipes_to t.ports) n))
      ∙ lane_there (pipes_to t.ports) n lane done qs q (none_before done qs q (subst (λ zs. AreDistinct (senders_of zs)) is apart))

  -- the tests of a pipe are the machine's
  abbrev TestsOf : PipeState → Type 0
  TestsOf q =
      (l : LaneState) → slice_get q.lanes lane ≡ Some l → (k : ℕ)
      → fits (state_shown x t) r (way_to r q.sender) (message_of x t.pools l.pool k) ≡ is_wanted wanted q.states (labels_of t.pools l.pool) k

  all_fit : (done qs : List PipeState) → ps ≡ done ++ qs → ((ds rs : List PipeState) (q : PipeState) → ps ≡ ds ++ q ∷ rs → TestsOf q)
      → AllFit x.members (fixed_of x t) (message_of x t.pools) (state_on t.ports) (pipes_to t.ports) r wanted (labels_of t.pools) (λ k. refl) qs
  all_fit done [] is tests = tt
  all_fit done (q ∷ qs) is tests = (
    record {
      tests = tests done qs q is;
      limit = λ l at. limit_is x t (way_to r q.sender) ∙ sym (limits (way_to r q.sender) l (lane_is done qs q is ∙ at));
      borrowed = ap (λ o. option_map_or (λ l. length l.taken) o 0) (lane_is done qs q is);
    },
    all_fit (done ++ q ∷ []) qs (is ∙ sym (append_assoc done (q ∷ []) qs)) tests,
  )

-- ---- servers

module _ (x : Given) (t : HubTables) (node n : ℕ) (server : IsServer t node n) (wired : IsWired t server.port) where
  abbrev f : m.Fixed
  f = fixed_of x t

  abbrev qs : List PipeState
  qs = pipes_to t.ports n

  abbrev to : Receiver
  to = record { port = n; role = Server; lane = 0; request = 0 }

  number_is : server.port.number ≡ n
  number_is = first_key (λ p. p.number) t.ports n server.port server.there

  at_port : port_at f n ≡ Some (port_of x server.port)
  at_port = find_port x t.ports n ∙ ap (option_map (port_of x)) server.there

  subject_is : subject f node n ≡ Some (ThePort (port_of x server.port))
  subject_is = ap (λ (o : Option m.Port). port_or_handle o (handle_at f node n)) at_port ∙ ap (λ b. if b then Some (ThePort (port_of x server.port)) else None) server.held

  named : misnamed f node (Receive n) ≡ None
  named = ap (misnamed_by f node (Receive n)) subject_is
      ∙ ap₂ (λ (k : ℕ) (role : Role). or_else (refused_if (not (k == node)) ForeignNumber) (refused_if (not (suits false (Receive n) (kind_of (ThePort (record (port_of x server.port) { role = role }))))) WrongKind)) server.on_node server.server
      ∙ ap (λ c. or_else (refused_if (not c) ForeignNumber) None) (eqb-refl node)

  pub pipes_is : pipes_of server.port ≡ qs
  pipes_is = ap (λ o. option_map_or pipes_of o []) (sym server.there)

  pub distinct : AreDistinct (senders_of qs)
  distinct = subst (λ zs. AreDistinct (senders_of zs)) pipes_is wired.apart

  clients_are : ports_of_role f Client ≡ senders_of server.port.incoming.pipes
  clients_are = roles_are x t.ports Client ∙ ap (λ role. numbers_of_role (other_role role) t.ports) (sym server.server) ∙ sym wired.senders

  expired_is : f.expired server.port.number ≡ senders_of server.port.expired.pipes
  expired_is = ap (λ o. option_map_or (λ (p : PortState). senders_of p.expired.pipes) o []) (ap (port_in t.ports) number_is ∙ server.there)

  -- whom it visits
  visited_are : (c : Bool) → t.settings.fire_and_forget ≡ c
      → (if c then f.expired server.port.number ++ ports_of_role f Client else others f server.port.node Client) ≡ senders_of qs
  visited_are true e =
      ap₂ (λ ks js. ks ++ js) expired_is clients_are
      ∙ sym (map-append (λ (p : PipeState). p.sender) server.port.expired.pipes server.port.incoming.pipes) ∙ ap senders_of pipes_is
  visited_are false e =
      others_are_all f server.port.node Client refl ∙ clients_are
      ∙ ap (λ zs. senders_of (zs ++ server.port.incoming.pipes)) (sym (wired.none_kept server.server e)) ∙ ap senders_of pipes_is

  ways_of : (zs : List PipeState) → map (λ client. request_way client n) (senders_of zs) ≡ ways_to to zs
  ways_of [] = refl
  ways_of (z ∷ zs) = ap (λ ws. request_way z.sender n ∷ ws) (ways_of zs)

  pub ways_are : server_ways f (port_of x server.port) ≡ ways_to to qs
  ways_are =
      ap₂ (λ (ns : List ℕ) (k : ℕ). map (λ client. request_way client k) ns) (visited_are t.settings.fire_and_forget refl) number_is ∙ ways_of qs

  from_is : calls.received_from (state_shown x t) (subject f node n) ≡ calls.visited (state_shown x t) to (ways_to to qs) false
  from_is =
      ap (calls.received_from (state_shown x t)) subject_is
      ∙ ap₂ (λ (k : ℕ) (ws : List Way). calls.visited (state_shown x t) (record { port = k; role = Server; lane = 0; request = 0 }) ws false) number_is ways_are

  -- who sends there is connected, where no pipe is kept
  connected : (ds rs : List PipeState) (q : PipeState) → qs ≡ ds ++ q ∷ rs → t.settings.fire_and_forget ≡ false → is_connected_port f q.sender ≡ true
  connected ds rs q is e =
      connected_is x t.ports Client q.sender
      (ap (has_number q.sender)
      (sym (roles_are x t.ports Client) ∙ clients_are ∙ ap (λ zs. senders_of (zs ++ server.port.incoming.pipes)) (sym (wired.none_kept server.server e)) ∙ ap senders_of (pipes_is ∙ is)
      ∙ map-append (λ (p : PipeState). p.sender) ds (q ∷ rs))
      ∙ has_middle (senders_of ds) (senders_of rs) q.sender)

  tests_are : (limits : HaveLimits t) (ds rs : List PipeState) (q : PipeState) → qs ≡ ds ++ q ∷ rs → TestsOf x t n 0 0 Server (wanted_by_server t.settings.fire_and_forget) server.port server.there limits distinct q
  tests_are limits ds rs q is l at k = by_rule t.settings.fire_and_forget refl
    where
      lane : ℕ
      lane = (labels_of t.pools l.pool k).lane

      states_are : states_from qs q.sender ≡ q.states
      states_are =
          ap (λ zs. states_from zs q.sender) is
          ∙ ap (λ o. option_map_or (λ p. p.states) o []) (pipe_there ds rs q (none_before ds rs q (subst (λ zs. AreDistinct (senders_of zs)) is distinct)))

      by_rule : (c : Bool) → t.settings.fire_and_forget ≡ c
          → (c || names (if is_connected_port f q.sender then option_map_or (λ s. s) (slice_get (states_from qs q.sender) (labels_of t.pools l.pool k).lane) Closed else Closed) (labels_of t.pools l.pool k).request)
          ≡ is_wanted (wanted_by_server c) q.states (labels_of t.pools l.pool) k
      by_rule true e = refl
      by_rule false e =
          ap₂ (λ (b : Bool) (ss : List RequestState). names (if b then option_map_or (λ s. s) (slice_get ss (labels_of t.pools l.pool k).lane) Closed else Closed) (labels_of t.pools l.pool k).request)
          (connected ds rs q is e) states_are

  pub server_receives : HaveLimits t → t.calls < 2 ^ 56 → calls.received (state_shown x t) node n ≡ (request_reply t n, state_shown x (with_request t node n))
  server_receives limits below =
      received_is x t n 0 0 Server (wanted_by_server t.settings.fire_and_forget) server.port server.there node n below named from_is
      (all_fit x t n 0 0 Server (wanted_by_server t.settings.fire_and_forget) server.port server.there limits distinct [] qs refl (tests_are limits)) distinct

pub servers_receive : ServersReceive
servers_receive x t node n server wired limits below = server_receives x t node n server wired limits below

-- ---- pending responses

module _ (x : Given) (t : HubTables) (node n : ℕ) (pending : IsPending t node n) (wired : IsWired t pending.port) where
  abbrev g : m.Fixed
  g = fixed_of x t

  abbrev h : HandleState
  h = pending.handle

  abbrev lane_of : ℕ
  lane_of = (labels_of t.pools h.pool h.slot).lane

  abbrev id : ℕ
  id = (labels_of t.pools h.pool h.slot).request

  abbrev zs : List PipeState
  zs = pipes_to t.ports h.port

  abbrev by : Receiver
  by = record { port = h.port; role = Client; lane = lane_of; request = id }

  abbrev shown_handle : m.Handle
  shown_handle = handle_of x (message_of x t.pools) h

  pub subject_of : subject g node n ≡ Some (TheHandle shown_handle)
  subject_of =
      ap₂ port_or_handle (find_port x t.ports n ∙ ap (option_map (port_of x)) pending.named.no_port)
      (find_handle x (message_of x t.pools) t.handles node n ∙ ap (option_map (handle_of x (message_of x t.pools))) pending.named.there)

  handle_node : (hs : List HandleState) → handle_in hs node n ≡ Some h → h.node ≡ node
  handle_node [] e = absurd (none-some h e)
  handle_node (k ∷ ks) e = step (k.node == node) (k.number == n) refl (handle_node ks) e
    where
      step : (a b : Bool) → (k.node == node) ≡ a → (handle_in ks node n ≡ Some h → h.node ≡ node) → (if a && b then Some k else handle_in ks node n) ≡ Some h → h.node ≡ node
      step true true is more e = ap (λ (o : Option HandleState). option_map_or (λ z. z.node) o node) (sym e) ∙ eqb-true k.node node is
      step true false is more e = more e
      step false b is more e = more e

  named_is : misnamed g node (Receive n) ≡ None
  named_is = ap (misnamed_by g node (Receive n)) subject_of
      ∙ ap₂ (λ (k : ℕ) (kind : Kind). or_else (refused_if (not (k == node)) ForeignNumber) (refused_if (not (suits false (Receive n) kind)) WrongKind))
      (handle_node t.handles pending.named.there) pending.kind
      ∙ ap (λ c. or_else (refused_if (not c) ForeignNumber) None) (eqb-refl node)

  pub pipes_at : pipes_of pending.port ≡ zs
  pipes_at = ap (λ o. option_map_or pipes_of o []) (sym pending.there)

  pub distinct_at : AreDistinct (senders_of zs)
  distinct_at = subst (λ qs. AreDistinct (senders_of qs)) pipes_at wired.apart

  senders_at : g.expired h.port ++ ports_of_role g Server ≡ senders_of zs
  senders_at =
      ap₂ (λ ks js. ks ++ js) (ap (λ o. option_map_or (λ (p : PortState). senders_of p.expired.pipes) o []) pending.there)
      (roles_are x t.ports Server ∙ ap (λ role. numbers_of_role (other_role role) t.ports) (sym pending.client) ∙ sym wired.senders)
      ∙ sym (map-append (λ (p : PipeState). p.sender) pending.port.expired.pipes pending.port.incoming.pipes) ∙ ap senders_of pipes_at

  ways_from : (qs : List PipeState) → map (response_way h.port lane_of) (senders_of qs) ≡ ways_to by qs
  ways_from [] = refl
  ways_from (q ∷ qs) = ap (λ ws. response_way h.port lane_of q.sender ∷ ws) (ways_from qs)

  pub pending_ways_are : pending_ways g shown_handle ≡ ways_to by zs
  pending_ways_are = ap (map (response_way h.port lane_of)) senders_at ∙ ways_from zs

  from_at : calls.received_from (state_shown x t) (subject g node n) ≡ calls.visited (state_shown x t) by (ways_to by zs) false
  from_at =
      ap (calls.received_from (state_shown x t)) subject_of
      ∙ ap (λ ws. calls.visited (state_shown x t) by ws false) (ap (map (response_way h.port lane_of)) senders_at ∙ ways_from zs)

  pub pending_receives : HaveLimits t → t.calls < 2 ^ 56 → calls.received (state_shown x t) node n ≡ (response_reply t h, state_shown x (with_response t node h))
  pending_receives limits below =
      received_is x t h.port lane_of id Client (Of id) pending.port pending.there node n below named_is from_at
      (all_fit x t h.port lane_of id Client (Of id) pending.port pending.there limits distinct_at [] zs refl (λ ds rs q is l at k. refl)) distinct_at

pub responses_are_received : ResponsesAreReceived
responses_are_received x t node n pending wired limits below = pending_receives x t node n pending wired limits below
