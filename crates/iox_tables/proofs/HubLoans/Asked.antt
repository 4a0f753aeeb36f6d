-- What is asked of handles.
use Rattle.std.specs.Prelude.{◌≡◌, ℕ, Bool, true, false, not, ◌&&◌, ◌||◌, if◌then◌else◌, ◌==◌, List, [], ◌∷◌, ◌++◌, map, filter, Option, Some, None, refl}
use Rattle.std.specs.List.{list_any}
use Rattle.std.specs.Option.{option_map, option_map_or}
use Rattle.std.proofs.Common.{sym, ap, ap₂, ◌∙◌, eqb-true}
use Rattle.iox_model.specs.declared.kind.Kind.{Kind}
use Rattle.iox_model.specs.declared.kind.Kind.TheVariants.{ActiveRequest, PendingResponse}
use Rattle.iox_model.specs.declared.kind.Role.TheVariants.{Client, Server}
use Rattle.iox_model.specs.declared.call.Call.TheVariants.{HasHint, IsConnected, Read}
use Rattle.iox_model.specs.declared.reply.Refusal.TheVariants.{WantOfMemory, WrongKind}
use Rattle.iox_model.specs.declared.reply.Reply.TheVariants.{Answer, Words}
use Rattle.iox_model.specs.declared.way.Way.{Way}
use Rattle.iox_model.specs.Commands.{Call, Refusal, Reply, number_of}
use Rattle.iox_model.specs.Doings.{Outcome, Tells}
use Rattle.iox_model.specs.Handles.{Subject, ThePort, kind_of, node_of, own_state, port_or_handle, same_kind, subject}
use Rattle.iox_model.specs.Maps.{has_number, refused_if}
use Rattle.iox_model.specs.Messages.{names, response_way}
use Rattle.iox_model.specs.Names.{misnamed, suits}
use Rattle.iox_model.specs.Peers.{others}
use Rattle.iox_model.specs.Releases.{states_of}
use Rattle.iox_model.specs.States as m
use Rattle.iox_model.specs.Values.{is_still}
use Rattle.iox_laws.proofs.WeaveLaws.MapLemmas.{eqb-refl, others_are_all}
use Rattle.iox_laws.specs.CallFunctions.Answers.{answered, of_handle, refusing, unless}
use Rattle.iox_laws.specs.CallFunctions.Contents.{words_told}
use Rattle.iox_laws.specs.CallFunctions.Looks.{asked_of}
use Rattle.iox_tables.specs.HubStates.Tables.{HandleState, HubTables, PortState, port_in}
use Rattle.iox_tables.specs.HubStates.States.{Given, fixed_of, handle_of, message_of, port_of, state_shown}
use Rattle.iox_tables.specs.HubStates.Releases.{handle_shown, lane_of, request_of}
use Rattle.iox_tables.specs.HubStates.Steps.{is_there}
use Rattle.iox_tables.specs.HubStates.Wirings.{IsHandle, handle_in, numbers_of_role}
use Rattle.iox_tables.proofs.HubStates.Fixing.{find_handle, find_port, roles_are}
use Rattle.iox_tables.proofs.HubStates.Fixing as fixing
use Rattle.iox_tables.proofs.HubStates.Naming.{each_handle_is_named, handle_node}
use Rattle.iox_tables.proofs.HubStates.Sending.{states_are_shown}
use Rattle.iox_tables.proofs.HubStates.Steps.{connected_is}
use Rattle.iox_tables.specs.HubLoans.Questions.{AwaitedAreNamed, ConnectionsAreTold, EachIsRead, EachValueIsThere, HintsAreTold, has_client, is_named, is_named_by_client, is_named_by_server, kind_by, kind_in, names_request, state_of}

-- ---- request states

module _ (x : Given) (t : HubTables) (h : HandleState) where
  abbrev s : m.State
  s = state_shown x t

  abbrev f : m.Fixed
  f = fixed_of x t

  abbrev mh : m.Handle
  mh = handle_shown x t h

  abbrev own : Way
  own = response_way h.client (lane_of t h) h.port

  clients_are : others f h.node Client ≡ numbers_of_role Client t.ports
  clients_are = others_are_all f h.node Client refl ∙ roles_are x t.ports Client

  client_there : has_client t h ≡ true → is_there t.ports h.client ≡ true
  client_there e = sym (connected_is x t.ports h.client) ∙ fixing.connected_is x t.ports Client h.client e

  -- the state of its own way, where its client is there
  own_is : (hinted : Bool) (b : Bool) → has_client t h ≡ b
      → (b && names_request hinted mh.request (s.request_state own)) ≡ (b && names_request hinted (request_of t h) (state_of t own))
  own_is hinted true e = ap (names_request hinted (request_of t h)) (states_are_shown x t own (client_there e))
  own_is hinted false e = refl

  pub awaited : (has_number h.client (others f h.node Client) && names (s.request_state (own_state mh)) mh.request) ≡ is_named_by_client t h false
  awaited =
      ap (λ ns. has_number h.client ns && names (s.request_state own) mh.request) clients_are
      ∙ own_is false (has_client t h) refl

  -- all states that an active request looks at are its own
  one_state : (hinted : Bool) (ns : List ℕ)
      → list_any (λ w. names_request hinted mh.request (s.request_state w)) (map (λ client. response_way client (lane_of t h) h.port) (filter (λ client. client == h.client) ns))
      ≡ (has_number h.client ns && names_request hinted mh.request (s.request_state own))
  one_state hinted [] = refl
  one_state hinted (n ∷ ns) = step (n == h.client) refl (one_state hinted ns)
    where
      own_named : Bool
      own_named = names_request hinted mh.request (s.request_state own)

      both : (a b : Bool) → (a || (b && a)) ≡ a
      both true b = refl
      both false true = refl
      both false false = refl

      step : (b : Bool) → (n == h.client) ≡ b
          → list_any (λ w. names_request hinted mh.request (s.request_state w)) (map (λ client. response_way client (lane_of t h) h.port) (filter (λ client. client == h.client) ns))
          ≡ (has_number h.client ns && names_request hinted mh.request (s.request_state own))
          → list_any (λ w. names_request hinted mh.request (s.request_state w)) (map (λ client. response_way client (lane_of t h) h.port) (if b then n ∷ filter (λ client. client == h.client) ns else filter (λ client. client == h.client) ns))
          ≡ ((b || has_number h.client ns) && names_request hinted mh.request (s.request_state own))
      step true is e =
          ap₂ (λ a b. a || b) (ap (λ k. names_request hinted mh.request (s.request_state (response_way k (lane_of t h) h.port))) (eqb-true n h.client is)) e
          ∙ both (names_request hinted mh.request (s.request_state own)) (has_number h.client ns)
      step false is e = e

  abbrev own_ways : List Way
  own_ways = map (λ client. response_way client (lane_of t h) h.port) (filter (λ client. client == h.client) (others f h.node Client))

  abbrev any_named : Bool → List Way → Bool
  any_named hinted ws = list_any (λ w. names_request hinted mh.request (s.request_state w)) ws

  by_client : (hinted : Bool) → any_named hinted own_ways ≡ is_named_by_client t h hinted
  by_client hinted =
      one_state hinted (others f h.node Client)
      ∙ ap (λ ns. has_number h.client ns && names_request hinted mh.request (s.request_state own)) clients_are
      ∙ own_is hinted (has_client t h) refl

  -- the states that a pending response looks at
  each_state : (hinted : Bool) → is_there t.ports h.port ≡ true → (ns : List ℕ)
      → any_named hinted (map (response_way h.port (lane_of t h)) ns)
      ≡ list_any (λ w. names_request hinted (request_of t h) (state_of t w)) (map (response_way h.port (lane_of t h)) ns)
  each_state hinted there [] = refl
  each_state hinted there (n ∷ ns) =
      ap₂ (λ a b. a || b) (ap (names_request hinted (request_of t h)) (states_are_shown x t (response_way h.port (lane_of t h) n) there)) (each_state hinted there ns)

  by_server : (hinted : Bool) → is_there t.ports h.port ≡ true
      → any_named hinted (map (response_way h.port (lane_of t h)) (others f h.node Server)) ≡ is_named_by_server t h hinted
  by_server hinted there =
      ap (λ ns. any_named hinted (map (response_way h.port (lane_of t h)) ns)) (others_are_all f h.node Server refl ∙ roles_are x t.ports Server)
      ∙ each_state hinted there (numbers_of_role Server t.ports)

  pub all_named : (hinted : Bool) → is_there t.ports h.port ≡ true → any_named hinted (states_of f mh) ≡ is_named t h hinted
  all_named hinted there = step (same_kind h.kind PendingResponse)
    where
      step : (b : Bool) → any_named hinted (if b then map (response_way h.port (lane_of t h)) (others f h.node Server) else own_ways)
          ≡ (if b then is_named_by_server t h hinted else is_named_by_client t h hinted)
      step true = by_server hinted there
      step false = by_client hinted

  pub own_named : (hinted : Bool) → h.kind ≡ ActiveRequest → any_named hinted (states_of f mh) ≡ is_named_by_client t h hinted
  own_named hinted kind =
      ap (λ b. any_named hinted (if b then map (response_way h.port (lane_of t h)) (others f h.node Server) else own_ways)) (ap (λ k. same_kind k PendingResponse) kind)
      ∙ by_client hinted

pub awaited_are_named : AwaitedAreNamed
awaited_are_named x t h = awaited x t h

-- ---- questions

module _ (x : Given) (t : HubTables) (node n : ℕ) (h : HandleState) (is : IsHandle t node n h) where
  abbrev shows : m.State
  shows = state_shown x t

  abbrev tells : Reply → Reply × m.State
  tells r = (r, shows)

  -- a call of the handle that is neither refused by its kind nor counted
  pub asked : (call : Call) → number_of call ≡ n → suits false call h.kind ≡ true → (ask : m.Handle → Outcome × m.State)
      → unless (misnamed (fixed_of x t) node call) shows (unless None shows (answered shows node (of_handle shows (subject (fixed_of x t) node n) ask))) ≡ answered shows node (ask (handle_shown x t h))
  asked call at suit ask =
      ap (λ (o : Option Refusal). unless o shows (unless None shows (answered shows node (of_handle shows (subject (fixed_of x t) node n) ask))))
      ((each_handle_is_named x t node n h is).refused call at ∙ ap (λ b. refused_if (not b) WrongKind) suit)
      ∙ ap (λ (o : Option Subject). answered shows node (of_handle shows o ask)) (each_handle_is_named x t node n h is).names

pub connections_are_told : ConnectionsAreTold
connections_are_told x t node n h c payload is suit there =
    asked x t node n h is (IsConnected n) refl suit (asked_of (state_shown x t) false)
    ∙ ap (λ b. tells x t node n h is (Answer b)) (all_named x t h false there)

pub hints_are_told : HintsAreTold
hints_are_told x t node n h c payload is kind =
    asked x t node n h is (HasHint n) refl (ap (λ k. suits false (HasHint n) k) kind) (asked_of (state_shown x t) true)
    ∙ ap (λ b. tells x t node n h is (Answer b)) (own_named x t h true kind)

pub each_is_read : EachIsRead
each_is_read x t node n h is suit = record {
  told = λ c payload has.
      asked x t node n h is (Read n) refl suit (words_told (state_shown x t) c)
      ∙ ap (λ b. answered (state_shown x t) node (if b then (Tells (Words (mh.message.user ++ mh.message.payload)), state_shown x t) else refusing WantOfMemory (state_shown x t))) has;
  refused = λ c payload none.
      asked x t node n h is (Read n) refl suit (words_told (state_shown x t) c)
      ∙ ap (λ b. answered (state_shown x t) node (if b then (Tells (Words (mh.message.user ++ mh.message.payload)), state_shown x t) else refusing WantOfMemory (state_shown x t))) none;
}
  where
    mh : m.Handle
    mh = handle_shown x t h

-- ---- values

pub each_value_is_there : EachValueIsThere
each_value_is_there x t node n kind = record {
  has_it = by (λ k. same_kind k kind);
  still = by (is_still kind);
}
  where
    step : (test : Kind → Bool) (a : Option PortState) (b : Option HandleState) → (handle_in t.handles node n ≡ b)
        → option_map_or (λ x. (node_of x == node) && test (kind_of x)) (port_or_handle (option_map (port_of x) a) (option_map (handle_of x (message_of x t.pools)) b)) false
        ≡ option_map_or test (kind_by node a b) false
    step test (Some p) b e = by_held p.held (p.node == node)
      where
        by_held : (c d : Bool)
            → option_map_or (λ x. (node_of x == node) && test (kind_of x)) (if c then Some (ThePort (port_of x p)) else None) false
            ≡ option_map_or test (if c && (p.node == node) then Some (kind_of (ThePort (port_of x p))) else None) false
        by_held true d = by_node (p.node == node)
          where
            by_node : (d : Bool) → (d && test (kind_of (ThePort (port_of x p)))) ≡ option_map_or test (if d then Some (kind_of (ThePort (port_of x p))) else None) false
            by_node true = refl
            by_node false = refl
        by_held false d = refl
    step test None (Some h) e =
        ap (λ j. (j == node) && test h.kind) (handle_node t.handles node n h e) ∙ ap (λ b. b && test h.kind) (eqb-refl node)
    step test None None e = refl

    by : (test : Kind → Bool) → option_map_or (λ x. (node_of x == node) && test (kind_of x)) (subject (fixed_of x t) node n) false ≡ option_map_or test (kind_in t node n) false
    by test =
        ap₂ (λ a b. option_map_or (λ x. (node_of x == node) && test (kind_of x)) (port_or_handle a b) false) (find_port x t.ports n) (find_handle x (message_of x t.pools) t.handles node n)
        ∙ step test (port_in t.ports n) (handle_in t.handles node n) refl
