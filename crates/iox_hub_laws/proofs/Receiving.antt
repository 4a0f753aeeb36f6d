-- What a receive of a hub hands out came next, at its own request.
use Rattle.std.specs.Prelude.{◌≡◌, ℕ, Bool, true, false, ◌&&◌, ◌==◌, [], Option, Some, None, if◌then◌else◌, refl}
use Rattle.std.specs.Option.{option_map_or}
use Rattle.std.proofs.Common.{sym, ap, ap₂, subst, ◌∙◌, true≢false}
use Rattle.std.proofs.lemmas.Option.{none-some, same_Some}
use Rattle.iox_store.specs.Stored.{StoredMessage, unlent}
use Rattle.iox_model.specs.declared.call.Call.TheVariants.{Receive}
use Rattle.iox_model.specs.declared.kind.Kind.{Kind}
use Rattle.iox_model.specs.declared.kind.Kind.TheVariants as kinds
use Rattle.iox_model.specs.declared.kind.Role.{Role}
use Rattle.iox_model.specs.declared.kind.Role.TheVariants.{Client, Server}
use Rattle.iox_model.specs.declared.reply.Refusal.TheVariants.{UnknownNumber}
use Rattle.iox_model.specs.declared.reply.Reply.TheVariants as replies
use Rattle.iox_model.specs.declared.way.Way.{Way}
use Rattle.iox_model.specs.Begins.{begins_at}
use Rattle.iox_model.specs.Doings.{Receiver, refused}
use Rattle.iox_model.specs.Handles.{Subject, TheHandle, is_received, same_kind, subject}
use Rattle.iox_model.specs.Messages.{request_way, response_way}
use Rattle.iox_model.specs.Receives.{pending_ways, server_ways, visiting}
use Rattle.iox_model.specs.States as m
use Rattle.iox_model.specs.WholeCalls.{IsWholeCall}
use Rattle.iox_laws.proofs.RunLaws.Received.{requests_are_named, responses_name_their_request}
use Rattle.iox_hub.specs.Received.{Received}
use Rattle.iox_hub.specs.Received.TheVariants.{Handle, Nothing, AtLimit}
use Rattle.iox_hub.specs.Replies.{reply_of_receive}
use Rattle.iox_tables.specs.HubLoans.Questions.{kind_by, kind_in, kind_of_role}
use Rattle.iox_tables.specs.HubStates.Releases.{lane_of}
use Rattle.iox_tables.specs.HubStates.States.{Given, port_of}
use Rattle.iox_tables.specs.HubStates.Tables.{HandleState, HubTables, PortState, port_in}
use Rattle.iox_tables.specs.HubStates.Wirings.{IsHandle, IsServer, handle_in}
use Rattle.iox_tables.proofs.HubStates.Fixing.{first_key}
use Rattle.iox_tables.proofs.HubStates.Naming.{each_handle_is_named, each_port_is_named}
use Rattle.iox_hub.specs.Hubs.{HasReceived, HasValue, HubState, IsHub, given_by, state_of_hub}
use Rattle.iox_hub.specs.Words.{stored_in}
use Rattle.iox_hub.proofs.Named.{found_is_handle, server_is}
use Rattle.iox_hub_laws.specs.Receives.{IsAtItsRequest, TakesNext, TakesRequest, TakesResponse}
use Rattle.iox_hub_laws.specs.Shown.{handle_of}
use Rattle.iox_hub_laws.specs.Waiting.{CanCome, client_of, server_of}
use Rattle.iox_hub_laws.proofs.Came.{ComesOn, received_came}
use Rattle.iox_hub_laws.proofs.Next.{received_comes_next, same_handle}

-- ---- what a number names

-- a value of a received kind is a handle
record IsGot (t : HubTables) (node n : ℕ) (kind : Kind) : Type 0 where
  pub handle : HandleState
  pub named : IsHandle t node n handle
  pub kind_is : handle.kind ≡ kind

got_of : (t : HubTables) (node n : ℕ) (kind : Kind) → is_received kind ≡ true → kind_in t node n ≡ Some kind → IsGot t node n kind
got_of t node n kind received e = step (port_in t.ports n) refl (handle_in t.handles node n) refl e
  where
    no_role : (role : Role) → kind_of_role role ≡ kind → ⊥
    no_role Client h = true≢false (sym received ∙ ap is_received (sym h))
    no_role Server h = true≢false (sym received ∙ ap is_received (sym h))

    no_port : (p : PortState) (b : Bool) → (if b then Some (kind_of_role p.role) else None) ≡ Some kind → ⊥
    no_port p true h = no_role p.role (same_Some (kind_of_role p.role) kind h)
    no_port p false h = none-some kind h

    step : (o : Option PortState) → port_in t.ports n ≡ o → (q : Option HandleState) → handle_in t.handles node n ≡ q
        → kind_by node o q ≡ Some kind → IsGot t node n kind
    step (Some p) at q there h = absurd (no_port p (p.held && (p.node == node)) h)
    step None at (Some k) there h = record { handle = k; named = record { there = there; no_port = at }; kind_is = same_Some k.kind kind h }
    step None at None there h = absurd (none-some kind h)

-- ---- any receive

module _ (old new : HubState) (node n k : ℕ) (kind : Kind) (received : is_received kind ≡ true)
    (whole : (x : Given) → IsWholeCall (state_of_hub x old) node (Receive n) (replies.Handle k) (state_of_hub x new))
    (has : HasValue new node k kind) where
  abbrev t : HubTables
  t = new.control.tables

  got : IsGot t node k kind
  got = got_of t node k kind received has

  abbrev h : HandleState
  h = got.handle

  named : (x : Given) → subject (state_of_hub x new).fixed node k ≡ Some (TheHandle (handle_of new h))
  named x = (each_handle_is_named (given_by x new) t node k h got.named).names

  takes : TakesNext old new node k
  takes = record {
    handle = h;
    there = got.named.there;
    next = λ r. received_comes_next (state_of_hub r.0 old) (state_of_hub r.0 new) r.1 node n k (handle_of new h) (whole r.0) (named r.0);
    user = ap (λ (z : StoredMessage). z.user) same;
    payload = ap (λ (z : StoredMessage). z.payload) same;
  }
    where
      same : option_map_or (λ (j : HandleState). stored_in new.words j.pool j.slot) (handle_in t.handles node k) (unlent 0 []) ≡ stored_in new.words h.pool h.slot
      same = ap (λ o. option_map_or (λ (j : HandleState). stored_in new.words j.pool j.slot) o (unlent 0 [])) got.named.there

-- ---- a server's

request_taken : (old new : HubState) → IsHub old → (node server k : ℕ) → HasValue old node server kinds.Server
    → ((x : Given) → IsWholeCall (state_of_hub x old) node (Receive server) (replies.Handle k) (state_of_hub x new))
    → HasValue new node k kinds.ActiveRequest → TakesRequest old node server (Handle k) new
unfolding takes got
request_taken old new hub node server k is whole has = (
  takes old new node server k kinds.ActiveRequest refl whole has,
  (got old new node server k kinds.ActiveRequest refl whole has).kind_is,
  port_is,
  record { waits = came.waits; fit = came.fit; room = came.room },
)
  where
    h : HandleState
    h = (got old new node server k kinds.ActiveRequest refl whole has).handle

    s : IsServer old.control.tables node server
    s = server_is old.control.tables hub.control.order node server is

    port_is : h.port ≡ server
    port_is =
        let x = hub.reached.0 in
        let y = given_by x old in
        let law = requests_are_named (state_of_hub x old) (state_of_hub x new) node server k (port_of y s.port) hub.reached.1
        (each_port_is_named y old.control.tables node server s.port s.there s.held).names (whole x) in
        ap (λ (g : m.Handle). g.port) (same_handle (handle_of new h) law.0 (sym (named old new node server k kinds.ActiveRequest refl whole has x) ∙ law.1))
        ∙ law.3 ∙ first_key (λ (p : PortState). p.number) old.control.tables.ports server s.port s.there

    came : ComesOn (state_of_hub hub.reached.0 old) (server_of server) (request_way h.client server) (handle_of new h).message
    came =
        let x = hub.reached.0 in
        let y = given_by x old in
        let z : m.State = state_of_hub x old in
        let named_port = (each_port_is_named y old.control.tables node server s.port s.there s.held).names in
        let g : m.Handle = handle_of new h in
        subst (λ (w : Way). ComesOn z (server_of server) w g.message)
        (ap₂ (λ (kind : Kind) (port : ℕ). if same_kind kind kinds.ActiveRequest then request_way g.client port else response_way port g.lane g.message.sender)
        (got old new node server k kinds.ActiveRequest refl whole has).kind_is port_is)
        (received_came z (server_of server) (state_of_hub x new) hub.reached.1 node server k (server_ways z.fixed (port_of y s.port)) g
        (λ c.
        ap (λ (o : Option Subject). option_map_or (begins_at z c (Receive server)) o (refused UnknownNumber)) named_port
        ∙ ap (λ (j : ℕ). visiting (record { port = j; role = Server; lane = 0; request = 0 }) (server_ways z.fixed (port_of y s.port)) false)
        (first_key (λ (p : PortState). p.number) old.control.tables.ports server s.port s.there))
        (whole x) (named old new node server k kinds.ActiveRequest refl whole has x))

pub takes_request : (old new : HubState) → IsHub old → (node server : ℕ) (r : Received) → HasValue old node server kinds.Server
    → ((x : Given) → IsWholeCall (state_of_hub x old) node (Receive server) (reply_of_receive r) (state_of_hub x new))
    → HasReceived new node kinds.ActiveRequest r → TakesRequest old node server r new
takes_request old new hub node server (Handle k) is whole has = request_taken old new hub node server k is whole has
takes_request old new hub node server Nothing is whole has = tt
takes_request old new hub node server AtLimit is whole has = tt

-- ---- a pending response's

response_taken : (old new : HubState) → IsHub old → (node number k : ℕ)
    → ((x : Given) → IsWholeCall (state_of_hub x old) node (Receive number) (replies.Handle k) (state_of_hub x new))
    → HasValue new node k kinds.Response → TakesResponse old node number (Handle k) new
unfolding takes got
response_taken old new hub node number k whole has = (takes old new node number k kinds.Response refl whole has, at_request)
  where
    h : HandleState
    h = (got old new node number k kinds.Response refl whole has).handle

    comes_to : (pending : HandleState) → handle_in old.control.tables.handles node number ≡ Some pending → h.kind ≡ kinds.Response
        → h.port ≡ pending.port → lane_of new.control.tables h ≡ lane_of old.control.tables pending
        → CanCome old (client_of old.control.tables pending) (handle_of new h).message.sender (handle_of new h).message
    comes_to pending there kind port lane =
        let x = hub.reached.0 in
        let z : m.State = state_of_hub x old in
        let by : Receiver = client_of old.control.tables pending in
        let g : m.Handle = handle_of new h in
        let names = (each_handle_is_named (given_by x old) old.control.tables node number pending (found_is_handle old.control.tables hub.control.order node number pending there)).names in
        let came : ComesOn z by (response_way pending.port by.lane g.message.sender) g.message
        = subst (λ (w : Way). ComesOn z by w g.message)
        (ap₂ (λ (q : Kind) (p : ℕ). if same_kind q kinds.ActiveRequest then request_way g.client p else response_way p g.lane g.message.sender) kind port
        ∙ ap (λ (l : ℕ). response_way pending.port l g.message.sender) lane)
        (received_came z by (state_of_hub x new) hub.reached.1 node number k (pending_ways z.fixed (handle_of old pending)) g
        (λ c. ap (λ (o : Option Subject). option_map_or (begins_at z c (Receive number)) o (refused UnknownNumber)) names)
        (whole x) (named old new node number k kinds.Response refl whole has x)) in
        record { waits = came.waits; fit = came.fit; room = came.room }

    at_request : (pending : HandleState) → handle_in old.control.tables.handles node number ≡ Some pending → IsAtItsRequest old pending new h
    at_request pending there =
        let x = hub.reached.0 in
        let y = given_by x old in
        let law = responses_name_their_request (state_of_hub x old) (state_of_hub x new) node number k (handle_of old pending) hub.reached.1
        (each_handle_is_named y old.control.tables node number pending (found_is_handle old.control.tables hub.control.order node number pending there)).names (whole x) in
        let same : handle_of new h ≡ law.0
        = same_handle (handle_of new h) law.0 (sym (named old new node number k kinds.Response refl whole has x) ∙ law.1) in record {
          kind = ap (λ (g : m.Handle). g.kind) same ∙ law.2;
          port = ap (λ (g : m.Handle). g.port) same ∙ law.3;
          lane = ap (λ (g : m.Handle). g.message.lane) same ∙ law.4;
          request = ap (λ (g : m.Handle). g.message.request) same ∙ law.5;
          came = comes_to pending there (ap (λ (g : m.Handle). g.kind) same ∙ law.2) (ap (λ (g : m.Handle). g.port) same ∙ law.3)
              (ap (λ (g : m.Handle). g.message.lane) same ∙ law.4);
        }

pub takes_response : (old new : HubState) → IsHub old → (node number : ℕ) (r : Received)
    → ((x : Given) → IsWholeCall (state_of_hub x old) node (Receive number) (reply_of_receive r) (state_of_hub x new))
    → HasReceived new node kinds.Response r → TakesResponse old node number r new
takes_response old new hub node number (Handle k) whole has = response_taken old new hub node number k whole has
takes_response old new hub node number Nothing whole has = tt
takes_response old new hub node number AtLimit whole has = tt
