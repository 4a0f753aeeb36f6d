-- A request that is sent: its pending response is for it, it is what waits at servers, and it is open there.
use Rattle.std.specs.Prelude.{◌≡◌, ℕ, ◌-◌, Bool, true, false, ◌&&◌, ◌||◌, ◌==◌, if◌then◌else◌, List, [], ◌∷◌, ◌++◌, drop, filter, map, Option, Some, None, refl}
use Rattle.std.specs.List.{list_any}
use Rattle.std.specs.Option.{option_map, option_map_or}
use Rattle.std.proofs.Common.{zero, suc, sym, ap, ap₂, subst, ◌∙◌, inl, inr, true≢false}
use Rattle.std.proofs.lemmas.Option.{none-some, same_Some}
use Rattle.iox_model.specs.declared.call.Call.TheVariants.{Send}
use Rattle.iox_model.specs.declared.kind.Kind.TheVariants.{RequestMut}
use Rattle.iox_model.specs.declared.kind.Role.{Role}
use Rattle.iox_model.specs.declared.kind.Role.TheVariants.{Client, Server}
use Rattle.iox_model.specs.declared.reply.Refusal.TheVariants.{UnknownNumber}
use Rattle.iox_model.specs.declared.reply.Reply.TheVariants as replies
use Rattle.iox_model.specs.declared.reply.Reply.TheVariants.{Sent}
use Rattle.iox_model.specs.declared.way.RequestState.{RequestState}
use Rattle.iox_model.specs.declared.way.Way.{Way}
use Rattle.iox_model.specs.Begins.{begins_at, start}
use Rattle.iox_model.specs.Commands.{Refusal, Reply}
use Rattle.iox_model.specs.Counts.{changed, dropped, sent_handle, with_fixed}
use Rattle.iox_model.specs.Doings.{refused, Doing, FailsToSend, Outcome, Receiver, Sends, Tells}
use Rattle.iox_model.specs.Ends.{settled}
use Rattle.iox_model.specs.Expiries.{released}
use Rattle.iox_model.specs.Handles.{Subject, TheHandle, handle_at, is_request_loan, subject}
use Rattle.iox_model.specs.Maps.{has_number, has_way, same_way}
use Rattle.iox_model.specs.Messages.{Message, names, request_way}
use Rattle.iox_model.specs.Moments.{Moment}
use Rattle.iox_model.specs.Names.{misnamed}
use Rattle.iox_model.specs.Peers.{buffer_on, is_connected_port}
use Rattle.iox_model.specs.Runs.{IsReachableState}
use Rattle.iox_model.specs.Settings.{same_role}
use Rattle.iox_model.specs.States as m
use Rattle.iox_model.specs.States.{Fixed, Handle, State}
use Rattle.iox_model.specs.WholeCalls.{IsDone, IsWholeCall, UnlessRefused, left_by, moved_by, replied, spent}
use Rattle.iox_laws.specs.MessageLaws.Lists.{IsOneOf}
use Rattle.iox_laws.proofs.ReplyLaws.Plainly.{known_port}
use Rattle.iox_laws.proofs.WeaveLaws.MapLemmas.{either, eqb-refl, same_way-true}
use Rattle.iox_laws.proofs.WeaveLaws.WholeLemmas.{moved_by-fixed}
use Rattle.iox_laws.proofs.WeaveLedger.Lists.{number-among}
use Rattle.iox_laws.proofs.WeaveLedger.Truths.{by_cases, or-right, or-rest}
use Rattle.iox_tables.specs.HubBooks.Handles.{IsOfPort, role_for}
use Rattle.iox_tables.specs.HubStates.Receives.{way_to}
use Rattle.iox_tables.specs.HubStates.Releases.{handle_shown}
use Rattle.iox_tables.specs.HubStates.States.{Given, message_of}
use Rattle.iox_tables.specs.HubStates.Tables.{HandleState, HubTables, PortState, port_in}
use Rattle.iox_tables.specs.HubStates.Wirings.{IsServer, numbers_of_role}
use Rattle.iox_tables.proofs.HubBooks.Sendable.{of_role}
use Rattle.iox_tables.proofs.HubBooks.Used.{handle_is}
use Rattle.iox_tables.proofs.HubStates.Fixing.{find_handle}
use Rattle.iox_tables.proofs.HubStates.Naming.{each_handle_is_named, handle_node, handle_number}
use Rattle.iox_hub_laws.specs.Hubs.{HasValue, HubState, IsHub, given_by, nothing_given, state_of_hub}
use Rattle.iox_hub_laws.proofs.Named.{server_is}
use Rattle.iox_hub_laws.specs.Arrivals.{newest, takes_more, with_last}
use Rattle.iox_hub_laws.specs.Sends.{IsRequestSent, SendsRequest, servers_of}
use Rattle.iox_hub_laws.specs.Shown.{handle_of, shown}
use Rattle.iox_hub_laws.specs.Waiting.{IsWaiting, client_in, client_of, server_of}
use Rattle.iox_hub_laws.proofs.Arrivals.{EndsSo, Fits, IsRefusal}
use Rattle.iox_hub_laws.proofs.Brought.{apart, goes_to, starts_quiet, to_client, to_servers, within}
use Rattle.iox_hub_laws.proofs.Moments.{ended_fits, moments_fit}
use Rattle.iox_hub_laws.proofs.Phases.{sends_fits}
use Rattle.iox_hub_laws.proofs.Values.{IsHandleOf, value_is_handle}
use Rattle.iceoryx2_ports.specs.Asking.{AsksAs, BringsItsRequest, OpensAtServers}
use Rattle.iceoryx2_ports.specs.Idling.{IsIdle, client_on}
use Rattle.iceoryx2_ports.proofs.Asking.{IsLike, client_shown, own_asker, same_own_asker}
use Rattle.iceoryx2_ports.proofs.Filled.{put_own}
use Rattle.iceoryx2_ports.proofs.OneSent.{sender_of_way}
use Rattle.iceoryx2_ports.proofs.Opening.{same_clients}
use Rattle.iceoryx2_ports.proofs.Reaching.{connected}
use Rattle.iceoryx2_ports.proofs.Resting.{HaveAsBefore, full_by, limit_rests}
use Rattle.iceoryx2_ports.proofs.Sent.{sent_has}

-- ---- the pending response

abbrev is_sent : Reply → Bool
is_sent (Sent n) = true
is_sent r = false

-- no refusal tells to how many servers a request went
not_refused : (r : Reply) → IsRefusal r → is_sent r ≡ true → ⊥
not_refused (replies.Refused x) p e = true≢false (sym e)
not_refused r p e = absurd p

module _ (z : State) (reached : IsReachableState z) (node n : ℕ) (h : Handle) (named : subject z.fixed node n ≡ Some (TheHandle h))
    (there : handle_at z.fixed node n ≡ Some h) (on : h.node ≡ node) (number : h.number ≡ n) (request : is_request_loan h.kind ≡ true) (t : State) (count : ℕ) where
  abbrev known : is_connected_port z.fixed h.port ≡ true
  known = known_port z node n h reached named

  abbrev Fit : State → Doing → Type 0
  Fit = Fits z node h false (goes_to z reached node h known false)

  -- the handle is a pending response for the request
  pub record IsPendingFor : Type 0 where
    pub handle : Handle
    pub at : handle_at t.fixed node n ≡ Some handle
    pub like : IsLike h handle

  end_pends : (s : State) (o : Outcome) (payload : List ℕ) → s.fixed ≡ z.fixed → EndsSo z node h false (goes_to z reached node h known false) s o
      → Sent count ≡ replied z.fixed node o → t ≡ settled s node payload o → IsPendingFor
  end_pends s (Sends l c k) payload same p e is =
      let g : Handle = sent_handle h k in
      let now : t ≡ settled s node payload (Sends h false k)
      = is ∙ ap (settled s node payload) (ap₂ (λ (i : Handle) (b : Bool). Sends i b k) p.0 p.1) in
      record {
        handle = g;
        at = ap (λ (v : State). handle_at v.fixed node n) now
            ∙ ap (λ (b : Bool). handle_at (if b then with_fixed s (changed s.fixed g) else released (with_fixed s (dropped s.fixed h)) h.port).fixed node n) request
            ∙ put_own s.fixed.handles g node n h on number (ap (λ (f : Fixed). handle_at f node n) same ∙ there);
        like = record { port = refl; client = refl; lane = refl; request = refl };
      }
  end_pends s (FailsToSend l c r) payload same p e is = absurd (true≢false (ap is_sent e))
  end_pends s (Tells reply) payload same p e is = absurd (not_refused reply p.1 (sym (ap is_sent e)))
  end_pends s o payload same p e is = absurd p

  done_pends : IsDone z node (Send n) (Sent count) t → IsPendingFor
  done_pends done =
      let ms : List Moment = done.2 in
      let d : Doing = start z node done.0 (Send n) in
      let begins : Fit z d =
      subst (Fit z) (sym (ap (λ (o : Option Subject). option_map_or (begins_at z done.0 (Send n)) o (refused UnknownNumber)) named))
      (sends_fits z node h false (goes_to z reached node h known false) (to_servers z reached node h known false) (to_client z reached node h known false)
      (apart z reached node h known false) (within z reached node h known false) z (starts_quiet z reached node h known false)) in
      end_pends (moved_by z ms) done.4 done.6 (moved_by-fixed z ms)
      (ended_fits z node h false (goes_to z reached node h known false) (to_servers z reached node h known false) (to_client z reached node h known false)
      (apart z reached node h known false) (within z reached node h known false) (moved_by z ms) (left_by z node d ms) done.4
      (moments_fit z node h false (goes_to z reached node h known false) (to_servers z reached node h known false) (to_client z reached node h known false)
      (apart z reached node h known false) (within z reached node h known false) z d ms done.3 begins) done.5)
      done.8 done.9

  unless_pends : (q : Option Refusal) (P : Type 0) → (P → IsPendingFor) → UnlessRefused q z (Sent count) t P → IsPendingFor
  unless_pends (Some r) P f p = absurd (true≢false (ap is_sent p.0))
  unless_pends None P f p = f p

  pub send_pends : IsWholeCall z node (Send n) (Sent count) t → IsPendingFor
  send_pends =
      unless_pends (misnamed z.fixed node (Send n)) (UnlessRefused (spent z.fixed (Send n)) z (Sent count) t (IsDone z node (Send n) (Sent count) t))
      (unless_pends (spent z.fixed (Send n)) (IsDone z node (Send n) (Sent count) t) done_pends)

-- ---- ways of a request

receiver_of_way : (client : ℕ) (ns : List ℕ) (w : Way) → has_way w (map (request_way client) ns) ≡ true → has_number w.receiver ns ≡ true
receiver_of_way client [] w e = absurd (true≢false (sym e))
receiver_of_way client (n ∷ ns) w e =
    by_cases (same_way w (request_way client n))
    (λ same.
    ap (λ (b : Bool). b || has_number w.receiver ns)
    (ap (λ (v : Way). n == v.receiver) (same_way-true w (request_way client n) same) ∙ eqb-refl n))
    (λ other.
    or-right (n == w.receiver) (has_number w.receiver ns)
    (receiver_of_way client ns w (or-rest (same_way w (request_way client n)) (has_way w (map (request_way client) ns)) e other)))

-- ---- lists

-- where none waited, what is waiting is what came
one_left : (m a : Message) (b : ℕ) → IsOneOf a (newest b (m ∷ [])) → a ≡ m
one_left m a b = left (1 - b)
  where
    left : (k : ℕ) → IsOneOf a (drop k (m ∷ [])) → a ≡ m
    left zero (inl e) = e
    left zero (inr p) = absurd p
    left (suc zero) p = absurd p
    left (suc (suc k)) p = absurd p

one_sent : (more : Bool) (b : ℕ) (ms : List Message) (a m : Message) → ms ≡ [] → IsOneOf a (if more then newest b (ms ++ m ∷ []) else ms) → a ≡ m
one_sent true b ms a m none p = one_left m a b (subst (λ (ns : List Message). IsOneOf a (newest b (ns ++ m ∷ []))) none p)
one_sent false b ms a m none p = absurd (subst (IsOneOf a) none p)

-- a connected client is among the clients
pub port_is_there : (ps : List PortState) (n : ℕ) (p : PortState) → port_in ps n ≡ Some p → p.role ≡ Client → has_number n (numbers_of_role Client ps) ≡ true
port_is_there [] n p e role = absurd (none-some p e)
port_is_there (q ∷ qs) n p e role =
    by_cases (q.number == n)
    (λ same.
    let is : q ≡ p = same_Some q p (sym (ap (λ (b : Bool). if b then Some q else port_in qs n) same) ∙ e) in
    ap (λ (b : Bool). has_number n (map (λ (x : PortState). x.number) (if b then q ∷ filter (λ (x : PortState). same_role x.role Client) qs
    else filter (λ (x : PortState). same_role x.role Client) qs)))
    (ap (λ (x : PortState). same_role x.role Client) is ∙ ap (λ (r : Role). same_role r Client) role)
    ∙ ap (λ (b : Bool). b || has_number n (numbers_of_role Client qs)) same)
    (λ other.
    let rest : has_number n (numbers_of_role Client qs) ≡ true
    = port_is_there qs n p (sym (ap (λ (b : Bool). if b then Some q else port_in qs n) other) ∙ e) role in
    either (λ (xs : List PortState). has_number n (map (λ (x : PortState). x.number) xs) ≡ true) (same_role q.role Client)
    (q ∷ filter (λ (x : PortState). same_role x.role Client) qs) (filter (λ (x : PortState). same_role x.role Client) qs)
    (λ u. or-right (q.number == n) (has_number n (numbers_of_role Client qs)) rest) (λ u. rest))

-- ---- what a request leaves

module _ (old new : HubState) (hub : IsHub old) (g : Handle) (lane : g.message.lane ≡ g.lane) (request : g.message.request ≡ g.request)
    (client : (p : PortState) → port_in old.control.tables.ports g.port ≡ Some p → p.role ≡ Client)
    (sent : IsRequestSent old new g) (have : HaveAsBefore (shown old).fixed (shown new).fixed) where
  abbrev ts : HubTables
  ts = old.control.tables

  -- no way to the client is one of its requests
  off_to_client : (w : Way) → w.receiver ≡ g.port → has_way w (map (request_way g.port) (servers_of old)) ≡ false
  off_to_client w is =
      by_cases (has_way w (map (request_way g.port) (servers_of old)))
      (λ on.
      let found = of_role ts hub.control.order Server w.receiver
      (number-among w.receiver (servers_of old) (receiver_of_way g.port (servers_of old) w on)) in
      absurd (differ found.0.role found.2 (client found.0 (ap (port_in ts.ports) (sym is) ∙ found.1))))
      (λ off. off)
    where
      differ : (r : Role) → r ≡ Server → r ≡ Client → ⊥
      differ r a b = true≢false (ap is_server (sym a ∙ b))
        where
          is_server : Role → Bool
          is_server Server = true
          is_server Client = false

  -- the client that was idle still is
  pub stays_idle : (l r : ℕ) → IsIdle old (client_on g.port l r) → IsIdle new (client_on g.port l r)
  stays_idle l r idle =
      let x : Receiver = client_on g.port l r in
      let waits : (sender : ℕ) → (shown new).waiting (way_to x sender) ≡ (shown old).waiting (way_to x sender)
      = λ sender. sent.brought.others (way_to x sender) (off_to_client (way_to x sender) refl) in
      record {
        none = record { empty = λ sender. waits sender ∙ idle.none.empty sender };
        room = record {
          buffers = λ sender there.
              full_by (shown old) (shown new) have.limits have.ports (way_to x sender) (waits sender)
              ∙ idle.room.buffers sender (sym (ap (λ (ps : List m.Port). list_any (λ (p : m.Port). p.number == sender) ps) have.ports) ∙ there);
          borrows = λ sender. limit_rests (shown old).fixed (shown new).fixed have (way_to x sender) ∙ idle.room.borrows sender;
        };
      }

  -- it is open at each server that was there
  pub request_opens : has_number g.port (numbers_of_role Client ts.ports) ≡ true → OpensAtServers old (own_asker g) new
  request_opens connected_client i server is =
      let served : IsServer ts i server = server_is ts hub.control.order i server is in
      let there : has_number server (servers_of old) ≡ true = connected ts.ports server served.port served.there served.server in
      ap₂ (λ (ns : List ℕ) (q : RequestState). has_number g.port ns && names q g.request) (same_clients old new have.ports) (sent.states server there)
      ∙ ap₂ (λ (b c : Bool). b && c) connected_client (eqb-refl g.request)

  -- where none waited, all that waits is that request
  pub request_is_brought : BringsItsRequest old (own_asker g) new
  request_is_brought x none = record { each = each }
    where
      sent_there : (sender : ℕ) (a : Message) → IsOneOf a ((shown new).waiting (way_to x sender)) → (b : Bool)
          → has_way (way_to x sender) (map (request_way g.port) (servers_of old)) ≡ b → (a ≡ g.message) × (sender ≡ g.port)
      sent_there sender a waits true on =
          let w : Way = way_to x sender in
          let all : IsOneOf a (with_last (shown old) w g.message) = subst (IsOneOf a) (sent.brought.sent w on) waits in (
            one_sent (takes_more (shown old) w) (buffer_on (shown old).fixed w) ((shown old).waiting w) a g.message (none.empty sender) all,
            sender_of_way g.port (servers_of old) w on,
          )
      sent_there sender a waits false off = absurd (subst (IsOneOf a) (sent.brought.others (way_to x sender) off ∙ none.empty sender) waits)

      each : (sender : ℕ) (a : Message) → IsWaiting new x sender a → client_on sender a.lane a.request ≡ own_asker g
      each sender a waits =
          let is : (a ≡ g.message) × (sender ≡ g.port)
          = sent_there sender a waits (has_way (way_to x sender) (map (request_way g.port) (servers_of old))) refl in
          ap₂ (λ (i : ℕ) (b : Message). client_on i b.lane b.request) is.1 is.0
          ∙ ap₂ (λ (l r : ℕ). client_on g.port l r) lane request

-- ---- the send of a loan

module _ (old new : HubState) (hub : IsHub old) (node n count : ℕ) (has : HasValue old node n RequestMut) (sends : SendsRequest old node n new)
    (whole : (x : Given) → IsWholeCall (state_of_hub x old) node (Send n) (Sent count) (state_of_hub x new)) where
  abbrev t : HubTables
  t = old.control.tables

  abbrev x : Given
  x = given_by hub.reached.0 old

  loan : IsHandleOf t node n RequestMut
  loan = value_is_handle t node n RequestMut refl has

  abbrev g : Handle
  g = handle_of old loan.handle

  -- what the machine has, beside any service
  abbrev k : Handle
  k = handle_shown x t loan.handle

  here : handle_at (state_of_hub hub.reached.0 old).fixed node n ≡ Some k
  here = find_handle x (message_of x t.pools) t.handles node n ∙ ap (option_map (handle_shown x t)) loan.named.there

  of_port : IsOfPort t loan.handle
  of_port = handle_is (IsOfPort t) t.handles node n loan.handle hub.control.order.ports loan.named.there

  client_role : of_port.port.role ≡ Client
  client_role = of_port.role ∙ ap role_for loan.kind_is

  is_client : (p : PortState) → port_in t.ports g.port ≡ Some p → p.role ≡ Client
  is_client p e = ap (λ (q : PortState). q.role) (same_Some p of_port.port (sym e ∙ of_port.there)) ∙ client_role

  pends : IsPendingFor (state_of_hub hub.reached.0 old) hub.reached.1 node n k (each_handle_is_named x t node n loan.handle loan.named).names here
      (handle_node t.handles node n loan.handle loan.named.there) (handle_number t.handles node n loan.handle loan.named.there)
      (ap is_request_loan loan.kind_is) (state_of_hub hub.reached.0 new) count
  pends =
      send_pends (state_of_hub hub.reached.0 old) hub.reached.1 node n k (each_handle_is_named x t node n loan.handle loan.named).names here
      (handle_node t.handles node n loan.handle loan.named.there) (handle_number t.handles node n loan.handle loan.named.there)
      (ap is_request_loan loan.kind_is) (state_of_hub hub.reached.0 new) count (whole hub.reached.0)

  have : HaveAsBefore (shown old).fixed (shown new).fixed
  have = sent_has (shown old) (shown new) node (Send n) count (whole (nothing_given old))

  sent : IsRequestSent old new g
  sent = sends loan.handle loan.named.there

  before : client_in old node n ≡ own_asker g
  before = ap (λ (o : Option HandleState). option_map_or (client_of t) o (server_of n)) loan.named.there

  after : client_in new node n ≡ own_asker g
  after = client_shown new node n pends.handle pends.at ∙ same_own_asker k pends.handle pends.like

  -- The pending response is for the request of the loan, whose client stays idle.
  pub send_asks_as : AsksAs old node n new node n
  send_asks_as = record {
    asker = after ∙ sym before;
    idle = λ idle.
        subst (IsIdle new) (sym after)
        (stays_idle old new hub g refl refl is_client sent have g.lane g.request (subst (IsIdle old) before idle));
  }

  -- It is open at each server that was there.
  pub send_opens : OpensAtServers old (client_in new node n) new
  send_opens =
      subst (λ (y : Receiver). OpensAtServers old y new) (sym after)
      (request_opens old new hub g refl refl is_client sent have
      (port_is_there t.ports g.port of_port.port of_port.there client_role))

  -- Where none waited, all that waits is that request.
  pub send_brings_its_request : BringsItsRequest old (client_in new node n) new
  send_brings_its_request =
      subst (λ (y : Receiver). BringsItsRequest old y new) (sym after) (request_is_brought old new hub g refl refl is_client sent have)
