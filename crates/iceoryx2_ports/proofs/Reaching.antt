-- A request that is sent can be received by each server that had room; loans and writes leave room as it is.
use Rattle.std.specs.Prelude.{◌≡◌, ◌+◌, ◌≤◌, nat_le, ℕ, Bool, true, false, ◌||◌, if◌then◌else◌, ◌==◌, List, [], ◌∷◌, ◌++◌, filter, length, map, Option, Some, is_some, refl}
use Rattle.std.specs.List.{list_any}
use Rattle.std.proofs.Common.{sym, ap, subst, ◌∙◌, arith, eqb-true, inl, inr}
use Rattle.std.proofs.lemmas.Option.{none-some, same_Some}
use Rattle.iox_model.specs.declared.call.Call.TheVariants.{Loan, LoanUninit, Send, SendCopy}
use Rattle.iox_model.specs.declared.kind.Kind.TheVariants as kinds
use Rattle.iox_model.specs.declared.kind.Kind.TheVariants.{RequestMut}
use Rattle.iox_model.specs.declared.kind.Role.{Role}
use Rattle.iox_model.specs.declared.kind.Role.TheVariants.{Client, Server}
use Rattle.iox_model.specs.declared.reply.Reply.TheVariants.{Handle, Sent}
use Rattle.iox_model.specs.declared.way.RequestState.{RequestState}
use Rattle.iox_model.specs.declared.way.Way.{Way}
use Rattle.iox_model.specs.Commands.{Call, Reply}
use Rattle.iox_model.specs.Handles.{is_request_loan}
use Rattle.iox_model.specs.Loans.{kind_of_loan}
use Rattle.iox_model.specs.Maps.{has_number, has_way, same_way}
use Rattle.iox_model.specs.Messages.{Message, names, request_way, response_way}
use Rattle.iox_model.specs.Peers.{buffer_on, is_connected_port, others, overflows_on}
use Rattle.iox_model.specs.Receives.{is_at_limit}
use Rattle.iox_model.specs.Settings.{same_role}
use Rattle.iox_model.specs.States as m
use Rattle.iox_model.specs.WholeCalls.{IsWholeCall}
use Rattle.iox_laws.specs.CallFunctions.Sends.{is_full}
use Rattle.iox_laws.specs.MessageLaws.Lists.{IsOneOf}
use Rattle.iox_laws.proofs.WeaveLaws.MapLemmas.{either, eqb-refl, others_are_all, same_way-refl}
use Rattle.iox_laws.proofs.WeaveLedger.Truths.{by_cases, or-right, or-rest}
use Rattle.iox_tables.specs.HubLoans.Lenders.{IsClient}
use Rattle.iox_tables.specs.HubLoans.Loans.{loan_call}
use Rattle.iox_tables.specs.HubStates.Receives.{way_to}
use Rattle.iox_tables.specs.HubStates.States.{Given, port_of}
use Rattle.iox_tables.specs.HubStates.Steps.{is_there}
use Rattle.iox_tables.specs.HubStates.Tables.{HandleState, HubTables, PortState, port_in}
use Rattle.iox_tables.specs.HubStates.Wirings.{IsServer, handle_in, numbers_of_role}
use Rattle.iox_tables.specs.HubBooks.Handles.{IsOfPort}
use Rattle.iox_tables.proofs.HubBooks.Used.{handle_is}
use Rattle.iox_tables.proofs.HubStates.Fixing.{first_key, roles_are}
use Rattle.iox_tables.proofs.HubStates.Naming.{each_port_is_named}
use Rattle.iox_tables.proofs.HubStates.Steps.{connected_is}
use Rattle.iox_hub_laws.specs.Hubs.{HasValue, HubState, IsHub, given_by, nothing_given, state_of_hub}
use Rattle.iox_hub_laws.specs.Lending.{payload_of}
use Rattle.iox_hub_laws.proofs.LendingNamed.{client_of_hub}
use Rattle.iox_hub_laws.proofs.Named.{server_is}
use Rattle.iox_hub_laws.specs.Arrivals.{IsSentOn, newest, with_last}
use Rattle.iox_hub_laws.specs.Sends.{IsRequestSent, SendsRequest, servers_of}
use Rattle.iox_hub_laws.specs.Shown.{handle_of, shown}
use Rattle.iox_hub_laws.proofs.Arrivals.{all_newest, is_less, one_longer}
use Rattle.iox_hub_laws.proofs.Brought.{goes_on, goes_to}
use Rattle.iox_hub_laws.proofs.Values.{IsHandleOf, value_is_handle}
use Rattle.iceoryx2_ports.specs.Idling.{BringsOne}
use Rattle.iceoryx2_ports.specs.Reaching.{CopiesRequest, KeepsRoom, ReachesServers}
use Rattle.iceoryx2_ports.proofs.Asked.{IsCopied, copied, loan_on}
use Rattle.iceoryx2_ports.proofs.OneSent.{request_brings_one}
use Rattle.iceoryx2_ports.proofs.Resting.{HaveAsBefore, RestsSo, limit_rests, rests, room_rests, whole_rests}
use Rattle.iceoryx2_ports.proofs.Sent.{sent_has}

-- ---- room

pub room_stays : (old new : HubState) → RestsSo (shown old) (shown new) → KeepsRoom old new
room_stays old new r x room = record {
  buffers = λ sender there.
      room_rests (shown old) (shown new) r (way_to x sender)
      ∙ room.buffers sender (sym (ap (λ (ps : List m.Port). list_any (λ (p : m.Port). p.number == sender) ps) r.fixed.ports) ∙ there);
  borrows = λ sender. limit_rests (shown old).fixed (shown new).fixed r.fixed (way_to x sender) ∙ room.borrows sender;
}

pub keeps_room : (old new : HubState) (node : ℕ) (call : Call) (reply : Reply) → rests call ≡ true
    → ((x : Given) → IsWholeCall (state_of_hub x old) node call reply (state_of_hub x new)) → KeepsRoom old new
keeps_room old new node call reply e whole =
    room_stays old new (whole_rests (shown old) (shown new) node call reply e (whole (nothing_given old)))

pub loan_keeps_room : (old new : HubState) (node : ℕ) (uninit : Bool) (n k : ℕ) (reply : Reply)
    → ((x : Given) → IsWholeCall (state_of_hub x old) node (loan_call uninit n k) reply (state_of_hub x new)) → KeepsRoom old new
loan_keeps_room old new node true n k reply whole = keeps_room old new node (LoanUninit n k) reply refl whole
loan_keeps_room old new node false n k reply whole = keeps_room old new node (Loan n k) reply refl whole

-- ---- lists

is_last : {A : Type 0} (a : A) (xs : List A) → IsOneOf a (xs ++ a ∷ [])
is_last a [] = inl refl
is_last a (x ∷ xs) = inr (is_last a xs)

-- the way to one of these servers is one of the ways
mapped : (client : ℕ) (ns : List ℕ) (n : ℕ) → has_number n ns ≡ true → has_way (request_way client n) (map (request_way client) ns) ≡ true
mapped client [] n e = e
mapped client (k ∷ ks) n e =
    by_cases (k == n)
    (λ same.
    ap (λ b. b || has_way (request_way client n) (map (request_way client) ks))
    (ap (λ i. same_way (request_way client n) (request_way client i)) (eqb-true k n same) ∙ same_way-refl (request_way client n)))
    (λ other.
    or-right (same_way (request_way client n) (request_way client k)) (has_way (request_way client n) (map (request_way client) ks))
    (mapped client ks n (or-rest (k == n) (has_number n ks) e other)))

mapped_back : (client lane : ℕ) (ns : List ℕ) (n : ℕ) → has_number n ns ≡ true → has_way (response_way client lane n) (map (response_way client lane) ns) ≡ true
mapped_back client lane [] n e = e
mapped_back client lane (k ∷ ks) n e =
    by_cases (k == n)
    (λ same.
    ap (λ b. b || has_way (response_way client lane n) (map (response_way client lane) ks))
    (ap (λ i. same_way (response_way client lane n) (response_way client lane i)) (eqb-true k n same) ∙ same_way-refl (response_way client lane n)))
    (λ other.
    or-right (same_way (response_way client lane n) (response_way client lane k)) (has_way (response_way client lane n) (map (response_way client lane) ks))
    (mapped_back client lane ks n (or-rest (k == n) (has_number n ks) e other)))

-- a server is one of the connected ones
pub connected : (ps : List PortState) (n : ℕ) (p : PortState) → port_in ps n ≡ Some p → p.role ≡ Server → has_number n (numbers_of_role Server ps) ≡ true
connected [] n p e role = absurd (none-some p e)
connected (q ∷ qs) n p e role =
    by_cases (q.number == n)
    (λ same.
    let is : q ≡ p = same_Some q p (sym (ap (λ (b : Bool). if b then Some q else port_in qs n) same) ∙ e) in
    ap (λ (b : Bool). has_number n (map (λ (x : PortState). x.number) (if b then q ∷ filter (λ (x : PortState). same_role x.role Server) qs
    else filter (λ (x : PortState). same_role x.role Server) qs)))
    (ap (λ (x : PortState). same_role x.role Server) is ∙ ap (λ (r : Role). same_role r Server) role)
    ∙ ap (λ (b : Bool). b || has_number n (numbers_of_role Server qs)) same)
    (λ other.
    let rest : has_number n (numbers_of_role Server qs) ≡ true
    = connected qs n p (sym (ap (λ (b : Bool). if b then Some q else port_in qs n) other) ∙ e) role in
    either (λ (xs : List PortState). has_number n (map (λ (x : PortState). x.number) xs) ≡ true) (same_role q.role Server)
    (q ∷ filter (λ (x : PortState). same_role x.role Server) qs) (filter (λ (x : PortState). same_role x.role Server) qs)
    (λ u. or-right (q.number == n) (has_number n (numbers_of_role Server qs)) rest) (λ u. rest))

-- ---- a message that was sent

one_fits : (n k b : ℕ) → n ≡ k + 1 → nat_le b k ≡ false → n ≤ b
one_fits n k b e less = grind (arith, e)

-- where there was room, it waits
pub comes_to_wait : (s t : m.State) (ws : List Way) (a : Message) (w : Way) → IsSentOn ws s a t → has_way w ws ≡ true → is_full s w ≡ false → IsOneOf a (t.waiting w)
comes_to_wait s t ws a w sent on room = subst (IsOneOf a) (sym (sent.sent w on ∙ taken ∙ stays)) (is_last a (s.waiting w))
  where
    taken : with_last s w a ≡ newest (buffer_on s.fixed w) (s.waiting w ++ a ∷ [])
    taken =
        ap (λ (b : Bool). if b then newest (buffer_on s.fixed w) (s.waiting w ++ a ∷ []) else s.waiting w)
        (or-right (overflows_on s.fixed w) _ (is_less (length (s.waiting w)) (buffer_on s.fixed w) room))

    stays : newest (buffer_on s.fixed w) (s.waiting w ++ a ∷ []) ≡ s.waiting w ++ a ∷ []
    stays =
        all_newest (s.waiting w ++ a ∷ []) (buffer_on s.fixed w)
        (one_fits (length (s.waiting w ++ a ∷ [])) (length (s.waiting w)) (buffer_on s.fixed w) (one_longer (s.waiting w) a) room)

-- ---- a request

-- a request that is sent can be received by each server that had room
module _ (old new : HubState) (hub : IsHub old) (g : m.Handle) (lane : g.message.lane ≡ g.lane) (request : g.message.request ≡ g.request)
    (sent : IsRequestSent old new g) (have : HaveAsBefore (shown old).fixed (shown new).fixed) (client : is_connected_port (shown old).fixed g.port ≡ true) where
  pub request_reaches : ReachesServers old new
  request_reaches i server is room = (g.port, g.message, record { waits = waits; fit = fit; room = may })
    where
      served : IsServer old.control.tables i server
      served = server_is old.control.tables hub.control.order i server is

      there : has_number server (servers_of old) ≡ true
      there = connected old.control.tables.ports server served.port served.there served.server

      w : Way
      w = request_way g.port server

      waits : IsOneOf g.message ((shown new).waiting w)
      waits =
          comes_to_wait (shown old) (shown new) (map (request_way g.port) (servers_of old)) g.message w sent.brought
          (mapped g.port (servers_of old) server there) (room.buffers g.port client)

      named : names ((shown new).request_state (response_way g.port g.message.lane server)) g.message.request ≡ true
      named =
          ap (λ (l : ℕ). names ((shown new).request_state (response_way g.port l server)) g.message.request) lane
          ∙ ap (λ (r : RequestState). names r g.message.request) (sent.states server there)
          ∙ ap (λ (id : ℕ). g.request == id) request ∙ eqb-refl g.request

      fit : ((shown new).fixed.limits.fire_and_forget || names ((shown new).request_state (response_way g.port g.message.lane server)) g.message.request) ≡ true
      fit =
          or-right (shown new).fixed.limits.fire_and_forget
          (names ((shown new).request_state (response_way g.port g.message.lane server)) g.message.request) named

      may : is_at_limit (shown new).fixed w ≡ false
      may = limit_rests (shown old).fixed (shown new).fixed have w ∙ room.borrows g.port

-- the port of a handle is connected
pub port_connected : (h : HubState) → IsHub h → (node n : ℕ) (k : HandleState) → handle_in h.control.tables.handles node n ≡ Some k
    → is_connected_port (shown h).fixed k.port ≡ true
port_connected h hub node n k there =
    connected_is (given_by (nothing_given h) h) h.control.tables.ports k.port
    ∙ ap (λ (o : Option PortState). is_some o) (handle_is (IsOfPort h.control.tables) h.control.tables.handles node n k hub.control.order.ports there).there

-- what the send of a loan reaches
pub send_reaches : (old new : HubState) → IsHub old → (node n count : ℕ) → HasValue old node n RequestMut → SendsRequest old node n new
    → ((x : Given) → IsWholeCall (state_of_hub x old) node (Send n) (Sent count) (state_of_hub x new)) → ReachesServers old new
send_reaches old new hub node n count has sends whole =
    let loan : IsHandleOf old.control.tables node n RequestMut = value_is_handle old.control.tables node n RequestMut refl has in
    request_reaches old new hub (handle_of old loan.handle) refl refl (sends loan.handle loan.named.there)
    (sent_has (shown old) (shown new) node (Send n) count (whole (nothing_given old))) (port_connected old hub node n loan.handle loan.named.there)

-- where none waited, it is the one
pub send_brings_one : (old new : HubState) → (node n count : ℕ) → HasValue old node n RequestMut → SendsRequest old node n new
    → ((x : Given) → IsWholeCall (state_of_hub x old) node (Send n) (Sent count) (state_of_hub x new)) → BringsOne old new
send_brings_one old new node n count has sends whole =
    let loan : IsHandleOf old.control.tables node n RequestMut = value_is_handle old.control.tables node n RequestMut refl has in
    request_brings_one old new (handle_of old loan.handle) (sends loan.handle loan.named.there)
    (sent_has (shown old) (shown new) node (Send n) count (whole (nothing_given old)))

-- ---- a copy

module _ (old new : HubState) (hub : IsHub old) (node client k i : ℕ) (words : List ℕ) (has : HasValue old node client kinds.Client)
    (whole : (x : Given) → IsWholeCall (state_of_hub x old) node (SendCopy client (payload_of Client k words)) (Handle i) (state_of_hub x new)) where
  abbrev t : HubTables
  t = old.control.tables

  abbrev x : Given
  x = given_by hub.reached.0 old

  abbrev z : m.State
  z = state_of_hub hub.reached.0 old

  abbrev u : m.State
  u = state_of_hub hub.reached.0 new

  pub lender : IsClient t node client
  lender = client_of_hub hub old refl node client has

  abbrev p : m.Port
  p = port_of x lender.port

  pub number : lender.port.number ≡ client
  number = first_key (λ (q : PortState). q.number) t.ports client lender.port lender.there

  pub known : is_connected_port z.fixed p.number ≡ true
  known =
      connected_is x t.ports lender.port.number ∙ ap (is_there t.ports) number
      ∙ ap (λ (o : Option PortState). is_some o) lender.there

  pub done : IsCopied z hub.reached.1 node client p lender.client known k words
      (each_port_is_named x t node client lender.port lender.there lender.held).names Client u (Handle i) refl
  done =
      copied z hub.reached.1 node client p lender.client known k words
      (each_port_is_named x t node client lender.port lender.there lender.held).names Client u (Handle i) refl (whole hub.reached.0)

  abbrev pub g : m.Handle
  g = loan_on z hub.reached.1 node client p lender.client known k words done.lane

  abbrev to : List ℕ
  to = goes_to z hub.reached.1 node g known true

  pub request : is_request_loan g.kind ≡ true
  request = ap (λ (r : Role). is_request_loan (kind_of_loan r false)) lender.client

  servers : to ≡ servers_of old
  servers =
      ap (λ (b : Bool). if b then others z.fixed g.node Server else g.client ∷ []) request
      ∙ others_are_all z.fixed g.node Server refl ∙ roles_are x t.ports Server

  ways : goes_on z hub.reached.1 node g known true ≡ map (request_way g.port) (servers_of old)
  ways =
      ap (λ (b : Bool). if b then map (request_way g.port) to else map (λ c. response_way c g.lane g.port) to) request
      ∙ ap (map (request_way g.port)) servers

  as_shown : IsSentOn (goes_on z hub.reached.1 node g known true) (shown old) g.message (shown new)
  as_shown = record { sent = done.came.sent.sent; others = done.came.sent.others }

  pub sent : IsRequestSent old new g
  sent = record {
    brought = subst (λ (ws : List Way). IsSentOn ws (shown old) g.message (shown new)) ways as_shown;
    states = λ server is.
        done.came.opened (response_way g.port g.lane server)
        (ap (λ (b : Bool). has_way (response_way g.port g.lane server) (if b then map (response_way g.port g.lane) to else [])) request
        ∙ mapped_back g.port g.lane to server (ap (has_number server) servers ∙ is));
  }

  pub copy_is_sent : CopiesRequest old client words new
  copy_is_sent = record { request = g; port = number; carries = refl; sent = sent }

  pub copy_reaches : ReachesServers old new
  copy_reaches =
      request_reaches old new hub g refl refl sent (record { limits = done.have.limits; ports = done.have.ports; borrowed = done.have.borrowed })
      (connected_is (given_by (nothing_given old) old) t.ports lender.port.number ∙ ap (is_there t.ports) number
      ∙ ap (λ (o : Option PortState). is_some o) lender.there)

  pub copy_brings_one : BringsOne old new
  copy_brings_one =
      request_brings_one old new g sent (record { limits = done.have.limits; ports = done.have.ports; borrowed = done.have.borrowed })
