-- Which port sent what a handle has: its own port, who asked, or who sent what waited.
use Rattle.std.specs.Prelude.{◌≡◌, ℕ, true, false, Option, None, Some, refl}
use Rattle.std.specs.Option.{option_map, option_map_or}
use Rattle.std.proofs.Common.{sym, ap, subst, ◌∙◌, inl, inr}
use Rattle.std.proofs.lemmas.Option.{none-some, same_Some}
use Rattle.iox_model.specs.declared.call.Call.TheVariants.{Send, SendCopy}
use Rattle.iox_model.specs.declared.kind.Kind.{Kind}
use Rattle.iox_model.specs.declared.kind.Kind.TheVariants as kinds
use Rattle.iox_model.specs.declared.kind.Kind.TheVariants.{ActiveRequest, PendingResponse}
use Rattle.iox_model.specs.Commands.{Call, Payload, Reply}
use Rattle.iox_model.specs.Doings.{Receiver}
use Rattle.iox_model.specs.Handles.{Subject, TheHandle, ThePort, is_own, same_kind, subject}
use Rattle.iox_model.specs.Loans.{next_message, next_request}
use Rattle.iox_model.specs.Messages.{Message}
use Rattle.iox_model.specs.Names.{is_port}
use Rattle.iox_model.specs.Peers.{port_at}
use Rattle.iox_model.specs.States as m
use Rattle.iox_model.specs.WholeCalls.{IsWholeCall}
use Rattle.iox_laws.specs.CallFunctions.Copies.{copied_order}
use Rattle.iox_laws.specs.MessageLaws.Lists.{IsOneOf}
use Rattle.iox_laws.specs.MessageLaws.Sendings.{copied_message, own_message, sent_message}
use Rattle.iox_tables.specs.HubBooks.Handles.{IsOfPort}
use Rattle.iox_tables.specs.HubBooks.Hubs.{AreInOrder, HasPool}
use Rattle.iox_tables.specs.HubStates.Receives.{way_to}
use Rattle.iox_tables.specs.HubLoans.Lenders.{IsActive, IsClient}
use Rattle.iox_tables.specs.HubStates.States.{Given, port_of}
use Rattle.iox_tables.specs.HubStates.Tables.{HandleState, HubTables, PoolState, PortState, owner_of}
use Rattle.iox_tables.specs.HubStates.Wirings.{handle_in}
use Rattle.iox_tables.proofs.HubBooks.Used.{handle_is}
use Rattle.iox_tables.proofs.HubStates.Fixing.{find_port, first_key}
use Rattle.iox_tables.proofs.HubStates.Naming.{each_handle_is_named, each_port_is_named}
use Rattle.iox_hub_laws.specs.Headers.{sender_in}
use Rattle.iox_hub_laws.specs.Hubs.{HasValue, HubState, IsHub, given_by, state_of_hub}
use Rattle.iox_hub_laws.specs.Received.TheVariants as received
use Rattle.iox_hub_laws.specs.Receives.{TakesRequest, TakesResponse}
use Rattle.iox_hub_laws.specs.Shown.{handle_of, shown}
use Rattle.iox_hub_laws.specs.Waiting.{client_in, client_of, server_of}
use Rattle.iox_hub_laws.proofs.LendingNamed.{active_of_hub, client_of_hub}
use Rattle.iox_hub_laws.proofs.Only.{waited_or_sent}
use Rattle.iox_hub_laws.proofs.Values.{IsHandleOf, value_is_handle}
use Rattle.iceoryx2_ports.specs.Responses.{answerer_in, asker_in, asker_of}
use Rattle.iceoryx2_ports.specs.Senders.{AllFrom, BringsFrom, TakesFrom}

-- ---- what a handle has

-- a loan or a pending response is of its own port's pool
owner_is : (t : HubTables) → AreInOrder t → (node n : ℕ) (k : HandleState) → handle_in t.handles node n ≡ Some k → is_own k.kind ≡ true
    → owner_of t.pools k.pool ≡ k.port
owner_is t order node n k there own =
    let p : IsOfPort t k = handle_is (IsOfPort t) t.handles node n k order.ports there in
    let has : HasPool t p.port = order.pools.each k.port p.port p.there in
    ap (owner_of t.pools) (p.of_pool own) ∙ ap (λ (o : Option PoolState). option_map_or (λ q. q.port) o 0) has.there ∙ has.port
    ∙ first_key (λ (q : PortState). q.number) t.ports k.port p.port p.there

module _ {h : HubState} (hub : IsHub h) (node n : ℕ) where
  abbrev t : HubTables
  t = h.control.tables

  sender_is : (k : HandleState) → handle_in t.handles node n ≡ Some k → sender_in h node n ≡ owner_of t.pools k.pool
  sender_is k there = ap (λ (o : Option HandleState). option_map_or (λ (j : HandleState). owner_of t.pools j.pool) o 0) there

  own_sender : (k : HandleState) → handle_in t.handles node n ≡ Some k → is_own k.kind ≡ true → sender_in h node n ≡ k.port
  own_sender k there own = sender_is k there ∙ owner_is t hub.control.order node n k there own

  own_kind : (kind : Kind) (k : HandleState) → k.kind ≡ kind → is_own kind ≡ true → is_own k.kind ≡ true
  own_kind kind k e own = ap is_own e ∙ own

  -- what a client loans, or sent, is its own
  pub sent_by_client : (kind : Kind) → is_port kind ≡ false → is_own kind ≡ true → HasValue h node n kind → sender_in h node n ≡ (client_in h node n).port
  sent_by_client kind no_port own has =
      let is : IsHandleOf t node n kind = value_is_handle t node n kind no_port has in
      own_sender is.handle is.named.there (own_kind kind is.handle is.kind_is own)
      ∙ sym (ap (λ (o : Option HandleState). (option_map_or (client_of t) o (server_of n)).port) is.named.there)

  -- what a server loans is its own
  pub sent_by_server : (kind : Kind) → is_port kind ≡ false → is_own kind ≡ true → HasValue h node n kind → sender_in h node n ≡ answerer_in h node n
  sent_by_server kind no_port own has =
      let is : IsHandleOf t node n kind = value_is_handle t node n kind no_port has in
      own_sender is.handle is.named.there (own_kind kind is.handle is.kind_is own)
      ∙ sym (ap (λ (o : Option HandleState). option_map_or (λ (loan : HandleState). loan.port) o n) is.named.there)

  -- an active request was sent by who asked
  pub sent_by_asker : HasValue h node n ActiveRequest → sender_in h node n ≡ (asker_in h node n).port
  sent_by_asker has =
      let is : IsHandleOf t node n ActiveRequest = value_is_handle t node n ActiveRequest refl has in
      let p : IsOfPort t is.handle = handle_is (IsOfPort t) t.handles node n is.handle hub.control.order.ports is.named.there in
      sender_is is.handle is.named.there ∙ sym (p.client (ap (λ (kind : Kind). same_kind kind ActiveRequest) is.kind_is))
      ∙ sym (ap (λ (o : Option HandleState). (option_map_or (asker_of t) o (server_of n)).port) is.named.there)

-- ---- sends

-- whatever the call sends is of that port
abbrev AreOf : m.State → ℕ → Call → ℕ → Type 0
AreOf s node call port = (lane : ℕ) (a : Message) → sent_message s.fixed node lane call ≡ Some a → a.sender ≡ port

-- what a call brings was sent by the port of what it sends
brings_from : (old new : HubState) → IsHub old → (node : ℕ) (call : Call) (reply : Reply) (port : ℕ)
    → ((x : Given) → IsWholeCall (state_of_hub x old) node call reply (state_of_hub x new))
    → ((x : Given) → AreOf (state_of_hub x old) node call port) → BringsFrom old port new
brings_from old new hub node call reply port whole are r none = record { each = each }
  where
    each : (sender : ℕ) (a : Message) → IsOneOf a ((shown new).waiting (way_to r sender)) → a.sender ≡ port
    each sender a p =
        let x : Given = hub.reached.0 in
        elim (waited_or_sent (state_of_hub x old) (state_of_hub x new) node call reply (whole x) (way_to r sender) a p) as (λ u. a.sender ≡ port) [
          | inl q ↦ absurd (subst (IsOneOf a) (none.empty sender) q)
          | inr q ↦ are x q.0 a q.1
        ]

-- what a send brings was sent by the port of the loan
module _ (old new : HubState) (hub : IsHub old) (node n : ℕ) (kind : Kind) (no_port : is_port kind ≡ false) (own : is_own kind ≡ true)
    (has : HasValue old node n kind) (reply : Reply) (whole : (x : Given) → IsWholeCall (state_of_hub x old) node (Send n) reply (state_of_hub x new)) where
  loan : IsHandleOf old.control.tables node n kind
  loan = value_is_handle old.control.tables node n kind no_port has

  from_sender : BringsFrom old (sender_in old node n) new
  from_sender =
      brings_from old new hub node (Send n) reply (sender_in old node n) whole
      (λ x lane a e.
      ap (λ (b : Message). b.sender)
      (same_Some a (handle_of old loan.handle).message
      (sym e ∙ ap (λ (o : Option Subject). option_map_or own_message o None) (each_handle_is_named (given_by x old) old.control.tables node n loan.handle loan.named).names))
      ∙ sym (sender_is hub node n loan.handle loan.named.there))

  pub brings_from_client : BringsFrom old (client_in old node n).port new
  brings_from_client = subst (λ (port : ℕ). BringsFrom old port new) (sent_by_client hub node n kind no_port own has) from_sender

  pub brings_from_server : BringsFrom old (answerer_in old node n) new
  brings_from_server = subst (λ (port : ℕ). BringsFrom old port new) (sent_by_server hub node n kind no_port own has) from_sender

-- ---- copies

-- a client's copy is of that client
client_copies : (f : m.Fixed) (node n : ℕ) (p : Payload) (o : m.Port) → subject f node n ≡ Some (ThePort o) → (lane : ℕ) (a : Message)
    → sent_message f node lane (SendCopy n p) ≡ Some a → a.sender ≡ o.number
client_copies f node n p o named lane a = by_count p.elements
  where
    by_count : (q : Option ℕ)
        → option_map_or (λ k. option_map_or (copied_message f lane (copied_order k p.words)) (subject f node n) None) q None ≡ Some a → a.sender ≡ o.number
    by_count None e = absurd (none-some a e)
    by_count (Some k) e =
        ap (λ (b : Message). b.sender)
        (same_Some a (next_message f o (copied_order k p.words) lane (next_request f o.number))
        (sym e ∙ ap (λ (y : Option Subject). option_map_or (copied_message f lane (copied_order k p.words)) y None) named))

-- the copy of a response is of its server
server_copies : (f : m.Fixed) (node n : ℕ) (p : Payload) (h : m.Handle) (o : m.Port) → subject f node n ≡ Some (TheHandle h) → port_at f h.port ≡ Some o
    → (lane : ℕ) (a : Message) → sent_message f node lane (SendCopy n p) ≡ Some a → a.sender ≡ o.number
server_copies f node n p h o named at lane a = by_count p.elements
  where
    by_count : (q : Option ℕ)
        → option_map_or (λ k. option_map_or (copied_message f lane (copied_order k p.words)) (subject f node n) None) q None ≡ Some a → a.sender ≡ o.number
    by_count None e = absurd (none-some a e)
    by_count (Some k) e =
        ap (λ (b : Message). b.sender)
        (same_Some a (next_message f o (copied_order k p.words) h.lane h.request)
        (sym e ∙ ap (λ (y : Option Subject). option_map_or (copied_message f lane (copied_order k p.words)) y None) named
        ∙ ap (λ (y : Option m.Port). option_map_or (λ (q : m.Port). Some (next_message f q (copied_order k p.words) h.lane h.request)) y None) at))

module _ (old new : HubState) (hub : IsHub old) (node n : ℕ) (p : Payload) (reply : Reply)
    (whole : (x : Given) → IsWholeCall (state_of_hub x old) node (SendCopy n p) reply (state_of_hub x new)) where
  -- what the copy of a request brings was sent by its client
  pub copy_from_client : HasValue old node n kinds.Client → BringsFrom old n new
  copy_from_client has =
      let t : HubTables = old.control.tables in
      let is : IsClient t node n = client_of_hub hub old refl node n has in
      brings_from old new hub node (SendCopy n p) reply n whole
      (λ x lane a e.
      client_copies (state_of_hub x old).fixed node n p (port_of (given_by x old) is.port)
      (each_port_is_named (given_by x old) t node n is.port is.there is.held).names lane a e
      ∙ first_key (λ (q : PortState). q.number) t.ports n is.port is.there)

  -- what the copy of a response brings was sent by its server
  pub copy_from_server : HasValue old node n ActiveRequest → BringsFrom old (answerer_in old node n) new
  copy_from_server has =
      let t : HubTables = old.control.tables in
      let is : IsActive t node n = active_of_hub hub old refl node n has in
      brings_from old new hub node (SendCopy n p) reply (answerer_in old node n) whole
      (λ x lane a e.
      server_copies (state_of_hub x old).fixed node n p (handle_of old is.handle) (port_of (given_by x old) is.port)
      (each_handle_is_named (given_by x old) t node n is.handle is.named).names
      (find_port (given_by x old) t.ports is.handle.port ∙ ap (option_map (port_of (given_by x old))) is.there) lane a e
      ∙ first_key (λ (q : PortState). q.number) t.ports is.handle.port is.port is.there
      ∙ sym (ap (λ (o : Option HandleState). option_map_or (λ (k : HandleState). k.port) o n) is.named.there))

-- ---- receives

-- a server gets what was sent by who sent all that waited
pub request_takes_from : (old new : HubState) (node server n : ℕ) → TakesRequest old node server (received.Handle n) new
    → TakesFrom old (server_of server) new node n
request_takes_from old new node server n takes =
    λ port all.
    ap (λ (o : Option HandleState). option_map_or (λ (j : HandleState). owner_of new.control.tables.pools j.pool) o 0) (takes.0).there
    ∙ all.each (takes.0).handle.client (handle_of new (takes.0).handle).message (takes.3).waits

-- so does a client
pub response_takes_from : (old new : HubState) (node number n : ℕ) → HasValue old node number PendingResponse
    → TakesResponse old node number (received.Handle n) new → TakesFrom old (client_in old node number) new node n
response_takes_from old new node number n has takes =
    λ port all.
    let t : HubTables = old.control.tables in
    let is : IsHandleOf t node number PendingResponse = value_is_handle t node number PendingResponse refl has in
    let every : AllFrom old (client_of t is.handle) port
    = subst (λ (x : Receiver). AllFrom old x port)
    (ap (λ (o : Option HandleState). option_map_or (client_of t) o (server_of number)) is.named.there) all in
    ap (λ (o : Option HandleState). option_map_or (λ (j : HandleState). owner_of new.control.tables.pools j.pool) o 0) (takes.0).there
    ∙ every.each (handle_of new (takes.0).handle).message.sender (handle_of new (takes.0).handle).message
    (takes.1 is.handle is.named.there).came.waits
