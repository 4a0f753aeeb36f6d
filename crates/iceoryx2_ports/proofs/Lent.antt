-- The handle of a new loan: of a client, or of a server for an active request.
use Rattle.std.specs.Prelude.{◌≡◌, ℕ, Bool, true, false, ◌&&◌, ◌==◌, List, [], ◌∷◌, ◌++◌, find, Option, None, Some, refl}
use Rattle.std.specs.Option.{option_map, option_map_or}
use Rattle.std.proofs.Common.{sym, ap, ap₂, subst, ◌∙◌, eq-eqb, eqb-true, true≢false}
use Rattle.std.proofs.lemmas.Option.{same_Some}
use Rattle.iox_model.specs.declared.call.Call.TheVariants.{Loan, LoanUninit}
use Rattle.iox_model.specs.declared.kind.Kind.TheVariants as kinds
use Rattle.iox_model.specs.declared.kind.Kind.TheVariants.{ActiveRequest}
use Rattle.iox_model.specs.declared.reply.Refusal.TheVariants.{UnknownNumber, WrongLength}
use Rattle.iox_model.specs.declared.reply.Reply.TheVariants as replies
use Rattle.iox_model.specs.Begins.{begins_at, start}
use Rattle.iox_model.specs.Commands.{Call, Refusal, Reply}
use Rattle.iox_model.specs.Counts.{holding, numbered}
use Rattle.iox_model.specs.Doings.{refused, Doing, Loans, Outcome, Receiver, Tells}
use Rattle.iox_model.specs.Ends.{settled}
use Rattle.iox_model.specs.Handles.{Subject, TheHandle, ThePort, handle_at, new_number, subject}
use Rattle.iox_model.specs.Loans.{Choice, Order, lending_ways, loan_of, memory_refusal, next_request, request_loan_refusal, response_loan_refusal, unless_refused}
use Rattle.iox_model.specs.Maps.{put_at}
use Rattle.iox_model.specs.Names.{misnamed}
use Rattle.iox_model.specs.Peers.{port_at}
use Rattle.iox_model.specs.Responses.{lending, lends, lends_by, lends_request, lends_response, ordered}
use Rattle.iox_model.specs.Settings.{is_count}
use Rattle.iox_model.specs.States.{Fixed, Handle, Port, State}
use Rattle.iox_model.specs.WholeCalls.{IsDone, IsWholeCall, UnlessRefused, left_by, moved_by, replied, spent}
use Rattle.iox_laws.proofs.RunLaws.Runs.{left_calm, whole_calm}
use Rattle.iox_laws.proofs.RunLaws.Settling.{Calm}
use Rattle.iox_laws.proofs.WeaveLaws.MapLemmas.{eqb-refl}
use Rattle.iox_laws.proofs.WeaveLaws.WholeLemmas.{moved_by-fixed, put_at-here}
use Rattle.iox_laws.proofs.WeaveLedger.Lists.{IsAmong, find-own}
use Rattle.iox_tables.specs.HubBooks.Handles.{IsOfPort}
use Rattle.iox_tables.specs.HubLoans.Lenders.{IsActive, IsClient}
use Rattle.iox_tables.specs.HubLoans.Loans.{loan_call}
use Rattle.iox_tables.specs.HubStates.States.{Given, message_of, port_of}
use Rattle.iox_tables.specs.HubStates.Tables.{HubTables, PortState}
use Rattle.iox_tables.proofs.HubBooks.Used.{handle_is}
use Rattle.iox_tables.proofs.HubStates.Fixing.{find_handle, find_port, first_key}
use Rattle.iox_tables.proofs.HubStates.Naming.{each_handle_is_named, each_port_is_named, handle_node}
use Rattle.iox_hub_laws.specs.Hubs.{HasValue, HubState, IsHub, given_by, nothing_given, state_of_hub}
use Rattle.iox_hub_laws.proofs.LendingNamed.{active_of_hub, client_of_hub}
use Rattle.iox_hub_laws.specs.Sends.{NothingComes}
use Rattle.iox_hub_laws.specs.Shown.{handle_of, shown}
use Rattle.iox_hub_laws.specs.Waiting.{client_in}
use Rattle.iox_hub_laws.proofs.Takes.{last_among, number_in}
use Rattle.iceoryx2_ports.specs.Asking.{AnswersAs, LendsQuietly}
use Rattle.iceoryx2_ports.specs.Idling.{IsIdle}
use Rattle.iceoryx2_ports.specs.Reaching.{KeepsRoom}
use Rattle.iceoryx2_ports.proofs.Asking.{IsLike, answers_as, client_shown, own_asker}
use Rattle.iceoryx2_ports.proofs.Counted.{IsLending, IsLoan, IsOf, by_lends, either_lends, ended_lends, loaning_lends, unless_lends}
use Rattle.iceoryx2_ports.proofs.LoanLimits.{a_handle}
use Rattle.iceoryx2_ports.proofs.Opening.{loan_keeps_open}

-- ---- truths

first_of_both : (b c : Bool) → (b && c) ≡ true → b ≡ true
first_of_both true c e = refl
first_of_both false c e = e

last_of_both : (b c : Bool) → (b && c) ≡ true → c ≡ true
last_of_both true c e = e
last_of_both false c e = absurd (true≢false (sym e))

-- ---- the loan that a call hands out

module _ (p : Port) (test : Handle → Bool) (kept_test : (h : Handle) (payload : List ℕ) → test (holding h payload) ≡ test h) where
  abbrev is_handle : Reply → Bool
  is_handle (replies.Handle n) = true
  is_handle r = false

  module _ (s t : State) (node i : ℕ) (calm : Calm t) (on_node : p.node ≡ node)
      (counts : (h : Handle) → test h ≡ true → h.number ≡ new_number s.fixed node) where
    -- the loan is there, under its number
    pub record IsHandedOut : Type 0 where
      pub handle : Handle
      pub there : handle_at t.fixed node i ≡ Some handle
      pub is : IsOf p test kept_test handle

    handed_out : (u : State) (payload : List ℕ) (o : Outcome) → u.fixed ≡ s.fixed → IsLoan p test kept_test o → replies.Handle i ≡ replied s.fixed node o
        → t ≡ settled u node payload o → IsHandedOut
    handed_out u payload (Tells reply) same loan e left = absurd (true≢false (ap is_handle e ∙ loan))
    handed_out u payload (Loans h) same loan e left =
        let g : Handle = holding h payload in
        let among : IsAmong g (t.fixed.handles node)
        = subst (λ (v : State). IsAmong g (v.fixed.handles node)) (sym left)
        (subst (λ (a : ℕ). IsAmong g (put_at (numbered u.fixed node).handles h.node ((numbered u.fixed node).handles h.node ++ g ∷ []) a)) (loan.node ∙ on_node)
        (subst (IsAmong g) (sym (put_at-here (numbered u.fixed node).handles h.node ((numbered u.fixed node).handles h.node ++ g ∷ [])))
        (last_among g ((numbered u.fixed node).handles h.node)))) in
        let numbered_so : g.number ≡ i = counts h loan.counts ∙ sym (ap number_in e) in
        record {
          handle = g;
          there = subst (λ (j : ℕ). find (λ (k : Handle). k.number == j) (t.fixed.handles node) ≡ Some g) numbered_so
              (find-own (λ (k : Handle). k.number) (t.fixed.handles node) g (((calm.rests).fixed).handles node).apart among);
          is = record { port = loan.port; node = loan.node; counts = kept_test h payload ∙ loan.counts };
        }
    handed_out u payload o same loan e left = absurd loan

    done_hands_out : (call : Call) → ((c : Choice) → IsLending p test kept_test (start s node c call)) → IsDone s node call (replies.Handle i) t → IsHandedOut
    done_hands_out call begins done =
        let d : Doing = start s node done.0 call in
        let u : State = moved_by s done.2 in
        handed_out u done.6 done.4 (moved_by-fixed s done.2)
        (ended_lends p test kept_test u (left_by s node d done.2) done.4 (by_lends p test kept_test s node d done.2 (begins done.0) done.3) done.5) done.8 done.9

    unless_hands_out : (q : Option Refusal) (P : Type 0) → (P → IsHandedOut) → UnlessRefused q s (replies.Handle i) t P → IsHandedOut
    unless_hands_out (Some r) P f u = absurd (true≢false (ap is_handle u.0))
    unless_hands_out None P f u = f u

    pub hands_out : (call : Call) → ((c : Choice) → IsLending p test kept_test (start s node c call)) → IsWholeCall s node call (replies.Handle i) t → IsHandedOut
    hands_out call begins =
        unless_hands_out (misnamed s.fixed node call) (UnlessRefused (spent s.fixed call) s (replies.Handle i) t (IsDone s node call (replies.Handle i) t))
        (unless_hands_out (spent s.fixed call) (IsDone s node call (replies.Handle i) t) (done_hands_out call begins))

-- ---- of a client

module _ (p : Port) (f : Fixed) where
  -- the handle has the next number
  abbrev is_next : Handle → Bool
  is_next l = l.number == new_number f p.node

  next_kept : (h : Handle) (payload : List ℕ) → is_next (holding h payload) ≡ is_next h
  next_kept h payload = refl

  abbrev Requests : Doing → Type 0
  Requests = IsLending p is_next next_kept

  requests : (s : State) → s.fixed ≡ f → (c : Choice) (o : Order) → o.copies ≡ false → Requests (lends_request s c p o)
  requests s same c o e =
      let h : Handle = loan_of s.fixed p o p.number c.lane (next_request s.fixed p.number) in
      unless_lends p is_next next_kept (request_loan_refusal s.fixed p o.elements) (unless_refused (memory_refusal s c p.number) (lending s o.copies h))
      (unless_lends p is_next next_kept (memory_refusal s c p.number) (lending s o.copies h)
      (loaning_lends p is_next next_kept s o.copies h (lending_ways s.fixed h)
      (record { port = refl; node = refl; counts = eq-eqb (new_number s.fixed p.node) (new_number f p.node) (ap (λ (g : Fixed). new_number g p.node) same) }) e))

  port_requests : (s : State) → s.fixed ≡ f → (c : Choice) (k : ℕ) (uninit : Bool) → Requests (lends s c (ThePort p) (ordered k uninit))
  port_requests s same c k uninit =
      either_lends p is_next next_kept (is_count s.fixed.limits.request k) (lends_request s c p (ordered k uninit)) (refused WrongLength)
      (requests s same c (ordered k uninit) refl) refl

  request_begins : (s : State) → s.fixed ≡ f → (node n k : ℕ) → subject s.fixed node n ≡ Some (ThePort p) → (b : Bool) (c : Choice)
      → Requests (start s node c (loan_call b n k))
  request_begins s same node n k named true c =
      subst (λ (o : Option Subject). Requests (option_map_or (begins_at s c (LoanUninit n k)) o (refused UnknownNumber))) (sym named) (port_requests s same c k true)
  request_begins s same node n k named false c =
      subst (λ (o : Option Subject). Requests (option_map_or (begins_at s c (Loan n k)) o (refused UnknownNumber))) (sym named) (port_requests s same c k false)

-- ---- of a server

module _ (p : Port) (f : Fixed) (a : Handle) where
  -- the handle has the next number, and is for that request
  abbrev is_for : Handle → Bool
  is_for l = (l.number == new_number f p.node) && ((l.client == a.client) && ((l.lane == a.lane) && (l.request == a.request)))

  for_kept : (h : Handle) (payload : List ℕ) → is_for (holding h payload) ≡ is_for h
  for_kept h payload = refl

  abbrev Responds : Doing → Type 0
  Responds = IsLending p is_for for_kept

  is_for_it : (g : Fixed) (o : Order) → g ≡ f → is_for (loan_of g p o a.client a.lane a.request) ≡ true
  is_for_it g o same =
      ap₂ (λ (b c : Bool). b && c) (eq-eqb (new_number g p.node) (new_number f p.node) (ap (λ (e : Fixed). new_number e p.node) same))
      (ap₂ (λ (b c : Bool). b && c) (eqb-refl a.client) (ap₂ (λ (b c : Bool). b && c) (eqb-refl a.lane) (eqb-refl a.request)))

  responds : (s : State) → s.fixed ≡ f → (c : Choice) (o : Order) → o.copies ≡ false → Responds (lends_response s c a p o)
  responds s same c o e =
      let h : Handle = loan_of s.fixed p o a.client a.lane a.request in
      unless_lends p is_for for_kept (response_loan_refusal s.fixed a p o.elements) (unless_refused (memory_refusal s c p.number) (lending s o.copies h))
      (unless_lends p is_for for_kept (memory_refusal s c p.number) (lending s o.copies h)
      (loaning_lends p is_for for_kept s o.copies h (lending_ways s.fixed h)
      (record { port = refl; node = refl; counts = is_for_it s.fixed o same }) e))

  handle_responds : (s : State) → s.fixed ≡ f → (c : Choice) (k : ℕ) (uninit : Bool) → port_at s.fixed a.port ≡ Some p → Responds (lends s c (TheHandle a) (ordered k uninit))
  handle_responds s same c k uninit at =
      either_lends p is_for for_kept (is_count s.fixed.limits.response k) (lends_by s c (TheHandle a) (ordered k uninit)) (refused WrongLength)
      (subst (λ (o : Option Port). Responds (option_map_or (λ q. lends_response s c a q (ordered k uninit)) o (refused UnknownNumber))) (sym at)
      (responds s same c (ordered k uninit) refl)) refl

  response_begins : (s : State) → s.fixed ≡ f → (node n k : ℕ) → subject s.fixed node n ≡ Some (TheHandle a) → port_at s.fixed a.port ≡ Some p → (b : Bool) (c : Choice)
      → Responds (start s node c (loan_call b n k))
  response_begins s same node n k named at true c =
      subst (λ (o : Option Subject). Responds (option_map_or (begins_at s c (LoanUninit n k)) o (refused UnknownNumber))) (sym named) (handle_responds s same c k true at)
  response_begins s same node n k named at false c =
      subst (λ (o : Option Subject). Responds (option_map_or (begins_at s c (Loan n k)) o (refused UnknownNumber))) (sym named) (handle_responds s same c k false at)

-- ---- of a hub

module _ (old new : HubState) (hub : IsHub old) (node client k : ℕ) (uninit : Bool) (i : ℕ) (has : HasValue old node client kinds.Client)
    (whole : (x : Given) → IsWholeCall (state_of_hub x old) node (loan_call uninit client k) (a_handle i) (state_of_hub x new)) where
  abbrev ts : HubTables
  ts = old.control.tables

  abbrev x : Given
  x = given_by hub.reached.0 old

  abbrev z : State
  z = state_of_hub hub.reached.0 old

  abbrev u : State
  u = state_of_hub hub.reached.0 new

  lender : IsClient ts node client
  lender = client_of_hub hub old refl node client has

  abbrev p : Port
  p = port_of x lender.port

  made : IsHandedOut p (is_next p z.fixed) (next_kept p z.fixed) z u node i
      (whole_calm z node (loan_call uninit client k) (a_handle i) u (left_calm z hub.reached.1) (whole hub.reached.0)) lender.on_node
      (λ h e. eqb-true h.number (new_number z.fixed p.node) e ∙ ap (new_number z.fixed) lender.on_node)
  made =
      hands_out p (is_next p z.fixed) (next_kept p z.fixed) z u node i
      (whole_calm z node (loan_call uninit client k) (a_handle i) u (left_calm z hub.reached.1) (whole hub.reached.0)) lender.on_node
      (λ h e. eqb-true h.number (new_number z.fixed p.node) e ∙ ap (new_number z.fixed) lender.on_node)
      (loan_call uninit client k)
      (request_begins p z.fixed z refl node client k (each_port_is_named x ts node client lender.port lender.there lender.held).names uninit) (whole hub.reached.0)

  -- A request that is lent is of its client.
  pub lends_by_client : (client_in new node i).port ≡ client
  lends_by_client =
      ap (λ (r : Receiver). r.port) (client_shown new node i made.handle made.there) ∙ made.is.port
      ∙ first_key (λ (q : PortState). q.number) ts.ports client lender.port lender.there

  -- A client that was idle for each request is so for that of its new loan.
  pub lends_quietly : NothingComes old new → KeepsRoom old new → LendsQuietly old client new node i
  lends_quietly comes room quiet =
      let g : Handle = made.handle in
      let who : client_in new node i ≡ own_asker g = client_shown new node i g made.there in
      let its : g.port ≡ client = made.is.port ∙ first_key (λ (q : PortState). q.number) ts.ports client lender.port lender.there in
      let idle : IsIdle old (own_asker g) =
      subst (λ (c : ℕ). IsIdle old (record (own_asker g) { port = c })) (sym its) (quiet g.lane g.request) in
      subst (IsIdle new) (sym who) (record { none = comes (own_asker g) idle.none; room = room (own_asker g) idle.room })

module _ (old new : HubState) (hub : IsHub old) (node n k : ℕ) (uninit : Bool) (i : ℕ) (has : HasValue old node n ActiveRequest)
    (whole : (x : Given) → IsWholeCall (state_of_hub x old) node (loan_call uninit n k) (a_handle i) (state_of_hub x new)) where
  abbrev tables : HubTables
  tables = old.control.tables

  abbrev given : Given
  given = given_by hub.reached.0 old

  abbrev before : State
  before = state_of_hub hub.reached.0 old

  abbrev after : State
  after = state_of_hub hub.reached.0 new

  active : IsActive tables node n
  active = active_of_hub hub old refl node n has

  abbrev q : Port
  q = port_of given active.port

  abbrev a : Handle
  a = handle_of old active.handle

  of_port : IsOfPort tables active.handle
  of_port = handle_is (IsOfPort tables) tables.handles node n active.handle hub.control.order.ports active.named.there

  -- the server is on the node of the active request
  on_node : q.node ≡ node
  on_node =
      ap (λ (b : PortState). b.node) (same_Some active.port of_port.port (sym active.there ∙ of_port.there)) ∙ sym of_port.on_node
      ∙ handle_node tables.handles node n active.handle active.named.there

  at : port_at before.fixed a.port ≡ Some q
  at = find_port given tables.ports active.handle.port ∙ ap (option_map (port_of given)) active.there

  number : q.number ≡ a.port
  number = first_key (λ (b : PortState). b.number) tables.ports active.handle.port active.port active.there

  here : handle_at (shown old).fixed node n ≡ Some a
  here =
      find_handle (given_by (nothing_given old) old) (message_of (given_by (nothing_given old) old) tables.pools) tables.handles node n
      ∙ ap (option_map (handle_of old)) active.named.there

  calm : Calm after
  calm = whole_calm before node (loan_call uninit n k) (a_handle i) after (left_calm before hub.reached.1) (whole hub.reached.0)

  abbrev its : Handle → Bool
  its = is_for q before.fixed a

  counted : (h : Handle) → its h ≡ true → h.number ≡ new_number before.fixed node
  counted h e =
      eqb-true h.number (new_number before.fixed q.node)
      (first_of_both (h.number == new_number before.fixed q.node) ((h.client == a.client) && ((h.lane == a.lane) && (h.request == a.request))) e)
      ∙ ap (new_number before.fixed) on_node

  loan : IsHandedOut q its (for_kept q before.fixed a) before after node i calm on_node counted
  loan =
      hands_out q its (for_kept q before.fixed a) before after node i calm on_node counted (loan_call uninit n k)
      (response_begins q before.fixed a before refl node n k (each_handle_is_named given tables node n active.handle active.named).names at uninit)
      (whole hub.reached.0)

  like : IsLike a loan.handle
  like =
      let l : Handle = loan.handle in
      let rest : ((l.client == a.client) && ((l.lane == a.lane) && (l.request == a.request))) ≡ true
      = last_of_both (l.number == new_number before.fixed q.node) ((l.client == a.client) && ((l.lane == a.lane) && (l.request == a.request))) loan.is.counts in
      let last : ((l.lane == a.lane) && (l.request == a.request)) ≡ true
      = last_of_both (l.client == a.client) ((l.lane == a.lane) && (l.request == a.request)) rest in
      record {
        port = loan.is.port ∙ number;
        client = eqb-true l.client a.client (first_of_both (l.client == a.client) ((l.lane == a.lane) && (l.request == a.request)) rest);
        lane = eqb-true l.lane a.lane (first_of_both (l.lane == a.lane) (l.request == a.request) last);
        request = eqb-true l.request a.request (last_of_both (l.lane == a.lane) (l.request == a.request) last);
      }

  -- A response that is lent is for the request of its active request.
  pub lends_for : AnswersAs old node n new node i
  lends_for = answers_as old new node n node i a loan.handle here loan.there like (loan_keeps_open old new node uninit n k (a_handle i) whole)
