-- A port that is lent a message has one more such loan: a client one more request, a server one more response to
-- that request.
use Rattle.std.specs.Prelude.{◌≡◌, ℕ, ◌+◌, Bool, true, false, ◌&&◌, if◌then◌else◌, ◌==◌, List, [], ◌∷◌, ◌++◌, filter, length, Option, Some, None, refl}
use Rattle.std.specs.Option.{option_map_or}
use Rattle.std.proofs.Common.{sym, subst, ap, ap₂, ◌∙◌, true≢false, eq-eqb, length-append}
use Rattle.iox_model.specs.declared.call.Call.TheVariants.{Loan, LoanUninit}
use Rattle.iox_model.specs.declared.kind.Role.{Role}
use Rattle.iox_model.specs.declared.kind.Role.TheVariants.{Client, Server}
use Rattle.iox_model.specs.declared.reply.Refusal.TheVariants.{OutOfMemory, UnknownNumber, WrongLength}
use Rattle.iox_model.specs.declared.reply.Reply.TheVariants as replies
use Rattle.iox_model.specs.declared.way.Way.{Way}
use Rattle.iox_model.specs.Begins.{begins_at, start}
use Rattle.iox_model.specs.Commands.{Call, Refusal, Reply}
use Rattle.iox_model.specs.Counts.{holding, numbered}
use Rattle.iox_model.specs.Doings.{refused, Outcome, Tells, Loans, Doing, Ended, Loaning}
use Rattle.iox_model.specs.Ends.{settled}
use Rattle.iox_model.specs.Handles.{Subject, TheHandle, ThePort, count_of, handles_of, is_request_loan, is_response_loan, subject}
use Rattle.iox_model.specs.Loans.{Choice, Order, kind_of_loan, lending_ways, loan_of, loans_of_request, memory_refusal, next_request, request_loan_refusal, response_loan_refusal, unless_refused}
use Rattle.iox_model.specs.Maps.{put_at, without_way}
use Rattle.iox_model.specs.Moments.{GetBack, Moment, SeesNoneBack, moved}
use Rattle.iox_model.specs.Names.{misnamed}
use Rattle.iox_model.specs.Outstandings.{is_dry, kept}
use Rattle.iox_model.specs.Peers.{node_of_port, port_at}
use Rattle.iox_model.specs.Responses.{lending, lends, lends_by, lends_request, lends_response, loaning, ordered, sends}
use Rattle.iox_model.specs.Settings.{is_count}
use Rattle.iox_model.specs.States.{Fixed, Handle, Port, State}
use Rattle.iox_model.specs.Transitions.{ends, next}
use Rattle.iox_model.specs.WholeCalls.{IsDone, IsWholeCall, MayCome, UnlessRefused, left_by, moved_by, replied, spent}
use Rattle.iox_tables.specs.HubLoans.Loans.{loan_call}
use Rattle.iox_laws.proofs.WeaveLaws.MapLemmas.{either, eqb-refl}
use Rattle.iox_laws.proofs.WeaveLaws.WholeLemmas.{moved_by-fixed, some-is}
use Rattle.iox_laws.proofs.WeaveLedger.Truths.{none-some}

module _ (p : Port) (test : Handle → Bool) (kept_test : (h : Handle) (payload : List ℕ) → test (holding h payload) ≡ test h) where
  -- the handle is a loan of the port that is counted
  pub record IsOf (h : Handle) : Type 0 where
    pub port : h.port ≡ p.number
    pub node : h.node ≡ p.node
    pub counts : test h ≡ true

  abbrev is_handle : Reply → Bool
  is_handle (replies.Handle n) = true
  is_handle r = false

  -- the end is a loan of the port, or it is refused
  abbrev pub IsLoan : Outcome → Type 0
  IsLoan (Tells reply) = is_handle reply ≡ false
  IsLoan (Loans h) = IsOf h
  IsLoan o = ⊥

  -- the call comes to such an end
  abbrev pub IsLending : Doing → Type 0
  IsLending (Ended o) = IsLoan o
  IsLending (Loaning copies h left) = IsOf h × (copies ≡ false)
  IsLending d = ⊥

  pub either_lends : (b : Bool) (d e : Doing) → IsLending d → IsLending e → IsLending (if b then d else e)
  either_lends b d e a c = either IsLending b d e (λ u. a) (λ u. c)

  not_copied : (s : State) (copies : Bool) (h : Handle) → IsOf h → copies ≡ false → IsLending (if copies then sends s.fixed h true else Ended (Loans h))
  not_copied s true h is e = absurd (true≢false e)
  not_copied s false h is e = is

  pub loaning_lends : (s : State) (copies : Bool) (h : Handle) (left : List Way) → IsOf h → copies ≡ false → IsLending (loaning s copies h left)
  loaning_lends s copies h [] is e =
      either_lends (is_dry s.fixed h.port (kept s h.port [])) (refused OutOfMemory) (if copies then sends s.fixed h true else Ended (Loans h)) refl
      (not_copied s copies h is e)
  loaning_lends s copies h (w ∷ left) is e = (is, e)

  next_lends : (s : State) (i : ℕ) (d : Doing) (m : Moment) → IsLending d → (next s i d m).condition → IsLending (next s i d m).after
  next_lends s i (Loaning copies h left) (GetBack w k) a c = a
  next_lends s i (Loaning copies h left) (SeesNoneBack w) a c = loaning_lends s copies h (without_way w left) a.0 a.1
  next_lends s i (Loaning copies h left) m a c = absurd c
  next_lends s i (Ended o) m a c = absurd c
  next_lends s i d m a c = absurd a

  pub by_lends : (s : State) (i : ℕ) (d : Doing) (ms : List Moment) → IsLending d → MayCome s i d ms → IsLending (left_by s i d ms)
  by_lends s i d [] a may = a
  by_lends s i d (m ∷ ms) a may = by_lends (moved s m) i (next s i d m).after ms (next_lends s i d m a may.1) may.2

  pub ended_lends : (s : State) (d : Doing) (o : Outcome) → IsLending d → ends s d ≡ Some o → IsLoan o
  ended_lends s (Ended a) o q e = subst IsLoan (some-is a o e) q
  ended_lends s (Loaning copies h left) o q e = none-some o e
  ended_lends s d o q e = absurd q

  pub unless_lends : (q : Option Refusal) (d : Doing) → IsLending d → IsLending (unless_refused q d)
  unless_lends (Some r) d a = refl
  unless_lends None d a = a

  -- ---- counts

  filtered : {A : Type 0} (test : A → Bool) (xs ys : List A) → filter test (xs ++ ys) ≡ filter test xs ++ filter test ys
  filtered test [] ys = refl
  filtered test (x ∷ xs) ys =
      either (λ zs. zs ≡ (if test x then x ∷ filter test xs else filter test xs) ++ filter test ys) (test x) (x ∷ filter test (xs ++ ys)) (filter test (xs ++ ys))
      (λ e. ap (λ zs. x ∷ zs) (filtered test xs ys) ∙ ap (λ (b : Bool). (if b then x ∷ filter test xs else filter test xs) ++ filter test ys) (sym e))
      (λ e. filtered test xs ys ∙ ap (λ (b : Bool). (if b then x ∷ filter test xs else filter test xs) ++ filter test ys) (sym e))

  -- so many of a list of handles are such loans of that port
  abbrev counted : ℕ → List Handle → ℕ
  counted n hs = length (filter test (filter (λ h. h.port == n) hs))

  one_more : (n : ℕ) (hs : List Handle) (h : Handle) → h.port ≡ n → test h ≡ true → counted n (hs ++ h ∷ []) ≡ counted n hs + 1
  one_more n hs h port counts =
      ap (λ ks. length (filter test ks)) (filtered (λ (k : Handle). k.port == n) hs (h ∷ []))
      ∙ ap (λ (b : Bool). length (filter test (of_port ++ (if b then h ∷ [] else [])))) (eq-eqb h.port n port)
      ∙ ap (λ (ks : List Handle). length ks) (filtered test of_port (h ∷ []))
      ∙ ap (λ (b : Bool). length (filter test of_port ++ (if b then h ∷ [] else []))) counts
      ∙ length-append (filter test of_port) (h ∷ [])
    where
      of_port : List Handle
      of_port = filter (λ (k : Handle). k.port == n) hs

  module _ (s t : State) (node n i : ℕ) (at : port_at s.fixed n ≡ Some p) (number : p.number ≡ n) where
    abbrev on_loan : Fixed → ℕ
    on_loan f = length (filter test (handles_of f n))

    settled_counts : (u : State) (payload : List ℕ) (o : Outcome) → u.fixed ≡ s.fixed → IsLoan o → replies.Handle i ≡ replied s.fixed node o
        → on_loan (settled u node payload o).fixed ≡ on_loan s.fixed + 1
    settled_counts u payload (Tells reply) same is e = absurd (true≢false (ap is_handle e ∙ is))
    settled_counts u payload (Loans h) same is e =
        ap (λ (ps : List Port). counted n ((put_at (numbered u.fixed node).handles h.node ((numbered u.fixed node).handles h.node ++ holding h payload ∷ [])) (node_by ps))) (ports u.fixed)
        ∙ ap (λ (f : Fixed). counted n ((put_at (numbered u.fixed node).handles h.node ((numbered u.fixed node).handles h.node ++ holding h payload ∷ [])) (node_of_port f n))) same
        ∙ ap (λ (a : ℕ). counted n ((put_at (numbered u.fixed node).handles h.node ((numbered u.fixed node).handles h.node ++ holding h payload ∷ [])) a)) on_node
        ∙ ap (λ (b : Bool). counted n (if b then (numbered u.fixed node).handles h.node ++ holding h payload ∷ [] else (numbered u.fixed node).handles p.node))
        (eq-eqb p.node h.node (sym is.node))
        ∙ one_more n ((numbered u.fixed node).handles h.node) (holding h payload) (is.port ∙ number) (kept_test h payload ∙ is.counts)
        ∙ ap (λ (hs : ℕ → List Handle). counted n (hs h.node) + 1) (handles u.fixed)
        ∙ ap (λ (f : Fixed). counted n (f.handles h.node) + 1) same
        ∙ ap (λ (a : ℕ). counted n (s.fixed.handles a) + 1) (is.node ∙ sym on_node)
      where
        node_by : List Port → ℕ
        node_by ps = node_of_port (record (u.fixed) { ports = ps }) n

        on_node : node_of_port s.fixed n ≡ p.node
        on_node = ap (λ (o : Option Port). option_map_or (λ (q : Port). q.node) o 0) at

        ports : (f : Fixed) → (numbered f node).ports ≡ f.ports
        ports f = either (λ (g : Fixed). g.ports ≡ f.ports) f.on_wire _ _ (λ b. refl) (λ b. refl)

        handles : (f : Fixed) → (numbered f node).handles ≡ f.handles
        handles f = either (λ (g : Fixed). g.handles ≡ f.handles) f.on_wire _ _ (λ b. refl) (λ b. refl)
    settled_counts u payload o same is e = absurd is

    done_counts : (call : Call) → ((c : Choice) → IsLending (start s node c call)) → IsDone s node call (replies.Handle i) t
        → on_loan t.fixed ≡ on_loan s.fixed + 1
    done_counts call begins done =
        let d : Doing = start s node done.0 call in
        let u : State = moved_by s done.2 in
        ap (λ (v : State). on_loan v.fixed) done.9
        ∙ settled_counts u done.6 done.4 (moved_by-fixed s done.2)
        (ended_lends u (left_by s node d done.2) done.4 (by_lends s node d done.2 (begins done.0) done.3) done.5) done.8

    unless_counts : (q : Option Refusal) (P : Type 0) → (P → on_loan t.fixed ≡ on_loan s.fixed + 1) → UnlessRefused q s (replies.Handle i) t P
        → on_loan t.fixed ≡ on_loan s.fixed + 1
    unless_counts (Some r) P f u = absurd (true≢false (ap is_handle u.0))
    unless_counts None P f u = f u

    -- Where a call lends in that way, there is one more such loan.
    counts_one : (call : Call) → ((c : Choice) → IsLending (start s node c call)) → IsWholeCall s node call (replies.Handle i) t
        → on_loan t.fixed ≡ on_loan s.fixed + 1
    counts_one call begins =
        unless_counts (misnamed s.fixed node call) (UnlessRefused (spent s.fixed call) s (replies.Handle i) t (IsDone s node call (replies.Handle i) t))
        (unless_counts (spent s.fixed call) (IsDone s node call (replies.Handle i) t) (done_counts call begins))

-- ---- requests

abbrev requested : Handle → Bool
requested h = is_request_loan h.kind

still_requested : (h : Handle) (payload : List ℕ) → requested (holding h payload) ≡ requested h
still_requested h payload = refl

module _ (p : Port) (client : p.role ≡ Client) where
  abbrev IsRequesting : Doing → Type 0
  IsRequesting = IsLending p requested still_requested

  is_request_of : (f : Fixed) (o : Order) (c lane request : ℕ) → IsOf p requested still_requested (loan_of f p o c lane request)
  is_request_of f o c lane request = record {
    port = refl;
    node = refl;
    counts = ap (λ (r : Role). is_request_loan (kind_of_loan r o.uninit)) client
        ∙ either (λ k. is_request_loan k ≡ true) o.uninit _ _ (λ u. refl) (λ u. refl);
  }

  request_lends : (s : State) (c : Choice) (o : Order) → o.copies ≡ false → IsRequesting (lends_request s c p o)
  request_lends s c o e =
      let h : Handle = loan_of s.fixed p o p.number c.lane (next_request s.fixed p.number) in
      unless_lends p requested still_requested (request_loan_refusal s.fixed p o.elements) (unless_refused (memory_refusal s c p.number) (lending s o.copies h))
      (unless_lends p requested still_requested (memory_refusal s c p.number) (lending s o.copies h)
      (loaning_lends p requested still_requested s o.copies h (lending_ways s.fixed h)
      (is_request_of s.fixed o p.number c.lane (next_request s.fixed p.number)) e))

  port_lends : (s : State) (c : Choice) (k : ℕ) (uninit : Bool) → IsRequesting (lends s c (ThePort p) (ordered k uninit))
  port_lends s c k uninit =
      either_lends p requested still_requested (is_count s.fixed.limits.request k) (lends_request s c p (ordered k uninit)) (refused WrongLength)
      (request_lends s c (ordered k uninit) refl) refl

  module _ (s t : State) (node n k : ℕ) (uninit : Bool) (i : ℕ) (named : subject s.fixed node n ≡ Some (ThePort p)) (at : port_at s.fixed n ≡ Some p) (number : p.number ≡ n) where
    begins : (b : Bool) (c : Choice) → IsRequesting (start s node c (loan_call b n k))
    begins true c =
        subst (λ (o : Option Subject). IsRequesting (option_map_or (begins_at s c (LoanUninit n k)) o (refused UnknownNumber))) (sym named) (port_lends s c k true)
    begins false c =
        subst (λ (o : Option Subject). IsRequesting (option_map_or (begins_at s c (Loan n k)) o (refused UnknownNumber))) (sym named) (port_lends s c k false)

    -- Where the client is lent a request, it has one more on loan.
    pub one_more_on_loan : IsWholeCall s node (loan_call uninit n k) (replies.Handle i) t → count_of t.fixed n is_request_loan ≡ count_of s.fixed n is_request_loan + 1
    one_more_on_loan = counts_one p requested still_requested s t node n i at number (loan_call uninit n k) (begins uninit)

-- ---- responses

module _ (p : Port) (server : p.role ≡ Server) (a : Handle) where
  -- the handle is a loaned response to that request
  abbrev responds : Handle → Bool
  responds l = is_response_loan l.kind && ((l.client == a.client) && (l.request == a.request))

  still_responds : (h : Handle) (payload : List ℕ) → responds (holding h payload) ≡ responds h
  still_responds h payload = refl

  abbrev IsResponding : Doing → Type 0
  IsResponding = IsLending p responds still_responds

  is_response_of : (f : Fixed) (o : Order) → IsOf p responds still_responds (loan_of f p o a.client a.lane a.request)
  is_response_of f o = record {
    port = refl;
    node = refl;
    counts = ap₂ (λ (b c : Bool). b && c)
        (ap (λ (r : Role). is_response_loan (kind_of_loan r o.uninit)) server
        ∙ either (λ k. is_response_loan k ≡ true) o.uninit _ _ (λ u. refl) (λ u. refl))
        (ap₂ (λ (b c : Bool). b && c) (eqb-refl a.client) (eqb-refl a.request));
  }

  response_lends : (s : State) (c : Choice) (o : Order) → o.copies ≡ false → IsResponding (lends_response s c a p o)
  response_lends s c o e =
      let h : Handle = loan_of s.fixed p o a.client a.lane a.request in
      unless_lends p responds still_responds (response_loan_refusal s.fixed a p o.elements) (unless_refused (memory_refusal s c p.number) (lending s o.copies h))
      (unless_lends p responds still_responds (memory_refusal s c p.number) (lending s o.copies h)
      (loaning_lends p responds still_responds s o.copies h (lending_ways s.fixed h) (is_response_of s.fixed o) e))

  handle_lends : (s : State) (c : Choice) (k : ℕ) (uninit : Bool) → port_at s.fixed a.port ≡ Some p → IsResponding (lends s c (TheHandle a) (ordered k uninit))
  handle_lends s c k uninit at =
      either_lends p responds still_responds (is_count s.fixed.limits.response k) (lends_by s c (TheHandle a) (ordered k uninit)) (refused WrongLength)
      (subst (λ (o : Option Port). IsResponding (option_map_or (λ q. lends_response s c a q (ordered k uninit)) o (refused UnknownNumber))) (sym at)
      (response_lends s c (ordered k uninit) refl)) refl

  module _ (s t : State) (node n k : ℕ) (uninit : Bool) (i : ℕ) (named : subject s.fixed node n ≡ Some (TheHandle a)) (at : port_at s.fixed a.port ≡ Some p)
      (number : p.number ≡ a.port) where
    responding_begins : (b : Bool) (c : Choice) → IsResponding (start s node c (loan_call b n k))
    responding_begins true c =
        subst (λ (o : Option Subject). IsResponding (option_map_or (begins_at s c (LoanUninit n k)) o (refused UnknownNumber))) (sym named) (handle_lends s c k true at)
    responding_begins false c =
        subst (λ (o : Option Subject). IsResponding (option_map_or (begins_at s c (Loan n k)) o (refused UnknownNumber))) (sym named) (handle_lends s c k false at)

    -- Where the server is lent a response, it has one more on loan to that request.
    pub one_more_response : IsWholeCall s node (loan_call uninit n k) (replies.Handle i) t → loans_of_request t.fixed a ≡ loans_of_request s.fixed a + 1
    one_more_response = counts_one p responds still_responds s t node a.port i at number (loan_call uninit n k) (responding_begins uninit)
