-- A loan answers what its tests and its pool say.
use Rattle.std.specs.Prelude.{◌≡◌, ◌⊎◌, ℕ, ◌*◌, ◌^◌, Bool, true, false, not, ◌&&◌, ◌||◌, nat_le, if◌then◌else◌, List, [], Option, Some, None, refl}
use Rattle.std.specs.Option.{option_map_or}
use Rattle.std.proofs.Common.{sym, ap, ap₂, subst, ◌∙◌, inl, inr, true≢false}
use Rattle.iox_model.specs.declared.kind.Role.{Role}
use Rattle.iox_model.specs.declared.kind.Role.TheVariants.{Client, Server}
use Rattle.iox_model.specs.declared.reply.Refusal.TheVariants.{CallsSpent, ExceedsMaxLoans, ExceedsMaxLoanSize, OutOfMemory, WantOfMemory, WrongLength}
use Rattle.iox_model.specs.declared.reply.Reply.TheVariants.{Handle, Refused}
use Rattle.iox_model.specs.Begins.{MayChoose}
use Rattle.iox_model.specs.Commands.{Call, Refusal, Reply, number_of}
use Rattle.iox_model.specs.Doings.{Outcome}
use Rattle.iox_model.specs.Handles.{subject}
use Rattle.iox_model.specs.Loans.{Choice}
use Rattle.iox_model.specs.Maps.{or_else, refused_if}
use Rattle.iox_model.specs.Names.{misnamed, suits}
use Rattle.iox_model.specs.Responses.{ordered}
use Rattle.iox_model.specs.Runs.{IsReachableState}
use Rattle.iox_model.specs.Settings.{Shape, has_layout, is_count}
use Rattle.iox_model.specs.States as m
use Rattle.iox_model.specs.WholeCalls.{IsDone, IsWholeCall, UnlessRefused, spent}
use Rattle.iox_laws.specs.CallFunctions.Answers.{answered_with, refusing, unless}
use Rattle.iox_laws.specs.CallFunctions.Calls.{call_by, LoanMayHold}
use Rattle.iox_laws.specs.CallFunctions.Loans.{handed_out, lent_from, lent_unless}
use Rattle.iox_laws.specs.ReplyLaws.Determined.{tells_want}
use Rattle.iox_laws.proofs.CallFunctions.Calling.{each_call_is_whole}
use Rattle.iox_laws.proofs.ReplyLaws.Choosing.{IsTold, answer, done_like}
use Rattle.iox_laws.proofs.ReplyLaws.Hands.{NoneInHand, none_in_hand}
use Rattle.iox_laws.proofs.ReplyLaws.Laws.{IsNear, reply_or, whole_answer, whole_near}
use Rattle.iox_laws.proofs.ReplyLaws.Ready.{reachable_states_are_ready}
use Rattle.iox_laws.proofs.RunLaws.Choices.{something_may_be_chosen}
use Rattle.iox_tables.specs.HubStates.Tables.{HubTables, PortState}
use Rattle.iox_tables.specs.HubStates.Ways.{lane_on}
use Rattle.iox_tables.specs.HubStates.States.{Given, fixed_of, message_of, state_shown}
use Rattle.iox_tables.specs.HubStates.Changes.{HasEachOnce, OfEachLane}
use Rattle.iox_tables.specs.HubBooks.Hubs.{AreInOrder}
use Rattle.iox_tables.specs.HubLoans.Counts.{requests_on_loan, responses_on_loan, responses_to}
use Rattle.iox_tables.specs.HubLoans.Lenders.{IsActive, IsClient, IsLender, Lender, calls_refusal, count_refusal_by, is_pool_dry, is_pool_to_be_dry, lender_of_request, lender_of_response, loan_refusal, shape_in, size_refusal, with_got_back}
use Rattle.iox_tables.specs.HubLoans.Loans.{loan_call}
use Rattle.iox_tables.proofs.HubBooks.Used.{each_is_once}
use Rattle.iox_tables.proofs.HubLending.Owning.{handles_are_on_nodes}
use Rattle.iox_tables.proofs.HubLoans.GotBack.{dry_pools_are_foretold}
use Rattle.iox_tables.proofs.HubLoans.Lending.{lent_tested, loan_shown, tests_of}
use Rattle.iox_tables.proofs.HubLoans.Lent.{lent_is, with_memory}
use Rattle.iox_tables.proofs.HubLoans.Loaning.{Lends, lending_kind, lends_so, loans_are_refused, passed_so}
use Rattle.iox_tables.proofs.HubLoans.Open.{some_payload_may_be_held}
use Rattle.iox_hub_laws.specs.Loans.{loan_answer}

-- ---- no test tells of want of memory

abbrev IsQuiet : Option Refusal → Type 0
IsQuiet o = option_map_or (λ r. tells_want (Refused r)) o false ≡ false

either_quiet : (a b : Option Refusal) → IsQuiet a → IsQuiet b → IsQuiet (or_else a b)
either_quiet None b p q = q
either_quiet (Some r) b p q = p

if_quiet : (b : Bool) (r : Refusal) → tells_want (Refused r) ≡ false → IsQuiet (refused_if b r)
if_quiet true r p = p
if_quiet false r p = refl

count_quiet : (role : Role) (t : HubTables) (y : Lender) → IsQuiet (count_refusal_by role t y)
count_quiet Client t y = if_quiet (nat_le t.settings.loaned_requests (requests_on_loan t y.port.number)) ExceedsMaxLoans refl
count_quiet Server t y =
    let a : Bool = nat_le y.port.loaned_responses (responses_to t y.port.number y.client y.request) in
    let b : Bool = nat_le (y.port.loaned_responses * t.settings.active_requests * t.settings.clients) (responses_on_loan t y.port.number) in
    either_quiet (refused_if a ExceedsMaxLoans) (refused_if b ExceedsMaxLoans) (if_quiet a ExceedsMaxLoans refl) (if_quiet b ExceedsMaxLoans refl)

size_quiet : (p : PortState) (shape : Shape) (k : ℕ) → IsQuiet (size_refusal p shape k)
size_quiet p shape k =
    let a : Bool = not (is_count shape k) in
    let b : Bool = not ((p.grows || nat_le k p.longest) && has_layout shape k) in
    either_quiet (refused_if a WrongLength) (refused_if b ExceedsMaxLoanSize) (if_quiet a WrongLength refl) (if_quiet b ExceedsMaxLoanSize refl)

refusal_quiet : (x : Given) (t : HubTables) (y : Lender) (k : ℕ) → IsQuiet (loan_refusal x t y k)
refusal_quiet x t y k =
    let size : Option Refusal = size_refusal y.port (shape_in x t y.port) k in
    let count : Option Refusal = count_refusal_by y.port.role t y in
    either_quiet (calls_refusal t) (or_else size count) (if_quiet (nat_le (2 ^ 56) t.calls) CallsSpent refl)
    (either_quiet size count (size_quiet y.port (shape_in x t y.port) k) (count_quiet y.port.role t y))

answer_quiet : (x : Given) (t : HubTables) (y : Lender) (k : ℕ) → tells_want (loan_answer x t y k) ≡ false
answer_quiet x t y k = by_case (loan_refusal x t y k) (refusal_quiet x t y k) (is_pool_to_be_dry x t y.port)
  where
    by_case : (o : Option Refusal) → IsQuiet o → (b : Bool)
        → tells_want (option_map_or Refused o (if b then Refused OutOfMemory else Handle t.next_number)) ≡ false
    by_case (Some r) p b = p
    by_case None p true = refl
    by_case None p false = refl

-- ---- the call's function

-- an unfilled loan holds nothing
abbrev held : Bool → List ℕ → List ℕ
held true payload = []
held false payload = payload

suits_loan : (uninit : Bool) (n k : ℕ) (role : Role) → suits false (loan_call uninit n k) (lending_kind role) ≡ true
suits_loan true n k Client = refl
suits_loan true n k Server = refl
suits_loan false n k Client = refl
suits_loan false n k Server = refl

names_it : (uninit : Bool) (n k : ℕ) → number_of (loan_call uninit n k) ≡ n
names_it true n k = refl
names_it false n k = refl

module _ (x : Given) (t : HubTables) (node n k : ℕ) (uninit : Bool) (c : Choice) (payload : List ℕ) (y : Lender) (is : Lends x t node n c y) where
  abbrev s : m.State
  s = state_shown x t

  abbrev loan : m.Handle
  loan = loan_shown x t y (ordered k uninit)

  abbrev v : Outcome × m.State
  v = lent_tested handed_out s c y.port.number loan

  by_call : (uninit : Bool) → call_by s node (loan_call uninit n k) c payload
      ≡ unless (misnamed (fixed_of x t) node (loan_call uninit n k)) s (unless (calls_refusal t) s (answered_with s node (held uninit payload) (lent_from handed_out s c (subject (fixed_of x t) node n) (ordered k uninit))))
  by_call true = refl
  by_call false = refl

  call_is : call_by s node (loan_call uninit n k) c payload
      ≡ unless (calls_refusal t) s (answered_with s node (held uninit payload) (lent_unless (tests_of x t y k) s v))
  call_is =
      by_call uninit
      ∙ ap₂ (λ (o : Option Refusal) (w : Outcome × m.State). unless o s (unless (calls_refusal t) s (answered_with s node (held uninit payload) w)))
      (is.named (loan_call uninit n k) (names_it uninit n k) (suits_loan uninit n k y.port.role)) (is.lends handed_out (ordered k uninit))

  abbrev back : m.State
  back = state_shown x (with_got_back t y.port)

  decided : (b : Bool) → (answered_with s node (held uninit payload) (if b then refusing OutOfMemory back else handed_out back loan)).0
      ≡ (if b then Refused OutOfMemory else Handle t.next_number)
  decided true = refl
  decided false = refl

  passed : loan_refusal x t y k ≡ None → c.memory ≡ true → OfEachLane (HasEachOnce (message_of x t.pools)) (lane_on t.ports)
      → (call_by s node (loan_call uninit n k) c payload).0 ≡ (if is_pool_dry x t y.port then Refused OutOfMemory else Handle t.next_number)
  passed e has once =
      ap (λ (w : Reply × m.State). w.0) (call_is ∙ passed_so s node (held uninit payload) v (calls_refusal t) (tests_of x t y k) e)
      ∙ ap (λ (w : Outcome × m.State). (answered_with s node (held uninit payload) w).0)
      (with_memory x t y is.there handed_out c (ordered k uninit) has ∙ lent_is x t y is.there handed_out (ordered k uninit) once)
      ∙ decided (is_pool_dry x t y.port)

  module _ (order : AreInOrder t) (on : IsLender t node n c.lane y) (has : c.memory ≡ true) where
    answers : (call_by s node (loan_call uninit n k) c payload).0 ≡ loan_answer x t y k
    answers = by_case (loan_refusal x t y k) refl
      where
        once : OfEachLane (HasEachOnce (message_of x t.pools)) (lane_on t.ports)
        once = each_is_once x t order

        pool : Reply
        pool = if is_pool_to_be_dry x t y.port then Refused OutOfMemory else Handle t.next_number

        by_case : (o : Option Refusal) → loan_refusal x t y k ≡ o → (call_by s node (loan_call uninit n k) c payload).0 ≡ option_map_or Refused o pool
        by_case (Some r) e =
            ap (λ (w : Reply × m.State). w.0) (loans_are_refused x t node n k uninit c payload y r on (handles_are_on_nodes t order) e)
        by_case None e =
            passed e has once
            ∙ ap (λ (b : Bool). if b then Refused OutOfMemory else Handle t.next_number) (sym (dry_pools_are_foretold x t y.port is.there once))

-- ---- any whole call

-- the reply is that one, or says that there was no memory
abbrev pub OrWants : Reply → Reply → Type 0
OrWants a b = (a ≡ b) ⊎ (a ≡ Refused WantOfMemory)

wants_unless : (q : Option Refusal) (s t : m.State) (a b : Reply) (P : Type 0) → (q ≡ None → P → OrWants a b) → UnlessRefused q s a t P
    → OrWants a (reply_or q b)
wants_unless (Some r) s t a b P f u = inl u.0
wants_unless None s t a b P f u = f refl u

done_wants : (call : Call) (memory : Bool) (a b : Reply) → IsTold call memory a b → OrWants a b
done_wants call memory a b (inl e) = inl e
done_wants call memory a b (inr want) = inr want.2

whole_wants : (s t : m.State) (node : ℕ) (call : Call) (a : Reply) → NoneInHand s → IsWholeCall s node call a t → OrWants a (whole_answer s node call)
whole_wants s t node call a none =
    wants_unless (misnamed s.fixed node call) s t a (reply_or (spent s.fixed call) (answer s node call)) (UnlessRefused (spent s.fixed call) s a t (IsDone s node call a t))
    (λ named. wants_unless (spent s.fixed call) s t a (answer s node call) (IsDone s node call a t)
    (λ u done. done_wants call (done.0).memory a (answer s node call) (done_like s t node call a none named done)))

plainly : (a b : Reply) → OrWants a b → tells_want a ≡ false → a ≡ b
plainly a b (inl e) quiet = e
plainly a b (inr e) quiet = absurd (true≢false (ap tells_want (sym e) ∙ quiet))

near : (a b c : Reply) → IsNear a b → a ≡ c → tells_want c ≡ false → b ≡ c
near a b c (inl e) same quiet = sym e ∙ same
near a b c (inr e) same quiet = absurd (true≢false (sym e ∙ ap tells_want same ∙ quiet))

module _ (x : Given) (t : HubTables) (order : AreInOrder t) (reached : IsReachableState (state_shown x t)) (node n k : ℕ) (uninit : Bool) where
  abbrev call : Call
  call = loan_call uninit n k

  abbrev now : m.State
  now = state_shown x t

  chosen : (c : Choice) (y : Lender) → IsLender t node n c.lane y → c.memory ≡ true → MayChoose (fixed_of x t) node c call
      → whole_answer now node call ≡ loan_answer x t y k
  chosen c y on has may =
      let p : (payload : List ℕ) × LoanMayHold now node call c payload = some_payload_may_be_held x t node call c in
      let so : Lends x t node n c y = lends_so x t node n c (handles_are_on_nodes t order) y on in
      let same : (call_by now node call c p.0).0 ≡ loan_answer x t y k = answers x t node n k uninit c p.0 y so order on has in
      near (call_by now node call c p.0).0 (whole_answer now node call) (loan_answer x t y k)
      (whole_near now (call_by now node call c p.0).1 node call (call_by now node call c p.0).0 (none_in_hand now reached)
      (each_call_is_whole now node call c p.0 (reachable_states_are_ready now node reached) may p.1))
      same (answer_quiet x t y k)

  -- a client's loan takes some lane, and its answer does not depend on that
  same_refusal : (p : PortState) (a b : ℕ) (role : Role) → count_refusal_by role t (lender_of_request p a) ≡ count_refusal_by role t (lender_of_request p b)
  same_refusal p a b Client = refl
  same_refusal p a b Server = refl

  same_answer : (p : PortState) (a b : ℕ) → loan_answer x t (lender_of_request p a) k ≡ loan_answer x t (lender_of_request p b) k
  same_answer p a b =
      ap (λ (o : Option Refusal). option_map_or Refused (or_else (calls_refusal t) (or_else (size_refusal p (shape_in x t p) k) o))
      (if is_pool_to_be_dry x t p then Refused OutOfMemory else Handle t.next_number)) (same_refusal p a b p.role)

  of_client : (client : IsClient t node n) → whole_answer now node call ≡ loan_answer x t (lender_of_request client.port 0) k
  of_client client =
      let p = something_may_be_chosen (fixed_of x t) node call true refl in
      chosen p.0 (lender_of_request client.port p.0.lane) (inl (client, refl)) p.1 p.2 ∙ same_answer client.port p.0.lane 0

  of_server : (active : IsActive t node n) → whole_answer now node call ≡ loan_answer x t (lender_of_response t active.handle active.port) k
  of_server active =
      let p = something_may_be_chosen (fixed_of x t) node call true refl in
      chosen p.0 (lender_of_response t active.handle active.port) (inr (active, refl)) p.1 p.2

  module _ (reply : Reply) (u : m.State) (whole : IsWholeCall now node call reply u) where
    wants : OrWants reply (whole_answer now node call)
    wants = whole_wants now u node call reply (none_in_hand now reached) whole

    pub client_tells : (client : IsClient t node n) → OrWants reply (loan_answer x t (lender_of_request client.port 0) k)
    client_tells client = subst (λ (a : Reply). OrWants reply a) (of_client client) wants

    pub server_tells : (active : IsActive t node n) → OrWants reply (loan_answer x t (lender_of_response t active.handle active.port) k)
    server_tells active = subst (λ (a : Reply). OrWants reply a) (of_server active) wants

    pub client_answers : tells_want reply ≡ false → (client : IsClient t node n) → reply ≡ loan_answer x t (lender_of_request client.port 0) k
    client_answers quiet client = plainly reply (loan_answer x t (lender_of_request client.port 0) k) (client_tells client) quiet

    pub server_answers : tells_want reply ≡ false → (active : IsActive t node n)
        → reply ≡ loan_answer x t (lender_of_response t active.handle active.port) k
    server_answers quiet active = plainly reply (loan_answer x t (lender_of_response t active.handle active.port) k) (server_tells active) quiet
