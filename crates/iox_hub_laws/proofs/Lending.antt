-- Loans of a hub answer what their tests and their pools say, and within limits they succeed.
use Rattle.std.specs.Prelude.{◌≡◌, ℕ, ◌<◌, ◌≤◌, Bool, true, false, not, if◌then◌else◌, Option, Some, refl}
use Rattle.std.specs.Option.{option_map_or}
use Rattle.std.proofs.Common.{sym, ap, ap₂, subst, ◌∙◌, arith, true≢false}
use Rattle.std.proofs.lemmas.Option.{same_Some}
use Rattle.iox_model.specs.declared.kind.Kind.TheVariants as kinds
use Rattle.iox_model.specs.declared.kind.Role.TheVariants.{Client, Server}
use Rattle.iox_model.specs.declared.reply.Refusal.TheVariants.{CallsSpent, ExceedsMaxLoans, ExceedsMaxLoanSize, OutOfMemory, WrongLength}
use Rattle.iox_model.specs.declared.reply.Reply.TheVariants as replies
use Rattle.iox_model.specs.Commands.{Refusal, Reply}
use Rattle.iox_model.specs.Settings.{Shape, shape_of}
use Rattle.iox_model.specs.WholeCalls.{IsWholeCall}
use Rattle.iox_laws.specs.ReplyLaws.Determined.{tells_want}
use Rattle.iox_laws.proofs.RunPools.Laws.{no_call}
use Rattle.iox_hub.specs.Lends.{refusal_of, reply_of_loan}
use Rattle.iox_hub.specs.LoanRefusal.{LoanRefusal}
use Rattle.iox_hub.specs.LoanRefusal.TheVariants as refusals
use Rattle.iox_hub.specs.Lent.{Lent}
use Rattle.iox_hub.specs.Lent.TheVariants as lents
use Rattle.iox_tables.specs.HubLoans.Lenders.{IsActive, IsClient, Lender, is_pool_to_be_dry, lender_of_request, lender_of_response, shape_in}
use Rattle.iox_tables.specs.HubLoans.Loans.{loan_call}
use Rattle.iox_tables.specs.HubStates.States.{Given, limits_of}
use Rattle.iox_tables.specs.HubStates.Tables.{HandleState, HubTables, PortState, port_in}
use Rattle.iox_tables.specs.HubStates.Wirings.{handle_in}
use Rattle.iox_hub.specs.Growing.{GrowsPast, WantsRoom}
use Rattle.iox_hub.specs.Hubs.{HasValue, HubState, IsHub, given_by, nothing_given, state_of_hub}
use Rattle.iox_hub.proofs.GrowingWants.{Passes, would_pass}
use Rattle.iox_hub.proofs.LendingNamed.{active_of_hub, client_of_hub}
use Rattle.iox_hub_laws.specs.Loans.{LoanAnswers, AnswersOfClient, AnswersOfRequest, IsLent, LendsWithinLimits, RespondsWithinLimits, answer_of}
use Rattle.iox_hub_laws.proofs.Loaned.{client_answers, server_answers}
use Rattle.iox_hub_laws.proofs.Unrefused.{no_refusal, no_refusal_of_server}

-- a loan is answered so, if all but want of memory is
loan_answers : (p : PortState) (k : ℕ) (answer : Reply) (l : Lent) → (tells_want (reply_of_loan l) ≡ false → reply_of_loan l ≡ answer)
    → (l ≡ lents.Refused refusals.WantOfMemory → GrowsPast p k × ((n : ℕ) × (answer ≡ replies.Handle n))) → LoanAnswers p k answer l
loan_answers p k answer (lents.Handle l) plain wants = plain refl
loan_answers p k answer (lents.Refused refusals.CallsSpent) plain wants = plain refl
loan_answers p k answer (lents.Refused refusals.WrongLength) plain wants = plain refl
loan_answers p k answer (lents.Refused refusals.ExceedsMaxLoanSize) plain wants = plain refl
loan_answers p k answer (lents.Refused refusals.ExceedsMaxLoans) plain wants = plain refl
loan_answers p k answer (lents.Refused refusals.WantOfMemory) plain wants = wants refl
loan_answers p k answer lents.OutOfMemory plain wants = plain refl

-- the loan wants memory only where it would be made
abbrev ClientWants : HubState → ℕ → ℕ → Lent → Type 0
ClientWants h n k lent =
    lent ≡ lents.Refused refusals.WantOfMemory → (p : PortState) → port_in h.control.tables.ports n ≡ Some p → WantsRoom h (lender_of_request p 0) h.request k

abbrev RequestWants : HubState → ℕ → ℕ → ℕ → Lent → Type 0
RequestWants h node n k lent =
    lent ≡ lents.Refused refusals.WantOfMemory → (a : HandleState) (p : PortState) → handle_in h.control.tables.handles node n ≡ Some a
    → port_in h.control.tables.ports a.port ≡ Some p → WantsRoom h (lender_of_response h.control.tables a p) h.response k

module _ (old new : HubState) (hub : IsHub old) (node n k : ℕ) (uninit : Bool) (lent : Lent)
    (whole : (x : Given) → IsWholeCall (state_of_hub x old) node (loan_call uninit n k) (reply_of_loan lent) (state_of_hub x new)) where
  abbrev t : HubTables
  t = old.control.tables

  abbrev x : Given
  x = given_by hub.reached.0 old

  -- what would be made is answered by a handle
  made_so : (y : Lender) (shape : Shape) → shape_in x t y.port ≡ shape → WantsRoom old y shape k → answer_of old y k ≡ replies.Handle t.next_number
  made_so y shape is wants =
      let p : Passes hub.reached.0 old y k = would_pass hub y shape k hub.reached.0 is wants in
      ap₂ (λ (o : Option Refusal) (b : Bool). option_map_or replies.Refused o (if b then replies.Refused OutOfMemory else replies.Handle t.next_number)) p.tests p.pool

  pub answers_of_client : HasValue old node n kinds.Client → ClientWants old n k lent → AnswersOfClient old n k lent
  answers_of_client is wants p there =
      let client : IsClient t node n = client_of_hub hub old refl node n is in
      let port : client.port ≡ p = same_Some client.port p (sym client.there ∙ there) in
      let role : p.role ≡ Client = ap (λ (q : PortState). q.role) (sym port) ∙ client.client in
      loan_answers p k (answer_of old (lender_of_request p 0) k) lent
      (λ quiet. subst (λ (q : PortState). reply_of_loan lent ≡ answer_of old (lender_of_request q 0) k) port
      (client_answers x t hub.control.order hub.reached.1 node n k uninit (reply_of_loan lent) (state_of_hub hub.reached.0 new) (whole hub.reached.0) quiet client))
      (λ e. let w : WantsRoom old (lender_of_request p 0) old.request k = wants e p there in
      (w.grows, (t.next_number, made_so (lender_of_request p 0) old.request (ap (shape_of (limits_of x t)) role) w)))

  pub answers_of_request : HasValue old node n kinds.ActiveRequest → RequestWants old node n k lent → AnswersOfRequest old node n k lent
  answers_of_request is wants a named p there =
      let active : IsActive t node n = active_of_hub hub old refl node n is in
      let same : active.handle ≡ a = same_Some active.handle a (sym active.named.there ∙ named) in
      let port : active.port ≡ p
      = same_Some active.port p (sym active.there ∙ ap (λ (b : HandleState). port_in t.ports b.port) same ∙ there) in
      let role : p.role ≡ Server = ap (λ (q : PortState). q.role) (sym port) ∙ active.server in
      loan_answers p k (answer_of old (lender_of_response t a p) k) lent
      (λ quiet. subst (λ (b : HandleState). reply_of_loan lent ≡ answer_of old (lender_of_response t b p) k) same
      (subst (λ (q : PortState). reply_of_loan lent ≡ answer_of old (lender_of_response t active.handle q) k) port
      (server_answers x t hub.control.order hub.reached.1 node n k uninit (reply_of_loan lent) (state_of_hub hub.reached.0 new) (whole hub.reached.0) quiet active)))
      (λ e. let w : WantsRoom old (lender_of_response t a p) old.response k = wants e a p named there in
      (w.grows, (t.next_number, made_so (lender_of_response t a p) old.response (ap (shape_of (limits_of x t)) role) w)))

  -- ---- within limits

  abbrev y : Given
  y = given_by (nothing_given old) old

  -- a refusal but for the pool is not what the pool answers
  abbrev is_test : Reply → Bool
  is_test (replies.Refused OutOfMemory) = false
  is_test (replies.Refused r) = true
  is_test r = false

  a_test : (r : LoanRefusal) → is_test (replies.Refused (refusal_of r)) ≡ true
  a_test refusals.CallsSpent = refl
  a_test refusals.WrongLength = refl
  a_test refusals.ExceedsMaxLoanSize = refl
  a_test refusals.ExceedsMaxLoans = refl
  a_test refusals.WantOfMemory = refl

  by_pool : (b : Bool) → is_test (if b then replies.Refused OutOfMemory else replies.Handle t.next_number) ≡ false
  by_pool true = refl
  by_pool false = refl

  abbrev by_dry : Bool → Reply
  by_dry b = if b then replies.Refused OutOfMemory else replies.Handle t.next_number

  refused_by : (r : LoanRefusal) (b : Bool) → replies.Refused (refusal_of r) ≡ by_dry b → ⊥
  refused_by r b e = true≢false (sym (a_test r) ∙ ap is_test e ∙ by_pool b)

  decided : (p : PortState) (l : Lent) (b : Bool) → LoanAnswers p k (by_dry b) l → (l ≡ lents.OutOfMemory → ⊥) → k ≤ p.longest → IsLent l
  decided p (lents.Handle l) b e full short = tt
  decided p (lents.Refused refusals.CallsSpent) b e full short = refused_by refusals.CallsSpent b e
  decided p (lents.Refused refusals.WrongLength) b e full short = refused_by refusals.WrongLength b e
  decided p (lents.Refused refusals.ExceedsMaxLoanSize) b e full short = refused_by refusals.ExceedsMaxLoanSize b e
  decided p (lents.Refused refusals.ExceedsMaxLoans) b e full short = refused_by refusals.ExceedsMaxLoans b e
  decided p (lents.Refused refusals.WantOfMemory) b e full short = let long : p.longest < k = e.0.1 in omega (arith, long, short)
  decided p lents.OutOfMemory b e full short = full refl

  pub lends_within_limits : HasValue old node n kinds.Client → ClientWants old n k lent → LendsWithinLimits old node n k lent
  lends_within_limits is wants p there within full =
      let client : IsClient t node n = client_of_hub hub old refl node n is in
      let role : p.role ≡ Client = ap (λ (q : PortState). q.role) (sym (same_Some client.port p (sym client.there ∙ there))) ∙ client.client in
      decided p lent (is_pool_to_be_dry y t p)
      (subst (λ (a : Reply). LoanAnswers p k a lent)
      (ap (λ (o : Option Refusal). option_map_or replies.Refused o (by_dry (is_pool_to_be_dry y t p))) (no_refusal old k p role within))
      (answers_of_client is wants p there))
      (λ e. no_call (state_of_hub hub.reached.0 old) (state_of_hub hub.reached.0 new) node (loan_call uninit n k) hub.reached.1 full
      (subst (λ (l : Lent). IsWholeCall (state_of_hub hub.reached.0 old) node (loan_call uninit n k) (reply_of_loan l) (state_of_hub hub.reached.0 new)) e (whole hub.reached.0)))
      within.length

  -- ---- of a server

  pub responds_within_limits : HasValue old node n kinds.ActiveRequest → RequestWants old node n k lent → RespondsWithinLimits old node n k lent
  responds_within_limits is wants a named p there within full =
      let active : IsActive t node n = active_of_hub hub old refl node n is in
      let same : active.handle ≡ a = same_Some active.handle a (sym active.named.there ∙ named) in
      let port : active.port ≡ p
      = same_Some active.port p (sym active.there ∙ ap (λ (b : HandleState). port_in t.ports b.port) same ∙ there) in
      let role : p.role ≡ Server = ap (λ (q : PortState). q.role) (sym port) ∙ active.server in
      decided p lent (is_pool_to_be_dry y t p)
      (subst (λ (r : Reply). LoanAnswers p k r lent)
      (ap (λ (o : Option Refusal). option_map_or replies.Refused o (by_dry (is_pool_to_be_dry y t p))) (no_refusal_of_server old k a p role within))
      (answers_of_request is wants a named p there))
      (λ e. no_call (state_of_hub hub.reached.0 old) (state_of_hub hub.reached.0 new) node (loan_call uninit n k) hub.reached.1 full
      (subst (λ (l : Lent). IsWholeCall (state_of_hub hub.reached.0 old) node (loan_call uninit n k) (reply_of_loan l) (state_of_hub hub.reached.0 new)) e (whole hub.reached.0)))
      within.length
