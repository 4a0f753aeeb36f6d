-- Loan, write and send in one are the machine's.
use Rattle.std.specs.Prelude.{◌≡◌, ℕ, Bool, true, false, if◌then◌else◌, List, [], Option, Some, None, refl}
use Rattle.std.proofs.Common.{ap, ap₂, ◌∙◌}
use Rattle.iox_model.specs.declared.kind.Kind.TheVariants.{ActiveRequest, PendingResponse, RequestMut, ResponseMut}
use Rattle.iox_model.specs.declared.kind.Kind.TheVariants as kinds
use Rattle.iox_model.specs.declared.kind.Role.{Role}
use Rattle.iox_model.specs.declared.kind.Role.TheVariants.{Client, Server}
use Rattle.iox_model.specs.declared.call.Call.TheVariants.{SendCopy}
use Rattle.iox_model.specs.declared.reply.Refusal.TheVariants.{OutOfMemory, WantOfMemory, WrongLength}
use Rattle.iox_model.specs.declared.reply.Reply.TheVariants.{Refused}
use Rattle.iox_model.specs.Commands.{Payload, Refusal, Reply}
use Rattle.iox_model.specs.Doings.{Outcome}
use Rattle.iox_model.specs.Handles.{Subject, same_kind, subject}
use Rattle.iox_model.specs.Loans.{Choice}
use Rattle.iox_model.specs.Maps.{or_else}
use Rattle.iox_model.specs.Settings.{is_client}
use Rattle.iox_model.specs.States as m
use Rattle.iox_laws.specs.CallFunctions.Answers.{answered, refusing, unless}
use Rattle.iox_laws.specs.CallFunctions.Calls.{call_by}
use Rattle.iox_laws.specs.CallFunctions.Copies.{copied_from, sent_at_once, copied_order}
use Rattle.iox_laws.specs.CallFunctions.Loans.{lent_unless}
use Rattle.iox_laws.specs.CallFunctions.LoanSends.{sent_of}
use Rattle.iox_tables.specs.HubStates.Tables.{HubTables}
use Rattle.iox_tables.specs.HubStates.Ways.{lane_on}
use Rattle.iox_tables.specs.HubStates.States.{Given, fixed_of, message_of, state_shown}
use Rattle.iox_tables.specs.HubStates.Changes.{HasEachOnce, OfEachLane}
use Rattle.iox_tables.specs.HubLoans.Copies.{CopiesAreRefused, CopiesFindDryPools, CopiesWantMemory, copy_refusal}
use Rattle.iox_tables.specs.HubLoans.Lenders.{Lender, calls_refusal, is_pool_dry, is_pool_to_be_dry, loan_refusal, with_got_back}
use Rattle.iox_tables.proofs.HubLoans.Lending.{lent_tested, loan_shown, tests_of}
use Rattle.iox_tables.proofs.HubLoans.Lent.{lent_is, with_memory, without_memory}
use Rattle.iox_tables.proofs.HubLoans.Loaning.{Lends, lending_kind, lends_so, passed_so, refused_so}

suits_copy : (role : Role) → (if is_client role then same_kind (lending_kind role) kinds.Client else same_kind (lending_kind role) ActiveRequest) ≡ true
suits_copy Client = refl
suits_copy Server = refl

module _ (x : Given) (t : HubTables) (node n : ℕ) (p : Payload) (c : Choice) (payload : List ℕ) (y : Lender) (is : Lends x t node n c y) (role : p.role ≡ y.port.role) where
  abbrev s : m.State
  s = state_shown x t

  abbrev tells : Reply → m.State → Reply × m.State
  tells r u = (r, u)

  copy_is : call_by s node (SendCopy n p) c payload
      ≡ unless (calls_refusal t) s (answered s node (copied_from s c (subject (fixed_of x t) node n) p.elements p.words))
  copy_is =
      ap (λ (o : Option Refusal). unless o s (unless (calls_refusal t) s (answered s node (copied_from s c (subject (fixed_of x t) node n) p.elements p.words))))
      (is.named (SendCopy n p) refl
      (ap (λ r. if is_client r then same_kind (lending_kind y.port.role) kinds.Client else same_kind (lending_kind y.port.role) ActiveRequest) role ∙ suits_copy y.port.role))

  -- of no whole number of elements
  pub not_whole : p.elements ≡ None → (r : Refusal) → or_else (calls_refusal t) (Some WrongLength) ≡ Some r → call_by s node (SendCopy n p) c payload ≡ tells (Refused r) s
  not_whole none r e =
      copy_is
      ∙ ap₂ (λ (o : Option ℕ) (z : Option Subject). unless (calls_refusal t) s (answered s node (copied_from s c z o p.words))) none is.names.1
      ∙ refused_so s node [] (refusing WrongLength s) (calls_refusal t) (Some WrongLength) r e

  module _ (k : ℕ) (whole : p.elements ≡ Some k) where
    abbrev loan : m.Handle
    loan = loan_shown x t y (copied_order k p.words)

    abbrev v : Outcome × m.State
    v = lent_tested sent_at_once s c y.port.number loan

    whole_is : call_by s node (SendCopy n p) c payload ≡ unless (calls_refusal t) s (answered s node (lent_unless (tests_of x t y k) s v))
    whole_is =
        copy_is
        ∙ ap (λ (o : Option ℕ). unless (calls_refusal t) s (answered s node (copied_from s c (subject (fixed_of x t) node n) o p.words))) whole
        ∙ ap (λ (w : Outcome × m.State). unless (calls_refusal t) s (answered s node w)) (is.lends sent_at_once (copied_order k p.words))

    pub copy_refused : (r : Refusal) → loan_refusal x t y k ≡ Some r → call_by s node (SendCopy n p) c payload ≡ tells (Refused r) s
    copy_refused r e = whole_is ∙ refused_so s node [] v (calls_refusal t) (tests_of x t y k) r e

    copy_passes : loan_refusal x t y k ≡ None → call_by s node (SendCopy n p) c payload ≡ answered s node v
    copy_passes e = whole_is ∙ passed_so s node [] v (calls_refusal t) (tests_of x t y k) e

    pub copy_wants_memory : loan_refusal x t y k ≡ None → c.memory ≡ false → is_pool_to_be_dry x t y.port ≡ false
        → call_by s node (SendCopy n p) c payload ≡ tells (Refused WantOfMemory) s
    copy_wants_memory e none dry =
        copy_passes e ∙ ap (answered s node) (without_memory x t y is.there sent_at_once c (copied_order k p.words) none dry)

    -- the pool decides, and then the loan is sent
    pub copy_lends : loan_refusal x t y k ≡ None → c.memory ≡ true → OfEachLane (HasEachOnce (message_of x t.pools)) (lane_on t.ports) → (b : Bool) → is_pool_dry x t y.port ≡ b
        → call_by s node (SendCopy n p) c payload
        ≡ answered s node (if b then refusing OutOfMemory (state_shown x (with_got_back t y.port)) else sent_of (state_shown x (with_got_back t y.port)) loan true)
    copy_lends e has once b dry =
        copy_passes e
        ∙ ap (answered s node)
        (with_memory x t y is.there sent_at_once c (copied_order k p.words) has
        ∙ lent_is x t y is.there sent_at_once (copied_order k p.words) once
        ∙ ap (λ b. if b then refusing OutOfMemory (state_shown x (with_got_back t y.port)) else sent_of (state_shown x (with_got_back t y.port)) loan true) dry)

pub copies_are_refused : CopiesAreRefused
copies_are_refused x t node n p c payload y r is on role e = step p.elements refl e
  where
    so : Lends x t node n c y
    so = lends_so x t node n c on y is

    step : (o : Option ℕ) → p.elements ≡ o → copy_refusal x t y o ≡ Some r → call_by (state_shown x t) node (SendCopy n p) c payload ≡ (Refused r, state_shown x t)
    step None none e = not_whole x t node n p c payload y so role none r e
    step (Some k) whole e = copy_refused x t node n p c payload y so role k whole r e

pub copies_want_memory : CopiesWantMemory
copies_want_memory x t node n k p c payload y is on role whole e none dry =
    copy_wants_memory x t node n p c payload y (lends_so x t node n c on y is) role k whole e none dry

pub copies_find_dry_pools : CopiesFindDryPools
copies_find_dry_pools x t node n k p c payload y is on role whole e has once dry =
    copy_lends x t node n p c payload y (lends_so x t node n c on y is) role k whole e has once true dry
