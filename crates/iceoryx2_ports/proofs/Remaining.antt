-- Calls that close no request leave each open where it was, and each active request for its own.
use Rattle.std.specs.Prelude.{◌≡◌, ℕ, Bool, true, false, Some, refl}
use Rattle.std.specs.Option.{option_map}
use Rattle.std.proofs.Common.{sym, ap, ap₂, subst, ◌∙◌, true≢false}
use Rattle.std.proofs.lemmas.Option.{same_Some}
use Rattle.iox_model.specs.declared.call.Call.TheVariants.{Loan, LoanUninit, Receive, Write}
use Rattle.iox_model.specs.declared.kind.Kind.{Kind}
use Rattle.iox_model.specs.declared.kind.Kind.TheVariants.{ActiveRequest}
use Rattle.iox_model.specs.Commands.{Call, Payload, Reply, number_of}
use Rattle.iox_model.specs.Handles.{handle_at, is_received}
use Rattle.iox_model.specs.States.{Handle}
use Rattle.iox_model.specs.WholeCalls.{IsWholeCall}
use Rattle.iox_tables.specs.HubLoans.Loans.{loan_call}
use Rattle.iox_tables.specs.HubLoans.Questions.{kind_in}
use Rattle.iox_tables.specs.HubStates.States.{Given, message_of}
use Rattle.iox_tables.specs.HubStates.Tables.{HubTables}
use Rattle.iox_tables.proofs.HubStates.Fixing.{find_handle}
use Rattle.iox_hub_laws.specs.Hubs.{HasValue, HubState, given_by, nothing_given, state_of_hub}
use Rattle.iox_hub_laws.specs.Keeping.{IsOther}
use Rattle.iox_hub_laws.specs.Shown.{handle_of, shown}
use Rattle.iox_hub_laws.proofs.Values.{IsHandleOf, value_is_handle}
use Rattle.iceoryx2_ports.specs.Asking.{KeepsOpen}
use Rattle.iceoryx2_ports.specs.Keeping.{spends}
use Rattle.iceoryx2_ports.specs.Opens.{KeepsRequests}
use Rattle.iceoryx2_ports.proofs.Asking.{answers_as}
use Rattle.iceoryx2_ports.proofs.Aside.{named_at}
use Rattle.iceoryx2_ports.proofs.Opening.{keeps_open}
use Rattle.iceoryx2_ports.proofs.Others.{whole_there}
use Rattle.iceoryx2_ports.proofs.Staying.{whole_extends}

-- where nothing happened
pub same_requests : (old new : HubState) → new ≡ old → KeepsRequests old new
same_requests old new same =
    subst (KeepsRequests old) (sym same)
    (record {
      opened = λ asker server. refl;
      active = λ node n has. record { asker = refl; answerer = refl; opened = refl };
    })

module _ (old new : HubState) (stay : KeepsOpen old new) where
  abbrev t : HubTables
  t = old.control.tables

  -- the handles of active requests are there still
  pub by_handles : ((a i : ℕ) (g : Handle) → HasValue old a i ActiveRequest → handle_at (shown old).fixed a i ≡ Some g → handle_at (shown new).fixed a i ≡ Some g)
      → KeepsRequests old new
  by_handles still = record {
    opened = stay;
    active = λ a i has.
        let is : IsHandleOf t a i ActiveRequest = value_is_handle t a i ActiveRequest refl has in
        let g : Handle = handle_of old is.handle in
        let found : handle_at (shown old).fixed a i ≡ Some g
        = find_handle (given_by (nothing_given old) old) (message_of (given_by (nothing_given old) old) t.pools) t.handles a i
        ∙ ap (option_map (handle_of old)) is.named.there in
        answers_as old new a i a i g g found (still a i g has found) (record { port = refl; client = refl; lane = refl; request = refl }) stay;
  }

  module _ (node : ℕ) (call : Call) (reply : Reply) (whole : (x : Given) → IsWholeCall (state_of_hub x old) node call reply (state_of_hub x new)) where
    -- of a call that spends nothing
    pub kept_requests : spends call ≡ false → KeepsRequests old new
    kept_requests e =
        by_handles
        (λ a i g has found. (whole_extends (shown old) (shown new) node call reply e (whole (nothing_given old))).handles a i g found)

    -- of a call on a value that is no active request
    pub spared_requests : spends call ≡ true → (kind : Kind) → (kind ≡ ActiveRequest → ⊥) → HasValue old node (number_of call) kind → KeepsRequests old new
    spared_requests e kind no_active is =
        by_handles
        (λ a i g has found.
        whole_there node (number_of call) a i (apart a i has) (shown old) (shown new) call reply e (named_at (nothing_given old) old node (number_of call))
        (whole (nothing_given old))
        ∙ found)
      where
        apart : (a i : ℕ) → HasValue old a i ActiveRequest → IsOther node (number_of call) a i
        apart a i has =
            λ same equal.
            no_active (same_Some kind ActiveRequest
            (sym is ∙ sym (ap₂ (λ (b j : ℕ). kind_in t b j) same equal) ∙ has))

-- ---- by call

module _ (old new : HubState) where
  pub receive_keeps_requests : (node n : ℕ) (reply : Reply)
      → ((x : Given) → IsWholeCall (state_of_hub x old) node (Receive n) reply (state_of_hub x new)) → KeepsRequests old new
  receive_keeps_requests node n reply whole =
      kept_requests old new (keeps_open old new node (Receive n) reply refl whole) node (Receive n) reply whole refl

  pub loan_keeps_requests : (node : ℕ) (uninit : Bool) (n k : ℕ) (reply : Reply)
      → ((x : Given) → IsWholeCall (state_of_hub x old) node (loan_call uninit n k) reply (state_of_hub x new)) → KeepsRequests old new
  loan_keeps_requests node true n k reply whole =
      kept_requests old new (keeps_open old new node (LoanUninit n k) reply refl whole) node (LoanUninit n k) reply whole refl
  loan_keeps_requests node false n k reply whole =
      kept_requests old new (keeps_open old new node (Loan n k) reply refl whole) node (Loan n k) reply whole refl

  -- a loan is no active request
  pub write_keeps_requests : (node n : ℕ) (p : Payload) (reply : Reply)
      → ((x : Given) → IsWholeCall (state_of_hub x old) node (Write n p) reply (state_of_hub x new))
      → (kind : Kind) → is_received kind ≡ false → HasValue old node n kind → KeepsRequests old new
  write_keeps_requests node n p reply whole kind loan has =
      spared_requests old new (keeps_open old new node (Write n p) reply refl whole) node (Write n p) reply whole refl kind
      (λ same. true≢false (sym (ap is_received same) ∙ loan)) has
