-- A loan, or a copy, that wants memory is a whole call of a hub, and changes nothing.
use Rattle.std.specs.Prelude.{◌≡◌, ℕ, Bool, false, List, [], Some, None, refl}
use Rattle.std.proofs.Common.{sym, ap, subst}
use Rattle.iox_model.specs.declared.call.Call.TheVariants.{SendCopy}
use Rattle.iox_model.specs.declared.kind.Kind.TheVariants as kinds
use Rattle.iox_model.specs.declared.kind.Role.TheVariants.{Client, Server}
use Rattle.iox_model.specs.declared.reply.Refusal.TheVariants.{WantOfMemory}
use Rattle.iox_model.specs.declared.reply.Reply.TheVariants.{Refused}
use Rattle.iox_model.specs.Settings.{Shape, shape_of}
use Rattle.iox_model.specs.WholeCalls.{IsWholeCall}
use Rattle.iox_tables.specs.HubStates.States.{Given, limits_of}
use Rattle.iox_tables.specs.HubStates.Tables.{HandleState, PortState, port_in}
use Rattle.iox_tables.specs.HubStates.Wirings.{handle_in}
use Rattle.iox_tables.specs.HubLoans.Lenders.{IsActive, IsClient, Lender, is_pool_to_be_dry, lender_of_request, lender_of_response, loan_refusal, shape_in}
use Rattle.iox_tables.specs.HubLoans.Loans.{loan_call}
use Rattle.iox_control_request_copies.specs.Lends.{IsAskedOf}
use Rattle.iox_control_request_copies.proofs.Wanting.{active_wants, client_wants, not_dry, passes_so}
use Rattle.iox_control_request_copies.proofs.WantingCopies.{active_copy_wants, client_copy_wants}
use Rattle.iox_hub.specs.Growing.{WantsRoom}
use Rattle.iox_hub.specs.Hubs.{HasValue, HubState, IsHub, given_by, state_of_hub}
use Rattle.iox_hub.specs.Lending.{payload_of}
use Rattle.iox_hub.proofs.LendingNamed.{active_of_hub, client_of_hub}

-- no test refuses such a loan, and its pool will have a message
pub record Passes (x : Given) (h : HubState) (y : Lender) (k : ℕ) : Type 0 where
  pub tests : loan_refusal (given_by x h) h.control.tables y k ≡ None
  pub pool : is_pool_to_be_dry (given_by x h) h.control.tables y.port ≡ false

pub would_pass : {h : HubState} → IsHub h → (y : Lender) (shape : Shape) (k : ℕ) (x : Given) → shape_in (given_by x h) h.control.tables y.port ≡ shape
    → WantsRoom h y shape k → Passes x h y k
would_pass {h} hub y shape k x is wants =
    let asked : IsAskedOf (shape_in (given_by x h) h.control.tables y.port) wants.loan.asked = subst (λ (z : Shape). IsAskedOf z wants.loan.asked) (sym is) wants.loan.of in record {
      tests = subst (λ m. loan_refusal (given_by x h) h.control.tables y m ≡ None) wants.loan.count
          (passes_so (given_by x h) h.control wants.loan.asked hub.control.order y asked wants.loan.made);
      pool = not_dry (given_by x h) h.control wants.loan.asked hub.control.order y asked wants.loan.made;
    }

module _ {h : HubState} (hub : IsHub h) (node n k : ℕ) (ws : List ℕ) (x : Given) where
  module _ (client : IsClient h.control.tables node n) (wants : WantsRoom h (lender_of_request client.port 0) h.request k) where
    of_client : IsAskedOf (shape_in (given_by x h) h.control.tables client.port) wants.loan.asked
    of_client =
        subst (λ (z : Shape). IsAskedOf z wants.loan.asked) (sym (ap (shape_of (limits_of (given_by x h) h.control.tables)) client.client)) wants.loan.of

    pub request_wants : (uninit : Bool) → IsWholeCall (state_of_hub x h) node (loan_call uninit n k) (Refused WantOfMemory) (state_of_hub x h)
    request_wants uninit =
        subst (λ m. IsWholeCall (state_of_hub x h) node (loan_call uninit n m) (Refused WantOfMemory) (state_of_hub x h)) wants.loan.count
        (client_wants (given_by x h) h.control node n wants.loan.asked uninit hub.control.order client of_client wants.loan.made)

    pub request_copy_wants : IsWholeCall (state_of_hub x h) node (SendCopy n (payload_of Client k ws)) (Refused WantOfMemory) (state_of_hub x h)
    request_copy_wants =
        client_copy_wants (given_by x h) h.control node n (payload_of Client k ws) wants.loan.asked hub.control.order client refl
        (ap (λ m. Some m) (sym wants.loan.count)) of_client wants.loan.made

  module _ (active : IsActive h.control.tables node n)
      (wants : WantsRoom h (lender_of_response h.control.tables active.handle active.port) h.response k) where
    of_active : IsAskedOf (shape_in (given_by x h) h.control.tables active.port) wants.loan.asked
    of_active =
        subst (λ (z : Shape). IsAskedOf z wants.loan.asked) (sym (ap (shape_of (limits_of (given_by x h) h.control.tables)) active.server)) wants.loan.of

    pub response_wants : (uninit : Bool) → IsWholeCall (state_of_hub x h) node (loan_call uninit n k) (Refused WantOfMemory) (state_of_hub x h)
    response_wants uninit =
        subst (λ m. IsWholeCall (state_of_hub x h) node (loan_call uninit n m) (Refused WantOfMemory) (state_of_hub x h)) wants.loan.count
        (active_wants (given_by x h) h.control node n wants.loan.asked uninit hub.control.order active of_active wants.loan.made)

    pub response_copy_wants : IsWholeCall (state_of_hub x h) node (SendCopy n (payload_of Server k ws)) (Refused WantOfMemory) (state_of_hub x h)
    response_copy_wants =
        active_copy_wants (given_by x h) h.control node n (payload_of Server k ws) wants.loan.asked hub.control.order active refl
        (ap (λ m. Some m) (sym wants.loan.count)) of_active wants.loan.made

-- ---- in code: what the node has, and what is left

module _ {h : HubState} (hub : IsHub h) (node n k : ℕ) (new : HubState) (same : new ≡ h) where
  module _ (has : HasValue h node n kinds.Client) (wants : (p : PortState) → port_in h.control.tables.ports n ≡ Some p → WantsRoom h (lender_of_request p 0) h.request k) where
    client : IsClient h.control.tables node n
    client = client_of_hub hub h refl node n has

    pub loan_lacks : (uninit : Bool) (x : Given) → IsWholeCall (state_of_hub x h) node (loan_call uninit n k) (Refused WantOfMemory) (state_of_hub x new)
    loan_lacks uninit x =
        subst (λ (d : HubState). IsWholeCall (state_of_hub x h) node (loan_call uninit n k) (Refused WantOfMemory) (state_of_hub x d)) (sym same)
        (request_wants hub node n k [] x client (wants client.port client.there) uninit)

    pub copy_lacks : (ws : List ℕ) (x : Given) → IsWholeCall (state_of_hub x h) node (SendCopy n (payload_of Client k ws)) (Refused WantOfMemory) (state_of_hub x new)
    copy_lacks ws x =
        subst (λ (d : HubState). IsWholeCall (state_of_hub x h) node (SendCopy n (payload_of Client k ws)) (Refused WantOfMemory) (state_of_hub x d)) (sym same)
        (request_copy_wants hub node n k ws x client (wants client.port client.there))

  module _ (has : HasValue h node n kinds.ActiveRequest)
      (wants : (a : HandleState) (p : PortState) → handle_in h.control.tables.handles node n ≡ Some a → port_in h.control.tables.ports a.port ≡ Some p
      → WantsRoom h (lender_of_response h.control.tables a p) h.response k) where
    active : IsActive h.control.tables node n
    active = active_of_hub hub h refl node n has

    pub response_lacks : (uninit : Bool) (x : Given) → IsWholeCall (state_of_hub x h) node (loan_call uninit n k) (Refused WantOfMemory) (state_of_hub x new)
    response_lacks uninit x =
        subst (λ (d : HubState). IsWholeCall (state_of_hub x h) node (loan_call uninit n k) (Refused WantOfMemory) (state_of_hub x d)) (sym same)
        (response_wants hub node n k [] x active (wants active.handle active.port active.named.there active.there) uninit)

    pub answer_lacks : (ws : List ℕ) (x : Given) → IsWholeCall (state_of_hub x h) node (SendCopy n (payload_of Server k ws)) (Refused WantOfMemory) (state_of_hub x new)
    answer_lacks ws x =
        subst (λ (d : HubState). IsWholeCall (state_of_hub x h) node (SendCopy n (payload_of Server k ws)) (Refused WantOfMemory) (state_of_hub x d)) (sym same)
        (response_copy_wants hub node n k ws x active (wants active.handle active.port active.named.there active.there))
