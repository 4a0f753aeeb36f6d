-- The reply of each call is what the functions of lists compute.
use Rattle.std.specs.Prelude.{◌≡◌, ℕ, true, false, List, Some}
use Rattle.iox_model.specs.declared.call.Call.TheVariants.{Send, Receive}
use Rattle.iox_model.specs.Begins.{MayChoose}
use Rattle.iox_model.specs.Commands.{Reply, Call}
use Rattle.iox_model.specs.Handles.{is_request_loan, subject, TheHandle}
use Rattle.iox_model.specs.Loans.{Choice}
use Rattle.iox_model.specs.Peers.{role_at}
use Rattle.iox_model.specs.Runs.{IsReachableState}
use Rattle.iox_model.specs.Settings.{overflow_of}
use Rattle.iox_model.specs.States.{Handle, State}
use Rattle.iox_model.specs.WholeCalls.{IsWholeCall}
use Rattle.iox_laws.specs.CallFunctions.Calls.{call_by, IsBetweenWholeCalls, LoanMayHold}
use Rattle.iox_laws.specs.CallFunctions.Overflows.{sent_over_by}
use Rattle.iox_laws.specs.CallFunctions.Searches.{received}
use Rattle.iox_laws.specs.CallFunctions.Sends.{sent_by}
use Rattle.iox_laws.specs.ReplyLaws.Determined.{takes_memory, AreOne}

-- The reply of a receive is what `received` computes.
abbrev pub ReceivesAnswerPlainly : Type 0
ReceivesAnswerPlainly =
    (s t : State) (node n : ℕ) (reply : Reply) → IsReachableState s
    → IsWholeCall s node (Receive n) reply t → reply ≡ (received s node n).0

-- Without overflow, the reply of the send of a loaned request is what `sent_by` computes.
abbrev pub SendsAnswerPlainly : Type 0
SendsAnswerPlainly =
    (s t : State) (node n : ℕ) (h : Handle) (reply : Reply) → IsReachableState s
    → subject s.fixed node n ≡ Some (TheHandle h) → is_request_loan h.kind ≡ true
    → overflow_of s.fixed.limits (role_at s.fixed h.port) ≡ false
    → IsWholeCall s node (Send n) reply t → reply ≡ (sent_by s node n h).0

-- With overflow, the reply of the send of a loaned request is what `sent_over_by` computes.
abbrev pub OverflowingSendsAnswerPlainly : Type 0
OverflowingSendsAnswerPlainly =
    (s t : State) (node n : ℕ) (h : Handle) (reply : Reply) → IsReachableState s
    → subject s.fixed node n ≡ Some (TheHandle h) → is_request_loan h.kind ≡ true
    → overflow_of s.fixed.limits (role_at s.fixed h.port) ≡ true
    → IsWholeCall s node (Send n) reply t → reply ≡ (sent_over_by s node n h).0

-- Each state that a service and its hub come to is ready for each call of each node,
abbrev pub ReachableStatesAreReady : Type 0
ReachableStatesAreReady = (s : State) (node : ℕ) → IsReachableState s → IsBetweenWholeCalls s node

-- and there each call that takes no memory answers what its function says.
abbrev pub CallsAnswerPlainly : Type 0
CallsAnswerPlainly =
    (s t : State) (node : ℕ) (call : Call) (c : Choice) (payload : List ℕ) (reply : Reply)
    → IsReachableState s → takes_memory call ≡ false
    → MayChoose s.fixed node c call → LoanMayHold s node call c payload
    → IsWholeCall s node call reply t → reply ≡ (call_by s node call c payload).0

-- So does a call that takes memory, unless one of them tells of want of memory.
abbrev pub TakingCallsAnswerPlainly : Type 0
TakingCallsAnswerPlainly =
    (s t : State) (node : ℕ) (call : Call) (c : Choice) (payload : List ℕ) (reply : Reply)
    → IsReachableState s → MayChoose s.fixed node c call → LoanMayHold s node call c payload
    → IsWholeCall s node call reply t → AreOne reply (call_by s node call c payload).0
