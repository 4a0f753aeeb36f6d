-- Each call of a port or handle as a function of lists.
use Rattle.std.specs.Prelude.{◌≡◌, ℕ, false, List, [], Some, ⊤}
use Rattle.iox_model.specs.declared.call.Call.TheVariants.{Loan, LoanUninit, Write, Send, SendCopy, Receive, Read, Release, IsConnected, SetHint, HasHint, HasRequests, HasResponse}
use Rattle.iox_model.specs.Begins.{MayChoose}
use Rattle.iox_model.specs.Commands.{Reply, Call}
use Rattle.iox_model.specs.Handles.{subject, TheHandle}
use Rattle.iox_model.specs.Loans.{Choice, Order}
use Rattle.iox_model.specs.States.{Handle, State}
use Rattle.iox_model.specs.WholeCalls.{MayHold, IsWholeCall}
use Rattle.iox_laws.specs.CallFunctions.Answers.{NoneInHand}
use Rattle.iox_laws.specs.CallFunctions.Contents.{written_by, read_by}
use Rattle.iox_laws.specs.CallFunctions.Copies.{copied_by, MayCopy}
use Rattle.iox_laws.specs.CallFunctions.Loans.{loaned_from, loaned_by, loaned_uninit_by}
use Rattle.iox_laws.specs.CallFunctions.LoanSends.{loan_sent_by, MaySend}
use Rattle.iox_laws.specs.CallFunctions.Looks.{has_requests_by, has_response_by, connected_by, hinted_by, hint_set_by}
use Rattle.iox_laws.specs.CallFunctions.Releases.{released_by}
use Rattle.iox_laws.specs.CallFunctions.Searches.{received}

-- what the call answers and leaves, by what is left open: a lane and memory, and what a new loan
-- holds
abbrev pub call_by : State → ℕ → Call → Choice → List ℕ → Reply × State
call_by s node (Loan n k) c payload = loaned_by s node n k c payload
call_by s node (LoanUninit n k) c payload = loaned_uninit_by s node n k c
call_by s node (Write n p) c payload = written_by s node n p
call_by s node (Send n) c payload = loan_sent_by s node n
call_by s node (SendCopy n p) c payload = copied_by s node n c p
call_by s node (Receive n) c payload = received s node n
call_by s node (Read n) c payload = read_by s node n c
call_by s node (Release n) c payload = released_by s node n
call_by s node (IsConnected n) c payload = connected_by s node n
call_by s node (SetHint n) c payload = hint_set_by s node n
call_by s node (HasHint n) c payload = hinted_by s node n
call_by s node (HasRequests n) c payload = has_requests_by s node n
call_by s node (HasResponse n) c payload = has_response_by s node n

-- A call of the node finds the state as whole calls leave it: the node forgot nobody, nothing is in
-- hand, and what is lent or to be lent may be sent.
pub record IsBetweenWholeCalls (s : State) (node : ℕ) : Type 0 where
  pub nobody : s.fixed.forgot node ≡ []
  pub none : NoneInHand s
  pub sends : (n : ℕ) (h : Handle) → subject s.fixed node n ≡ Some (TheHandle h) → MaySend s h
  pub copies : (n : ℕ) (c : Choice) (o : Order) → MayCopy s c (subject s.fixed node n) o

-- the loan that the call makes, if it makes one, may hold that payload
abbrev pub LoanMayHold : State → ℕ → Call → Choice → List ℕ → Type 0
LoanMayHold s node (Loan n k) c payload =
    MayHold s.fixed (loaned_from s node n k c false).0 payload
LoanMayHold s node call c payload = ⊤

-- What `call_by` says of any call is a whole call, where the state is ready, and what is left open may
-- be so.
abbrev pub EachCallIsWhole : Type 0
EachCallIsWhole =
    (s : State) (node : ℕ) (call : Call) (c : Choice) (payload : List ℕ) → IsBetweenWholeCalls s node
    → MayChoose s.fixed node c call → LoanMayHold s node call c payload
    → IsWholeCall s node call (call_by s node call c payload).0 (call_by s node call c payload).1
