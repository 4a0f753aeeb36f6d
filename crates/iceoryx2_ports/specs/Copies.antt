-- What copies answer, as replies of the machine, and what a refused one leaves.
use Rattle.std.specs.Prelude.{◌≡◌, Result, Ok, Err, ⊤}
use Rattle.iox_model.specs.declared.reply.Refusal.TheVariants as refusals
use Rattle.iox_model.specs.declared.reply.Reply.TheVariants as replies
use Rattle.iox_model.specs.Commands.{Reply}
use Rattle.iox_hub_laws.specs.LoanRefusal.{LoanRefusal}
use Rattle.iox_hub_laws.specs.LoanRefusal.TheVariants as tests
use Rattle.iox_hub_laws.specs.Hubs.{HubState, with_control}
use Rattle.iceoryx2_ports.specs.declared.pending_response.PendingResponse.{PendingResponse}
use Rattle.iceoryx2_ports.specs.declared.errors.LoanError.{LoanError}
use Rattle.iceoryx2_ports.specs.declared.errors.LoanError.TheVariants as loan_errors
use Rattle.iceoryx2_ports.specs.declared.errors.RequestSendError.{RequestSendError}
use Rattle.iceoryx2_ports.specs.declared.errors.RequestSendError.TheVariants as request_errors
use Rattle.iceoryx2_ports.specs.declared.errors.SendError.{SendError}
use Rattle.iceoryx2_ports.specs.declared.errors.SendError.TheVariants as send_errors
use Rattle.iceoryx2_ports.specs.Loans.{loan_refusal}

-- ---- replies

-- the error by which a test refuses a loan
abbrev pub error_of_test : LoanRefusal → LoanError
error_of_test tests.CallsSpent = loan_errors.CallsSpent
error_of_test tests.WrongLength = loan_errors.WrongLength
error_of_test tests.ExceedsMaxLoanSize = loan_errors.ExceedsMaxLoanSize
error_of_test tests.ExceedsMaxLoans = loan_errors.ExceedsMaxLoans
error_of_test tests.WantOfMemory = loan_errors.WantOfMemory

-- why a copy is not sent: no message is loaned for it, or it is not delivered
abbrev pub copy_reply : SendError → Reply
copy_reply (send_errors.LoanError cause) = replies.Refused (loan_refusal cause)
copy_reply send_errors.UnableToDeliver = replies.Refused refusals.UnableToDeliver
copy_reply (send_errors.ConnectionError cause) = replies.Nothing

-- what the copy of a response answers
abbrev pub reply_of_response_copy : Result ⊤ SendError → Reply
reply_of_response_copy (Ok done) = replies.Done
reply_of_response_copy (Err error) = copy_reply error

-- why the copy of a request is not sent
abbrev pub unasked_reply : RequestSendError → Reply
unasked_reply request_errors.ExceedsMaxActiveRequests =
    replies.Refused refusals.ExceedsMaxActiveRequests
unasked_reply (request_errors.SendError error) = copy_reply error

-- what the copy of a request answers
abbrev pub reply_of_request_copy :
    {Q QH P PH : Type 0} → Result (PendingResponse Q QH P PH) RequestSendError → Reply
reply_of_request_copy (Ok pending) = replies.Handle pending.number
reply_of_request_copy (Err error) = unasked_reply error

-- ---- what is left

-- What a loan that is refused for a copy leaves: a test leaves all as it is, and want of messages
-- the words. Memory is never wanted.
abbrev pub LeavesUnloaned : HubState → LoanError → HubState → Type 0
LeavesUnloaned old loan_errors.CallsSpent new = new ≡ old
LeavesUnloaned old loan_errors.WrongLength new = new ≡ old
LeavesUnloaned old loan_errors.ExceedsMaxLoanSize new = new ≡ old
LeavesUnloaned old loan_errors.ExceedsMaxLoans new = new ≡ old
LeavesUnloaned old loan_errors.OutOfMemory new = new ≡ with_control old new.control
LeavesUnloaned old loan_errors.WantOfMemory new = ⊥

-- What a response that is not sent leaves: the words are as they were. No connection ever fails.
abbrev pub LeavesUnsent : HubState → SendError → HubState → Type 0
LeavesUnsent old (send_errors.LoanError cause) new = LeavesUnloaned old cause new
LeavesUnsent old send_errors.UnableToDeliver new = new ≡ with_control old new.control
LeavesUnsent old (send_errors.ConnectionError cause) new = ⊥

-- the same of a request
abbrev pub LeavesUnasked : HubState → RequestSendError → HubState → Type 0
LeavesUnasked old request_errors.ExceedsMaxActiveRequests new = new ≡ with_control old new.control
LeavesUnasked old (request_errors.SendError error) new = LeavesUnsent old error new
