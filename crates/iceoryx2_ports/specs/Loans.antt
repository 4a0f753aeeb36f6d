-- What typed loans, writes and sends answer, as replies of the machine.
use Rattle.std.specs.Prelude.{ℕ, Result, Ok, Err, ⊤}
use Rattle.iox_model.specs.declared.reply.Refusal.TheVariants as refusals
use Rattle.iox_model.specs.declared.reply.Reply.TheVariants as replies
use Rattle.iox_model.specs.Commands.{Refusal, Reply}
use Rattle.iceoryx2_ports.specs.declared.pending_response.PendingResponse.{PendingResponse}
use Rattle.iceoryx2_ports.specs.declared.errors.LoanError.{LoanError}
use Rattle.iceoryx2_ports.specs.declared.errors.LoanError.TheVariants as loan_errors
use Rattle.iceoryx2_ports.specs.declared.errors.RequestSendError.{RequestSendError}
use Rattle.iceoryx2_ports.specs.declared.errors.RequestSendError.TheVariants as request_errors
use Rattle.iceoryx2_ports.specs.declared.errors.SendError.{SendError}
use Rattle.iceoryx2_ports.specs.declared.errors.SendError.TheVariants as send_errors

-- ---- loans

-- why no message is loaned, as the machine says it
abbrev pub loan_refusal : LoanError → Refusal
loan_refusal loan_errors.CallsSpent = refusals.CallsSpent
loan_refusal loan_errors.WrongLength = refusals.WrongLength
loan_refusal loan_errors.ExceedsMaxLoanSize = refusals.ExceedsMaxLoanSize
loan_refusal loan_errors.ExceedsMaxLoans = refusals.ExceedsMaxLoans
loan_refusal loan_errors.OutOfMemory = refusals.OutOfMemory
loan_refusal loan_errors.WantOfMemory = refusals.WantOfMemory

-- what a loan answers, where loans have these numbers
abbrev pub reply_of_loan : {A : Type 0} → (A → ℕ) → Result A LoanError → Reply
reply_of_loan number (Ok loan) = replies.Handle (number loan)
reply_of_loan number (Err error) = replies.Refused (loan_refusal error)

-- ---- writes

-- what a write answers: it is done, or as many elements are not loaned
abbrev pub reply_of_write : {A B : Type 0} → Result A B → Reply
reply_of_write (Ok filled) = replies.Done
reply_of_write (Err loan) = replies.Refused refusals.WrongLength

-- ---- sends

-- the one reason for which a loan is not sent; no other is ever answered
abbrev pub send_reply : SendError → Reply
send_reply send_errors.UnableToDeliver = replies.Refused refusals.UnableToDeliver
send_reply (send_errors.LoanError cause) = replies.Nothing
send_reply (send_errors.ConnectionError cause) = replies.Nothing

-- what the send of a response answers
abbrev pub reply_of_response_send : Result ⊤ SendError → Reply
reply_of_response_send (Ok done) = replies.Done
reply_of_response_send (Err error) = send_reply error

-- what the send of a request answers: to how many servers it went
abbrev pub reply_of_request_send :
    {Q QH P PH : Type 0} → Result (PendingResponse Q QH P PH) RequestSendError → Reply
reply_of_request_send (Ok pending) = replies.Sent pending.servers
reply_of_request_send (Err request_errors.ExceedsMaxActiveRequests) =
    replies.Refused refusals.ExceedsMaxActiveRequests
reply_of_request_send (Err (request_errors.SendError error)) = send_reply error
