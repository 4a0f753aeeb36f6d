-- What is asked, as calls of the machine, and why one is not begun, as its refusals.
use Rattle.std.specs.Prelude.{ℕ, [], None}
use Rattle.iox_model.specs.declared.call.Call.TheVariants as calls
use Rattle.iox_model.specs.declared.kind.Role.{Role}
use Rattle.iox_model.specs.declared.reply.Refusal.TheVariants as refusals
use Rattle.iox_model.specs.Commands.{Call, Payload, Refusal}
use Rattle.iox_control_questions.specs.declared.asked.Asked.{Asked}
use Rattle.iox_control_questions.specs.declared.asked.Asked.TheVariants as asks
use Rattle.iox_control_questions.specs.declared.asked.NotBegun.{NotBegun}
use Rattle.iox_control_questions.specs.declared.asked.NotBegun.TheVariants as reasons

-- what the call asks
abbrev pub asked_of : Call → Asked
asked_of (calls.Loan n k) = asks.Loan
asked_of (calls.LoanUninit n k) = asks.LoanUninit
asked_of (calls.Write n p) = asks.Write p.role
asked_of (calls.Send n) = asks.Send
asked_of (calls.SendCopy n p) = asks.SendCopy p.role
asked_of (calls.Receive n) = asks.Receive
asked_of (calls.Read n) = asks.Read
asked_of (calls.Release n) = asks.Release
asked_of (calls.IsConnected n) = asks.IsConnected
asked_of (calls.SetHint n) = asks.SetHint
asked_of (calls.HasHint n) = asks.HasHint
asked_of (calls.HasRequests n) = asks.HasRequests
asked_of (calls.HasResponse n) = asks.HasResponse

-- no words, of messages that ports of the role send
abbrev pub no_words : Role → Payload
no_words role = record { role = role; elements = None; words = [] }

-- the call of that number that asks it, with no words
abbrev pub call_of : ℕ → Asked → Call
call_of n asks.Loan = calls.Loan n 0
call_of n asks.LoanUninit = calls.LoanUninit n 0
call_of n (asks.Write role) = calls.Write n (no_words role)
call_of n asks.Send = calls.Send n
call_of n (asks.SendCopy role) = calls.SendCopy n (no_words role)
call_of n asks.Receive = calls.Receive n
call_of n asks.Read = calls.Read n
call_of n asks.Release = calls.Release n
call_of n asks.IsConnected = calls.IsConnected n
call_of n asks.SetHint = calls.SetHint n
call_of n asks.HasHint = calls.HasHint n
call_of n asks.HasRequests = calls.HasRequests n
call_of n asks.HasResponse = calls.HasResponse n

-- the refusal
abbrev pub refusal_of : NotBegun → Refusal
refusal_of reasons.UnknownNumber = refusals.UnknownNumber
refusal_of reasons.ForeignNumber = refusals.ForeignNumber
refusal_of reasons.WrongKind = refusals.WrongKind
refusal_of reasons.CallsSpent = refusals.CallsSpent
