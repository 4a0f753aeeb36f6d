-- What a node's place stands for: what its call has still to do in the machine.
use Rattle.std.specs.Prelude.{ℕ, Bool, true, false, if◌then◌else◌, List, [], ◌∷◌, ◌++◌, Option, Some, None}
use Rattle.iox_model.specs.declared.way.Way.{Way}
use Rattle.iox_model.specs.declared.reply.Refusal.TheVariants as refusals
use Rattle.iox_model.specs.declared.reply.Reply.TheVariants as replies
use Rattle.iox_model.specs.Begins.{written}
use Rattle.iox_model.specs.Commands.{Refusal}
use Rattle.iox_model.specs.Doings as doings
use Rattle.iox_model.specs.Doings.{Receiver, Sending, Outcome, Doing, Ended, Loaning, Asking, Emptying, Looking, Opening, Delivering, Evicted, Visiting, Again, Judging, Stale, Closing, Returning, Leaving, Checking, Hinting, Seeking}
use Rattle.iox_model.specs.Messages.{Message}
use Rattle.iox_model.specs.Receives.{took}
use Rattle.iox_model.specs.Requests.{sending_of}
use Rattle.iox_model.specs.Responses.{sends}
use Rattle.iox_model.specs.States.{Fixed}
use Rattle.iox_wire_moments.specs.MomentsOf.{Pools}
use Rattle.iox_wire_locals.specs.declared.local.Delivery.{Delivery}
use Rattle.iox_wire_locals.specs.declared.local.Visit.{Visit}
use Rattle.iox_wire_locals.specs.declared.local.CallRefusal.{CallRefusal}
use Rattle.iox_wire_locals.specs.declared.local.CallRefusal.TheVariants as own_refusals
use Rattle.iox_wire_locals.specs.declared.local.Ending.{Ending}
use Rattle.iox_wire_locals.specs.declared.local.Ending.TheVariants as endings
use Rattle.iox_wire_locals.specs.declared.local.Local.{Local}
use Rattle.iox_wire_locals.specs.declared.local.Local.TheVariants.{Idle, Ends, LendEmpties, LendStores, Writes, SendAsks, SendEmpties, SendLooks, SendOpens, SendPushes, SendEvicts, SendGetsBack, SendEnds, ReceiveLooks, ReceivePops, ReceiveLoads, ReceiveAsks, ReceiveReturns, Reads, ReleaseCloses, ReleaseReturns, ReleaseLooks, ReleaseExchanges, Checks, Hints, HintExchanges, Seeks}
use Rattle.iox_wire_locals.specs.Tables.{Setting, handle_of}
use Rattle.iox_wire_locals.specs.NewLoans.{loan_in}

-- the machine's name of a refusal
abbrev pub refusal_of : CallRefusal → Refusal
refusal_of own_refusals.UnknownNumber = refusals.UnknownNumber
refusal_of own_refusals.WrongKind = refusals.WrongKind
refusal_of own_refusals.WrongLength = refusals.WrongLength
refusal_of own_refusals.ExceedsMaxLoanSize = refusals.ExceedsMaxLoanSize
refusal_of own_refusals.ExceedsMaxLoans = refusals.ExceedsMaxLoans
refusal_of own_refusals.OutOfMemory = refusals.OutOfMemory
refusal_of own_refusals.ExceedsMaxActiveRequests = refusals.ExceedsMaxActiveRequests
refusal_of own_refusals.UnableToDeliver = refusals.UnableToDeliver
refusal_of own_refusals.ExceedsMaxBorrows = refusals.ExceedsMaxBorrows

-- who receives
abbrev pub receiver_in : Visit → Receiver
receiver_in v = record { port = v.port; role = v.role; lane = v.lane; request = v.request }

-- what a call comes to, with the messages in these slots
abbrev pub outcome_of : Setting → Pools → ℕ → Ending → Outcome
outcome_of p held node (endings.Refuses r) = doings.Tells (replies.Refused (refusal_of r))
outcome_of p held node endings.Nothing = doings.Tells replies.Nothing
outcome_of p held node endings.Done = doings.Tells replies.Done
outcome_of p held node (endings.Answers told) = doings.Tells (replies.Answer told)
outcome_of p held node (endings.Words words) = doings.Tells (replies.Words words)
outcome_of p held node (endings.Lends o slot) = doings.Loans (loan_in p o)
outcome_of p held node (endings.Fills e words) =
    doings.Fills (written (handle_of held node e) words)
outcome_of p held node (endings.Sends e copied count) =
    doings.Sends (handle_of held node e) copied count
outcome_of p held node (endings.FailsToSend e copied r) =
    doings.FailsToSend (handle_of held node e) copied (refusal_of r)
outcome_of p held node (endings.Receives v w slot header) =
    doings.Receives (receiver_in v) w (held w.sender slot)
outcome_of p held node (endings.Drops e) = doings.Drops (handle_of held node e)
outcome_of p held node (endings.Forgets dead) = doings.Forgets dead

-- the send of a delivery
abbrev pub send_of : Fixed → Pools → ℕ → Delivery → Sending
send_of f held node d = sending_of f (handle_of held node d.loan) d.copied d.to

-- a way is visited for the first time, or again after what did not fit
abbrev pub visits : Bool → Receiver → Way → List Way → Bool → Doing
visits false x w left waiting = Visiting x left waiting
visits true x w left waiting = Again x w left waiting

-- what a read tells, all of which is known as it begins
abbrev pub all_words : Message → Doing
all_words m = Ended (doings.Tells (replies.Words (m.user ++ m.payload)))

-- `f` is what is fixed in the machine: of it only the node's own part counts, which stays during
-- its call
abbrev pub doing_of : Setting → Fixed → Pools → ℕ → Local → Option Doing
doing_of p f held node Idle = None
doing_of p f held node (Ends ending) = Some (Ended (outcome_of p held node ending))
doing_of p f held node (LendEmpties o w place left) =
    Some (Loaning o.copies (loan_in p o) (w ∷ left))
-- a loan that has its slot is made, and its words are stored without a moment
doing_of p f held node (LendStores o slot next) =
    Some (if o.copies then sends f (loan_in p o) true else Ended (doings.Loans (loan_in p o)))
doing_of p f held node (Writes loan words next) =
    Some (Ended (doings.Fills (written (handle_of held node loan) words)))
doing_of p f held node (SendAsks d) = Some (Asking (send_of f held node d))
doing_of p f held node (SendEmpties d w place left) =
    Some (Emptying (send_of f held node d) (w ∷ left))
doing_of p f held node (SendLooks d w place left full) =
    Some (Looking (send_of f held node d) (w ∷ left) full)
doing_of p f held node (SendOpens d w left full) =
    Some (Opening (send_of f held node d) (w ∷ left) full)
doing_of p f held node (SendPushes d last w place left count) =
    Some (Delivering (send_of f held node d) last (w ∷ left) count)
doing_of p f held node (SendEvicts d w place left count) =
    Some (Delivering (send_of f held node d) (Some w) left count)
doing_of p f held node (SendGetsBack d w place left count) =
    Some (Evicted (send_of f held node d) w left count)
doing_of p f held node (SendEnds d last count) =
    Some (Delivering (send_of f held node d) last [] count)
doing_of p f held node (ReceiveLooks v w place left waiting) =
    Some (Visiting (receiver_in v) (w ∷ left) waiting)
doing_of p f held node (ReceivePops v w again place left waiting) =
    Some (visits again (receiver_in v) w (w ∷ left) waiting)
-- what was taken decides, and its header is loaded without a moment
doing_of p f held node (ReceiveLoads v w slot header left waiting) =
    Some (took f node (receiver_in v) w (held w.sender slot) (w ∷ left) waiting)
doing_of p f held node (ReceiveAsks v w slot header left waiting) =
    Some (Judging (receiver_in v) w (held w.sender slot) (w ∷ left) waiting)
doing_of p f held node (ReceiveReturns v w slot place left waiting) =
    Some (Stale (receiver_in v) w (held w.sender slot) (w ∷ left) waiting)
doing_of p f held node (Reads e words) = Some (all_words (held e.sender e.slot))
doing_of p f held node (ReleaseCloses e w left) = Some (Closing (handle_of held node e) (w ∷ left))
doing_of p f held node (ReleaseReturns e place) = Some (Returning (handle_of held node e))
doing_of p f held node (ReleaseLooks e) = Some (Leaving (handle_of held node e))
doing_of p f held node (ReleaseExchanges e old) = Some (Leaving (handle_of held node e))
doing_of p f held node (Checks e hinted w left) =
    Some (Checking (handle_of held node e) hinted (w ∷ left))
doing_of p f held node (Hints e w left) = Some (Hinting (handle_of held node e) (w ∷ left))
doing_of p f held node (HintExchanges e w left) = Some (Hinting (handle_of held node e) (w ∷ left))
doing_of p f held node (Seeks w place left) = Some (Seeking (w ∷ left))
