-- How a call begins: what it has to do, and what is left open.
use Rattle.std.specs.Prelude.{ℕ, Bool, true, false, not, ◌&&◌, ◌||◌, if◌then◌else◌, ◌==◌, nat_lt, List, ◌++◌, Option, Some, None, IsTrue}
use Rattle.std.specs.List.{list_all, range_with_len}
use Rattle.std.specs.Option.{option_map_or}
use Rattle.iox_model.specs.declared.call.Call.TheVariants.{Loan, LoanUninit, Write, Send, SendCopy, Receive, Read, Release, IsConnected, SetHint, HasHint, HasRequests, HasResponse}
use Rattle.iox_model.specs.declared.reply.Refusal.TheVariants.{UnknownNumber, WrongKind, WrongLength, WantOfMemory}
use Rattle.iox_model.specs.declared.reply.Reply.TheVariants.{Words}
use Rattle.iox_model.specs.Receives.{server_ways, pending_ways, receives, seeking}
use Rattle.iox_model.specs.Releases.{states_of, releases}
use Rattle.iox_model.specs.Doings.{refused, Tells, Fills, Doing, Ended}
use Rattle.iox_model.specs.States.{Port, Handle, Fixed, State}
use Rattle.iox_model.specs.Loans.{Choice}
use Rattle.iox_model.specs.Handles.{filled_kind, subject, has_lane, Subject, ThePort, TheHandle}
use Rattle.iox_model.specs.Looks.{checking, hinting}
use Rattle.iox_model.specs.Commands.{Call, number_of}
use Rattle.iox_model.specs.Responses.{sends, lends, copies, ordered}

-- the loan with its payload written, whole
abbrev pub written : Handle → List ℕ → Handle
written h words = record h {
  kind = filled_kind h.kind;
  message = record (h.message) { payload = words };
  filled = h.message.elements;
}

-- a write: refused unless the payload is of whole elements, as many as the loan has
abbrev pub writes : Handle → Option ℕ → List ℕ → Doing
writes h None words = refused WrongLength
writes h (Some k) words =
    if k == h.message.elements then Ended (Fills (written h words)) else refused WrongLength

-- a read: it answers the message's words, which takes memory
abbrev pub reads : Choice → Handle → Doing
reads c h =
    if c.memory then Ended (Tells (Words (h.message.user ++ h.message.payload)))
    else refused WantOfMemory

-- how a call begins, given the port or handle that its number names
abbrev pub begins_at : State → Choice → Call → Subject → Doing
begins_at s c (Loan n k) x = lends s c x (ordered k false)
begins_at s c (LoanUninit n k) x = lends s c x (ordered k true)
begins_at s c (Write n p) (TheHandle h) = writes h p.elements p.words
begins_at s c (Send n) (TheHandle h) = sends s.fixed h false
begins_at s c (SendCopy n p) x = copies s c x p.elements p.words
begins_at s c (Receive n) x = receives s.fixed x
begins_at s c (Read n) (TheHandle h) = reads c h
begins_at s c (Release n) x = releases s.fixed x
begins_at s c (IsConnected n) (TheHandle h) = checking h false (states_of s.fixed h)
begins_at s c (SetHint n) (TheHandle h) = hinting h (states_of s.fixed h)
begins_at s c (HasHint n) (TheHandle h) = checking h true (states_of s.fixed h)
begins_at s c (HasRequests n) (ThePort p) = seeking (server_ways s.fixed p)
begins_at s c (HasResponse n) (TheHandle h) = seeking (pending_ways s.fixed h)
-- any other call does not fit what its number names
begins_at s c call x = refused WrongKind

-- what a call has to do, as it begins
abbrev pub start : State → ℕ → Choice → Call → Doing
start s node c call =
    option_map_or (begins_at s c call) (subject s.fixed node (number_of call)) (refused UnknownNumber)

-- ---- what is left open

-- whether the lane is open: no loaned request or pending response has it, and it is one of the
-- pool's unless all are taken
abbrev pub is_open_lane : Fixed → Port → ℕ → Bool
is_open_lane f p lane =
    not (has_lane f p.number lane)
    && (nat_lt lane p.pool || list_all (has_lane f p.number) (range_with_len 0 p.pool))

-- whether a call may choose this lane: for a client an open one; a handle has its own
abbrev pub lane_may_be : Fixed → Choice → Option Subject → Bool
lane_may_be f c (Some (ThePort p)) = is_open_lane f p c.lane
lane_may_be f c (Some (TheHandle h)) = true
lane_may_be f c None = true

-- whether the call makes a loan
abbrev pub lends_lane : Call → Bool
lends_lane (Loan n k) = true
lends_lane (LoanUninit n k) = true
lends_lane (SendCopy n p) = true
lends_lane call = false

-- what a call may choose: a loan an open lane; and on a wire memory is there
abbrev pub MayChoose : Fixed → ℕ → Choice → Call → Type 0
MayChoose f node c call =
    IsTrue (c.memory || not f.on_wire)
    × IsTrue (not (lends_lane call) || lane_may_be f c (subject f node (number_of call)))
