-- What the send of a request is told about the wire, what its accesses find, and what a step of it
-- does.
use Rattle.std.specs.Prelude.{◌≡◌, ◌+◌, ◌<◌, ◌≤◌, ℕ, Bool, true, false, List, Option, option_map}
use Rattle.std.specs.Prelude.{IfSome, is_none}
use Rattle.iox_model.specs.Commands.{Reply}
use Rattle.iox_model.specs.Handles.{is_request_loan}
use Rattle.iox_model.specs.Messages.{request_way}
use Rattle.iox_model.specs.Peers.{role_at}
use Rattle.iox_model.specs.Requests.{fails_at}
use Rattle.iox_model.specs.Settings.{overflow_of}
use Rattle.iox_steps.specs.Sides.{popping_event, pushing_event}
use Rattle.iox_steps.specs.declared.side.QueueEvent.TheVariants.{HandOut, Learn, Publish}
use Rattle.iox_word_map.specs.WordMaps.{MessageQueue, ReturningQueue}
use Rattle.iox_wire_words.specs.Programs.{site_of, state_place}
use Rattle.iox_wire_locals.specs.declared.table.Desk.{Desk}
use Rattle.iox_wire_locals.specs.declared.table.Entry.{Entry}
use Rattle.iox_wire_locals.specs.declared.local.Delivery.{Delivery}
use Rattle.iox_wire_locals.specs.declared.local.Ending.TheVariants as endings
use Rattle.iox_wire_locals.specs.declared.local.Local.{Local}
use Rattle.iox_wire_locals.specs.declared.local.Local.TheVariants.{Ends, Idle, SendEmpties, SendLooks, SendOpens, SendPushes, SendEvicts, SendGetsBack, SendEnds}
use Rattle.iox_wire_locals.specs.declared.seat.Seat.{Seat}
use Rattle.iox_wire_locals.specs.Tables.{Setting}
use Rattle.iox_wire_locals.specs.Begins.{is_busy}
use Rattle.iox_wire_locals.specs.Known.{known}
use Rattle.iox_wire_locals.specs.Courses.{placed}
use Rattle.iox_wire_locals.specs.Lendings.{next_handle}
use Rattle.iox_wire_locals.specs.Settlements.{reply_of}
use Rattle.iox_wire_locals.specs.Steps.{closed, ending_at, next, tells}
use Rattle.iox_wire_seats.specs.Aims.{KeepsRoom}
use Rattle.iox_wire_seats.specs.Desks.{IsUsed, MayDeliver, MayGiveUp}
use Rattle.iox_wire_seats.specs.Lends.{MayLend}
use Rattle.iox_wire_seats.specs.Seats.{Placed}
use Rattle.iox_wire_request_sends.specs.declared.at.RequestAt.{RequestAt}
use Rattle.iox_wire_request_sends.specs.declared.at.RequestAt.TheVariants as at
use Rattle.iox_wire_request_sends.specs.declared.at.RequestReply.{RequestReply}
use Rattle.iox_wire_request_sends.specs.declared.at.RequestReply.TheVariants as request_replies
use Rattle.iox_wire_request_sends.specs.declared.target.RequestTerms.{RequestTerms}
use Rattle.iox_wire_request_sends.specs.RequestDispatches.{RequestDispatch, reply_in}
use Rattle.iox_wire_request_sends.specs.Targets.{AreTargets}

-- ---- what a send keeps to

-- it looks once at each server
abbrev pub HasSeen : RequestAt → (full left all : ℕ) → Type 0
HasSeen at.Looks full left all = full + left < all
HasSeen name full left all = Unit {0}

-- it delivers once to each server
abbrev pub HasCount : RequestAt → (count left all : ℕ) → Type 0
HasCount at.Pushes count left all = count + left < all
HasCount at.Evicts count left all = count + left ≤ all
HasCount at.GetsBack count left all = count + left ≤ all
HasCount name count left all = Unit {0}

-- ---- the wire

-- What it was told about its client is so on the wire.
pub record IsToldOf (p : Setting) (loan : Entry) (t : RequestTerms) : Type 0 where
  pub overflow : (x : Seat) → overflow_of p.limits (role_at (known p x) loan.port) ≡ t.overflow
  pub fails : (x : Seat) (server : ℕ)
      → fails_at (known p x) (request_way loan.port server) ≡ t.fails
  pub active : p.limits.active_requests ≡ t.active

-- So is what it was told about the servers, and of the node if its own call made the loan.
pub record Knows (p : Setting) (x : Seat) (r : RequestDispatch) : Type 0 where
  pub told : IsToldOf p r.loan r.terms
  pub targets : AreTargets p r.terms r.loan r.targets
  pub left : AreTargets p r.terms r.loan r.left
  pub number : r.copied ≡ true → r.loan.number ≡ next_handle p x

-- the places that it knows of are those of the words that it still accesses
abbrev pub AreAimed : Setting → Seat → Local → RequestDispatch → Type 0
AreAimed p x (SendEmpties d w place left) r =
    Knows p x r × (r.site ≡ site_of p.layout (ReturningQueue w))
AreAimed p x (SendLooks d w place left full) r =
    Knows p x r × (r.site ≡ site_of p.layout (MessageQueue w))
AreAimed p x (SendOpens d w left full) r =
    Knows p x r × (r.state ≡ state_place p.layout w)
AreAimed p x (SendPushes d last w place left count) r =
    Knows p x r × (r.site ≡ site_of p.layout (MessageQueue w))
AreAimed p x (SendEvicts d w place left count) r =
    Knows p x r × (r.site ≡ site_of p.layout (MessageQueue w))
AreAimed p x (SendGetsBack d w place left count) r =
    Knows p x r × (r.site ≡ site_of p.layout (MessageQueue w))
AreAimed p x (Ends ending) r = Knows p x r
AreAimed p x (SendEnds d last count) r = Knows p x r
AreAimed p x local r = Unit {0}

-- the places that it knows of are those of its place
abbrev pub IsAimed : Setting → Seat → RequestDispatch → Type 0
IsAimed p x r = AreAimed p x r.local r

-- ---- what an access finds

-- what the access gets back is in use, and what it delivers may be delivered
abbrev pub FindsAt : Seat → RequestDispatch → Local → ℕ → Type 0
FindsAt x r (SendEmpties d w place left) seen =
    (slot : ℕ) → popping_event r.site place seen ≡ HandOut slot → IsUsed r.loan.port slot x.desks
FindsAt x r (SendPushes d last w place left count) seen =
    (slot : ℕ) → pushing_event r.site place seen ≡ Publish slot
    → MayDeliver r.loan.port w slot x.desks
FindsAt x r (SendGetsBack d w place left count) seen =
    (slot : ℕ) → pushing_event r.site place seen ≡ Learn slot → IsUsed r.loan.port slot x.desks
FindsAt x r local seen = Unit {0}

-- so it is of a send, with the seat beside it
abbrev pub FindsUsed : Placed → RequestDispatch → ℕ → Type 0
FindsUsed x r seen = FindsAt x.seat r r.local seen

-- ---- what the seat beside it keeps

-- as long as it may be refused, its loan may be given up
abbrev pub IsHeldIn : Local → Entry → List Desk → Type 0
IsHeldIn (Ends ending) loan desks = MayGiveUp loan desks
IsHeldIn (SendEmpties d w place left) loan desks = MayGiveUp loan desks
IsHeldIn (SendLooks d w place left full) loan desks = MayGiveUp loan desks
IsHeldIn local loan desks = Unit {0}

-- A loan of the same call may become a handle, and one that may be refused may be given up.
pub record LoanMayEnd (x : Placed) (r : RequestDispatch) : Type 0 where
  pub made : r.copied ≡ true → MayLend x r.loan.number r.loan.port
  pub held : IsHeldIn r.local r.loan x.seat.desks

-- ---- what it sends

-- what is delivered is that loan
abbrev pub IsDeliveryOf : Entry → Bool → Delivery → Type 0
IsDeliveryOf loan copied d = (d.loan ≡ loan) × (d.copied ≡ copied)

-- the place is one of the send of that loan
abbrev pub IsSendOf : Entry → Bool → Local → Type 0
IsSendOf loan copied Idle = Unit {0}
IsSendOf loan copied (Ends (endings.FailsToSend e own r)) = (e ≡ loan) × (own ≡ copied)
IsSendOf loan copied (SendEmpties d w place left) = IsDeliveryOf loan copied d
IsSendOf loan copied (SendLooks d w place left full) = IsDeliveryOf loan copied d
IsSendOf loan copied (SendOpens d w left full) = IsDeliveryOf loan copied d
IsSendOf loan copied (SendPushes d last w place left count) = IsDeliveryOf loan copied d
IsSendOf loan copied (SendEvicts d w place left count) = IsDeliveryOf loan copied d
IsSendOf loan copied (SendGetsBack d w place left count) = IsDeliveryOf loan copied d
IsSendOf loan copied (SendEnds d last count) = IsDeliveryOf loan copied d
IsSendOf loan copied local = ⊥

-- Its loan is a request, and its place one of the send of that.
pub record SendsItsRequest (r : RequestDispatch) : Type 0 where
  pub kind : is_request_loan r.loan.kind ≡ true
  pub place : IsSendOf r.loan r.copied r.local

-- ---- a step

-- After an access that found this the node is the next, the other numbers being as they may,
abbrev pub GoesOn : Placed → RequestDispatch → ℕ → Placed → RequestDispatch → Type 0
GoesOn x r seen y s =
    (p : Setting) → IsAimed p x.seat r → placed y.seat s.local ≡ next p (placed x.seat r.local) seen

-- it answers this if the send is over,
abbrev pub Answers : Placed → RequestDispatch → ℕ → Option RequestReply → Type 0
Answers x r seen reply =
    (p : Setting) → IsAimed p x.seat r
    → tells p (placed x.seat r.local) seen ≡ option_map reply_in reply

-- so it answers by whether its own call made the loan,
abbrev pub IsToldBy : (copied : Bool) → RequestReply → Type 0
IsToldBy copied (request_replies.Sent count) = copied ≡ false
IsToldBy copied (request_replies.Handle number) = copied ≡ true
IsToldBy copied reply = Unit {0}

-- and it knows the places of what it accesses next.
abbrev pub StaysAimed : Placed → RequestDispatch → Placed → RequestDispatch → Type 0
StaysAimed x r y s = (p : Setting) → IsAimed p x.seat r → IsAimed p y.seat s

-- it is the send of the same loan, told about the same servers, with room for as many
pub record IsSameSend (r s : RequestDispatch) : Type 0 where
  pub loan : s.loan ≡ r.loan
  pub copied : s.copied ≡ r.copied
  pub terms : s.terms ≡ r.terms
  pub targets : s.targets ≡ r.targets
  pub room : s.room ≡ r.room

-- A step counts one access, and the seat stays between calls.
pub record IsOneStep (x y : Placed) : Type 0 where
  pub accesses : y.seat.accesses ≡ x.seat.accesses + 1
  pub rests : is_busy y.seat.local ≡ false
  pub room : KeepsRoom x y

-- ---- a part of a call that is done

-- a call that is there now, and is over if it has no access left
abbrev pub after : Setting → Seat → Seat
after p y = closed p y (ending_at y.local)

-- what it answers then
abbrev pub answered : Setting → Seat → Option Reply
answered p y = option_map (reply_of p y) (ending_at y.local)

-- The node is there now, and answers this.
pub record LeadsTo
    (p : Setting) (there : Seat) (y : Placed) (s : RequestDispatch)
    (reply : Option RequestReply) : Type 0 where
  pub next : placed y.seat s.local ≡ after p there
  pub over : answered p there ≡ option_map reply_in reply
  pub aimed : IsAimed p y.seat s

-- The seat is as it was unless the send is over, and that is told, by who made the loan.
pub record LeavesSeat
    (x y : Placed) (s : RequestDispatch) (reply : Option RequestReply) : Type 0 where
  pub busy : is_busy s.local ≡ is_none reply
  pub told : IfSome reply (IsToldBy s.copied)
  pub accesses : y.seat.accesses ≡ x.seat.accesses
  pub rests : is_busy y.seat.local ≡ false
  pub room : KeepsRoom x y

-- ---- where it is

-- whether it has no access left
abbrev pub is_ending : Local → Bool
is_ending (Ends ending) = true
is_ending (SendEnds d last count) = true
is_ending local = false

-- it gets back what returned
abbrev pub IsEmptying : Local → Type 0
IsEmptying (SendEmpties d w place left) = Unit {0}
IsEmptying local = ⊥

-- it looks whether a server is full
abbrev pub IsLooking : Local → Type 0
IsLooking (SendLooks d w place left full) = Unit {0}
IsLooking local = ⊥

-- it opens a request state
abbrev pub IsOpening : Local → Type 0
IsOpening (SendOpens d w left full) = Unit {0}
IsOpening local = ⊥

-- it delivers
abbrev pub IsPushing : Local → Type 0
IsPushing (SendPushes d last w place left count) = Unit {0}
IsPushing local = ⊥

-- it may push the oldest out
abbrev pub IsEvicting : Local → Type 0
IsEvicting (SendEvicts d w place left count) = Unit {0}
IsEvicting local = ⊥

-- it learns what it pushed out
abbrev pub IsGettingBack : Local → Type 0
IsGettingBack (SendGetsBack d w place left count) = Unit {0}
IsGettingBack local = ⊥
