-- The call of a server that copies a response, and what a step of it does.
use Rattle.std.specs.Prelude.{◌≡◌, ℕ, true, Option, option_map}
use Rattle.iox_model.specs.Commands.{Reply}
use Rattle.iox_model.specs.declared.reply.Reply.TheVariants as replies
use Rattle.iox_model.specs.Messages.{response_way}
use Rattle.iox_model.specs.declared.kind.Kind.TheVariants.{ResponseMut}
use Rattle.iox_model.specs.declared.way.Way.{Way}
use Rattle.iox_wire_locals.specs.declared.local.CallRefusal.TheVariants.{WrongLength}
use Rattle.iox_wire_locals.specs.declared.local.Ending.TheVariants.{Refuses}
use Rattle.iox_wire_locals.specs.declared.local.Local.{Local}
use Rattle.iox_wire_locals.specs.declared.local.Local.TheVariants.{Ends, Idle}
use Rattle.iox_wire_locals.specs.declared.seat.Seat.{Seat}
use Rattle.iox_wire_locals.specs.declared.table.Entry.{Entry}
use Rattle.iox_wire_locals.specs.Courses.{placed, sends}
use Rattle.iox_wire_locals.specs.Doings.{refusal_of}
use Rattle.iox_wire_locals.specs.Steps.{next, tells}
use Rattle.iox_wire_locals.specs.Tables.{Setting, state_in}
use Rattle.iox_wire_seats.specs.Desks.{IsUsed}
use Rattle.iox_wire_seats.specs.Lends.{MayLend}
use Rattle.iox_wire_seats.specs.Seats.{Placed}
use Rattle.iox_wire_request_sends.specs.WireLoansAims.{GetsBackUsed, TellsOfSlot, after, answered}
use Rattle.iox_wire_request_sends.specs.Order.{Order}
use Rattle.iox_wire_sends.specs.Aims as responses
use Rattle.iox_wire_sends.specs.Aims.{FindsAt, IsToldOf, MayCountMade}
use Rattle.iox_wire_sends.specs.Dispatches.{Dispatch}
use Rattle.iox_wire_sends.specs.declared.terms.ResponseTerms.{ResponseTerms}
use Rattle.iox_wire_copies.specs.declared.at.CopierAt.{CopierAt}
use Rattle.iox_wire_copies.specs.declared.at.CopierAt.TheVariants as at
use Rattle.iox_wire_copies.specs.declared.at.ResponseCopyReply.{ResponseCopyReply}
use Rattle.iox_wire_copies.specs.declared.at.ResponseCopyReply.TheVariants as copy_replies
use Rattle.iox_wire_copies.specs.Copies.{CopyLoan, IsLoanOf}
use Rattle.iox_wire_copies.specs.Copiers.{SendsLoan}
use Rattle.iox_wire_copies.specs.CopyAims as copies
use Rattle.iox_wire_copies.specs.CopyAims.{MayBeGivenUp, IsSameCopy}

-- ---- what it stands for

-- A copy of a response: where it is, its loan, and its send.
pub record ResponseCopy : Type 0 where
  pub at : CopierAt
  pub local : Local
  pub lends : CopyLoan
  pub sends : Dispatch

-- the machine's name of a reply
abbrev pub reply_in : ResponseCopyReply → Reply
reply_in copy_replies.Done = replies.Done
reply_in (copy_replies.Refused r) = replies.Refused (refusal_of r)

-- ---- what it keeps to

-- what it lends is a response
abbrev pub LendsResponse : CopierAt → Order → Type 0
LendsResponse at.Lends order = order.kind ≡ ResponseMut
LendsResponse name order = Unit {0}

-- ---- the wire

-- the way on which the response of an order goes, and on which its request state lies
abbrev pub way_of : Order → Way
way_of o = response_way o.client o.lane o.port

-- what it was told about a way is so on the wire, for each loan that goes there
abbrev pub KnowsWay : Setting → Way → ResponseTerms → Type 0
KnowsWay p w t = (loan : Entry) → state_in loan ≡ w → IsToldOf p loan t

-- the places that it knows of are those of the words that it still accesses
abbrev pub AreAimed : Setting → Seat → CopierAt → ResponseCopy → Type 0
AreAimed p x at.Rest r = Unit {0}
AreAimed p x at.Refuses r = Unit {0}
AreAimed p x at.Lends r =
    copies.IsAimed p x r.lends × KnowsWay p (way_of r.lends.lending.order) r.sends.terms
AreAimed p x at.Sends r = responses.IsAimed p r.sends

-- the places that it knows of are those of its place
abbrev pub IsAimed : Setting → Seat → ResponseCopy → Type 0
IsAimed p x r = AreAimed p x r.at r

-- ---- where it is

-- it is where its loan or its send is, a response's
abbrev pub HasItsPlace : CopierAt → ResponseCopy → Type 0
HasItsPlace at.Rest r = r.local ≡ Idle
HasItsPlace at.Refuses r = r.local ≡ Ends (Refuses WrongLength)
HasItsPlace at.Lends r = (r.local ≡ r.lends.local) × IsLoanOf ResponseMut r.lends.local
HasItsPlace at.Sends r = (r.local ≡ r.sends.local) × responses.SendsItsResponse r.sends

-- so it is of a call
abbrev pub CopiesItsResponse : ResponseCopy → Type 0
CopiesItsResponse r = HasItsPlace r.at r

-- ---- what the seat beside it keeps

-- What it lends may be counted as a handle would be, and may be given up; what it sends is in use,
-- and may be counted.
abbrev pub LoanMayEnd : Placed → CopierAt → ResponseCopy → Type 0
LoanMayEnd x at.Lends r =
    MayLend x r.lends.lending.order.number r.lends.lending.order.port × MayBeGivenUp x.seat r.local
LoanMayEnd x at.Sends r =
    IsUsed r.sends.loan.port r.sends.loan.slot x.seat.desks × MayCountMade x r.sends
LoanMayEnd x name r = Unit {0}

-- so it is of a call
abbrev pub MayEndCall : Placed → ResponseCopy → Type 0
MayEndCall x r = LoanMayEnd x r.at r

-- what the access gets back is in use, and what it delivers may be delivered
abbrev pub FindsUsed : Placed → ResponseCopy → ℕ → Type 0
FindsUsed x r seen = GetsBackUsed x.seat r.local × FindsAt x.seat r.sends.terms r.local seen

-- ---- a step

-- After an access that found this the node is the next, the other numbers being as they may,
abbrev pub GoesOn : Placed → ResponseCopy → ℕ → Placed → ResponseCopy → Type 0
GoesOn x r seen y s =
    (p : Setting) → IsAimed p x.seat r → placed y.seat s.local ≡ next p (placed x.seat r.local) seen

-- it answers this if the copy is over,
abbrev pub Answers : Placed → ResponseCopy → ℕ → Option ResponseCopyReply → Type 0
Answers x r seen reply =
    (p : Setting) → IsAimed p x.seat r
    → tells p (placed x.seat r.local) seen ≡ option_map reply_in reply

-- and it knows the places of what it accesses next.
abbrev pub StaysAimed : Placed → ResponseCopy → Placed → ResponseCopy → Type 0
StaysAimed x r y s =
    (p : Setting) → IsAimed p x.seat r → TellsOfSlot p s.local → IsAimed p y.seat s

-- it is the copy of the same order, told about the same way
pub record IsSameCall (r s : ResponseCopy) : Type 0 where
  pub lends : IsSameCopy r.lends s.lends
  pub terms : s.sends.terms ≡ r.sends.terms

-- So the loan that it sends, if it does.
abbrev pub SendsItsLoan : ResponseCopy → Type 0
SendsItsLoan r = SendsLoan r.at r.lends.lending.order r.sends.loan

-- ---- the loan is made

-- The node is where the send of that loan is led, and answers this.
pub record LeadsTo
    (p : Setting) (x : Seat) (loan : Entry) (y : Placed) (s : ResponseCopy)
    (reply : Option ResponseCopyReply) : Type 0 where
  pub next : placed y.seat s.local ≡ after p (sends p x loan true)
  pub over : answered p (sends p x loan true) ≡ option_map reply_in reply
  pub aimed : IsAimed p y.seat s

-- So it is for a loan whose way it was told about.
abbrev pub SendsTo :
    Seat → ResponseTerms → Entry → Placed → ResponseCopy → Option ResponseCopyReply → Type 0
SendsTo x t loan y s reply = (p : Setting) → IsToldOf p loan t → LeadsTo p x loan y s reply
