-- The call of a client that copies a request, and what a step of it does.
use Rattle.std.specs.Prelude.{◌≡◌, ◌+◌, ◌<◌, ◌^◌, ℕ, true, Option, option_map}
use Rattle.iox_model.specs.Commands.{Reply}
use Rattle.iox_model.specs.declared.reply.Reply.TheVariants as replies
use Rattle.iox_model.specs.Handles.{is_request_loan}
use Rattle.iox_model.specs.Peers.{others}
use Rattle.iox_model.specs.declared.kind.Kind.TheVariants.{RequestMut}
use Rattle.iox_model.specs.declared.kind.Role.TheVariants.{Server}
use Rattle.iox_wire_locals.specs.declared.local.CallRefusal.TheVariants.{WrongLength}
use Rattle.iox_wire_locals.specs.declared.local.Ending.TheVariants.{Refuses}
use Rattle.iox_wire_locals.specs.declared.local.Local.{Local}
use Rattle.iox_wire_locals.specs.declared.local.Local.TheVariants.{Ends, Idle, LendStores}
use Rattle.iox_wire_locals.specs.declared.seat.Seat.{Seat}
use Rattle.iox_wire_locals.specs.declared.table.Entry.{Entry}
use Rattle.iox_wire_locals.specs.Courses.{placed, sends}
use Rattle.iox_wire_locals.specs.Doings.{refusal_of}
use Rattle.iox_wire_locals.specs.Known.{known}
use Rattle.iox_wire_locals.specs.Lendings.{next_handle}
use Rattle.iox_wire_locals.specs.Steps.{next, tells}
use Rattle.iox_wire_locals.specs.Tables.{Setting}
use Rattle.iox_wire_seats.specs.Lends.{MayLend}
use Rattle.iox_wire_seats.specs.Seats.{Placed}
use Rattle.iox_wire_request_sends.specs.WireLoansAims.{GetsBackUsed, TellsOfSlot, after, answered}
use Rattle.iox_wire_request_sends.specs.Order.{Order}
use Rattle.iox_wire_request_sends.specs.Aims as requests
use Rattle.iox_wire_request_sends.specs.Aims.{FindsAt, IsToldOf}
use Rattle.iox_wire_request_sends.specs.RequestDispatches.{RequestDispatch}
use Rattle.iox_wire_request_sends.specs.Targets.{AreTargets, servers_of}
use Rattle.iox_wire_copies.specs.declared.at.CopierAt.{CopierAt}
use Rattle.iox_wire_copies.specs.declared.at.CopierAt.TheVariants as at
use Rattle.iox_wire_copies.specs.declared.at.CopyReply.{CopyReply}
use Rattle.iox_wire_copies.specs.declared.at.CopyReply.TheVariants as copy_replies
use Rattle.iox_wire_copies.specs.Copies.{CopyLoan, IsLoanOf}
use Rattle.iox_wire_copies.specs.Copiers.{SendsLoan}
use Rattle.iox_wire_copies.specs.CopyAims as copies
use Rattle.iox_wire_copies.specs.CopyAims.{MayBeGivenUp, IsSameCopy}

-- ---- what it stands for

-- A copy of a request: where it is, its loan, and its send.
pub record CopyCall : Type 0 where
  pub at : CopierAt
  pub local : Local
  pub lends : CopyLoan
  pub sends : RequestDispatch

-- the machine's name of a reply
abbrev pub reply_in : CopyReply → Reply
reply_in (copy_replies.Handle number) = replies.Handle number
reply_in (copy_replies.Refused r) = replies.Refused (refusal_of r)

-- ---- what it keeps to

-- what it lends is a request, whose state has room for a hint
abbrev pub LendsRequest : CopierAt → Order → Type 0
LendsRequest at.Lends order = (order.kind ≡ RequestMut) × (order.request + 1 < 2 ^ 63)
LendsRequest name order = Unit {0}

-- ---- the wire

-- What it was told about the servers is so on the wire, for a request of that port on that lane.
pub record KnowsServers
    (p : Setting) (x : Seat) (port lane : ℕ) (s : RequestDispatch) : Type 0 where
  pub told : (loan : Entry) → loan.port ≡ port → IsToldOf p loan s.terms
  pub targets :
      (loan : Entry) → loan.port ≡ port → loan.lane ≡ lane → AreTargets p s.terms loan s.targets
  pub servers : servers_of s.targets ≡ others (known p x) x.node Server

-- if the client has that lane
abbrev pub KnowsServersOnLane :
    Setting → Seat → (port lane : ℕ) → RequestDispatch → Type 0
KnowsServersOnLane p x port lane s =
    lane < p.layout.sizes.lanes port → KnowsServers p x port lane s

-- A loan that stores its words is sent, so the servers are known. Before that it may have no lane.
abbrev pub KnowsServersAt : Setting → Seat → Local → Order → RequestDispatch → Type 0
KnowsServersAt p x (LendStores o slot next) order s = KnowsServers p x order.port order.lane s
KnowsServersAt p x local order s = KnowsServersOnLane p x order.port order.lane s

-- the places that it knows of are those of the words that it still accesses
abbrev pub AreAimed : Setting → Seat → CopierAt → CopyCall → Type 0
AreAimed p x at.Rest r = Unit {0}
AreAimed p x at.Refuses r = Unit {0}
AreAimed p x at.Lends r =
    copies.IsAimed p x r.lends
    × KnowsServersAt p x r.lends.local r.lends.lending.order r.sends
AreAimed p x at.Sends r = requests.IsAimed p x r.sends

-- the places that it knows of are those of its place
abbrev pub IsAimed : Setting → Seat → CopyCall → Type 0
IsAimed p x r = AreAimed p x r.at r

-- a request whose words are stored is on a lane of its client
abbrev pub TellsOfLane : Setting → Local → Type 0
TellsOfLane p (LendStores o slot next) =
    is_request_loan o.kind ≡ true → o.lane < p.layout.sizes.lanes o.port
TellsOfLane p local = Unit {0}

-- and the slot that it took is one of its port's pool
abbrev pub TellsOfSlotAndLane : Setting → Local → Type 0
TellsOfSlotAndLane p local = TellsOfSlot p local × TellsOfLane p local

-- ---- where it is

-- it is where its loan or its send is, a request's
abbrev pub HasItsPlace : CopierAt → CopyCall → Type 0
HasItsPlace at.Rest r = r.local ≡ Idle
HasItsPlace at.Refuses r = r.local ≡ Ends (Refuses WrongLength)
HasItsPlace at.Lends r = (r.local ≡ r.lends.local) × IsLoanOf RequestMut r.lends.local
HasItsPlace at.Sends r = (r.local ≡ r.sends.local) × requests.SendsItsRequest r.sends

-- so it is of a call
abbrev pub CopiesItsRequest : CopyCall → Type 0
CopiesItsRequest r = HasItsPlace r.at r

-- ---- what the seat beside it keeps

-- What it lends may become a handle, and may be given up as long as its send may be refused.
abbrev pub LoanMayEnd : Placed → CopierAt → CopyCall → Type 0
LoanMayEnd x at.Lends r =
    MayLend x r.lends.lending.order.number r.lends.lending.order.port × MayBeGivenUp x.seat r.local
LoanMayEnd x at.Sends r = requests.LoanMayEnd x r.sends
LoanMayEnd x name r = Unit {0}

-- so it is of a call
abbrev pub MayEndCall : Placed → CopyCall → Type 0
MayEndCall x r = LoanMayEnd x r.at r

-- what the access gets back is in use, and what it delivers may be delivered
abbrev pub FindsUsed : Placed → CopyCall → ℕ → Type 0
FindsUsed x r seen = GetsBackUsed x.seat r.local × FindsAt x.seat r.sends r.local seen

-- ---- a step

-- After an access that found this the node is the next, the other numbers being as they may,
abbrev pub GoesOn : Placed → CopyCall → ℕ → Placed → CopyCall → Type 0
GoesOn x r seen y s =
    (p : Setting) → IsAimed p x.seat r → placed y.seat s.local ≡ next p (placed x.seat r.local) seen

-- it answers this if the copy is over,
abbrev pub Answers : Placed → CopyCall → ℕ → Option CopyReply → Type 0
Answers x r seen reply =
    (p : Setting) → IsAimed p x.seat r
    → tells p (placed x.seat r.local) seen ≡ option_map reply_in reply

-- and it knows the places of what it accesses next.
abbrev pub StaysAimed : Placed → CopyCall → Placed → CopyCall → Type 0
StaysAimed x r y s =
    (p : Setting) → IsAimed p x.seat r → TellsOfSlotAndLane p s.local → IsAimed p y.seat s

-- it is the copy of the same order, told about the same servers
pub record IsSameCall (r s : CopyCall) : Type 0 where
  pub lends : IsSameCopy r.lends s.lends
  pub terms : s.sends.terms ≡ r.sends.terms
  pub targets : s.sends.targets ≡ r.sends.targets
  pub room : s.sends.room ≡ r.sends.room

-- So the loan that it sends, if it does.
abbrev pub SendsItsLoan : CopyCall → Type 0
SendsItsLoan r = SendsLoan r.at r.lends.lending.order r.sends.loan

-- ---- the loan is made

-- The node is where the send of that loan is led, and answers this.
pub record LeadsTo
    (p : Setting) (x : Seat) (loan : Entry) (y : Placed) (s : CopyCall)
    (reply : Option CopyReply) : Type 0 where
  pub next : placed y.seat s.local ≡ after p (sends p x loan true)
  pub over : answered p (sends p x loan true) ≡ option_map reply_in reply
  pub aimed : IsAimed p y.seat s

-- So it is for a loan of the servers that it was told about, which has the node's next number.
abbrev pub SendsTo : Seat → RequestDispatch → Entry → Placed → CopyCall → Option CopyReply → Type 0
SendsTo x r loan y s reply =
    (p : Setting) → KnowsServers p x loan.port loan.lane r → loan.number ≡ next_handle p x
    → LeadsTo p x loan y s reply
