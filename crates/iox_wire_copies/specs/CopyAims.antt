-- Which places the loan of a copy knows of, and what a step of it does.
use Rattle.std.specs.Prelude.{◌≡◌, ℕ, true, length, Option, Some, None}
use Rattle.iox_model.specs.declared.reply.Reply.TheVariants.{Refused}
use Rattle.iox_wire_locals.specs.declared.local.Local.{Local}
use Rattle.iox_wire_locals.specs.declared.local.Local.TheVariants.{LendStores}
use Rattle.iox_wire_locals.specs.declared.seat.Seat.{Seat}
use Rattle.iox_wire_locals.specs.declared.table.Entry.{Entry}
use Rattle.iox_wire_locals.specs.Courses.{placed, sends}
use Rattle.iox_wire_locals.specs.Doings.{refusal_of}
use Rattle.iox_wire_locals.specs.Lendings.{next_handle}
use Rattle.iox_wire_locals.specs.NewLoans.{entry_in}
use Rattle.iox_wire_locals.specs.Steps.{next, tells}
use Rattle.iox_wire_locals.specs.Tables.{Setting}
use Rattle.iox_wire_seats.specs.Aims.{IsPayloadAt}
use Rattle.iox_wire_seats.specs.Desks.{MayGiveUp}
use Rattle.iox_wire_seats.specs.Lends.{MayLend}
use Rattle.iox_wire_seats.specs.Seats.{Placed}
use Rattle.iox_wire_request_sends.specs.WireLoansAims.{IsStoring, Knows, TellsOfSlot, after, answered}
use Rattle.iox_wire_request_sends.specs.WireLoansAims as loans
use Rattle.iox_wire_request_sends.specs.Orders.{loan_of}
use Rattle.iox_wire_request_sends.specs.Order.{Order}
use Rattle.iox_wire_copies.specs.declared.at.CopyAt.{CopyAt}
use Rattle.iox_wire_copies.specs.declared.at.CopyAt.TheVariants as at
use Rattle.iox_wire_copies.specs.declared.at.CopyLent.{CopyLent}
use Rattle.iox_wire_copies.specs.declared.at.CopyLent.TheVariants as lent
use Rattle.iox_wire_copies.specs.Copies.{ArePayloads, CopyLoan}

-- ---- the places that it knows of

-- the places that it knows of are those of the words that it still accesses
abbrev pub AreAimed : Setting → Seat → CopyAt → CopyLoan → Type 0
AreAimed p x at.Rest r = Unit {0}
AreAimed p x at.Lends r =
    loans.IsAimed p x r.lending × ArePayloads p r.lending.order.port r.slots r.places
AreAimed p x at.Writes r =
    Knows p x r.lending × IsPayloadAt p r.loan r.place (length r.payload)

-- the places that it knows of are those of its place
abbrev pub IsAimed : Setting → Seat → CopyLoan → Type 0
IsAimed p x r = AreAimed p x r.at r

-- ---- a step

-- After its access the node is the next. With the last word the loan is made, and sent by the
-- same call.
abbrev pub CopyLeadsOn : Setting → Seat → ℕ → Placed → CopyLoan → Option CopyLent → Type 0
CopyLeadsOn p before seen y s None =
    (placed y.seat s.local ≡ next p before seen) × (tells p before seen ≡ None)
CopyLeadsOn p before seen y s (Some (lent.Refused r)) =
    (placed y.seat s.local ≡ next p before seen)
    × (tells p before seen ≡ Some (Refused (refusal_of r)))
CopyLeadsOn p before seen y s (Some lent.Made) =
    (next p before seen ≡ after p (sends p y.seat s.loan true))
    × (tells p before seen ≡ answered p (sends p y.seat s.loan true))
    × (s.loan.number ≡ next_handle p y.seat)

-- After an access that found this it leads there, the other numbers being as they may,
abbrev pub GoesOn : Placed → CopyLoan → ℕ → Placed → CopyLoan → Option CopyLent → Type 0
GoesOn x r seen y s result =
    (p : Setting) → IsAimed p x.seat r
    → CopyLeadsOn p (placed x.seat r.local) seen y s result

-- and it knows the places of what it accesses next.
abbrev pub StaysAimed : Placed → CopyLoan → Placed → CopyLoan → Type 0
StaysAimed x r y s =
    (p : Setting) → IsAimed p x.seat r → TellsOfSlot p s.local → IsAimed p y.seat s

-- the loan that is made is that of its order
abbrev pub IsLoanOfOrder : CopyLoan → Option CopyLent → Type 0
IsLoanOfOrder s (Some lent.Made) = s.loan ≡ entry_in (loan_of s.lending.order) s.loan.slot
IsLoanOfOrder s result = Unit {0}

-- it is made with the last word that it stores
abbrev pub IsMadeAt : Local → Option CopyLent → Type 0
IsMadeAt local (Some lent.Made) = IsStoring local
IsMadeAt local result = Unit {0}

-- there is as much room for ways, and for the words of a message
pub record HasSameRooms (r s : CopyLoan) : Type 0 where
  pub lending : loans.HasSameRooms r.lending s.lending
  pub payload : s.payload_room ≡ r.payload_room

-- it is the loan of the same order, told about the same slots
pub record IsSameCopy (r s : CopyLoan) : Type 0 where
  pub order : s.lending.order ≡ r.lending.order
  pub payload : s.payload ≡ r.payload
  pub slots : s.slots ≡ r.slots
  pub places : s.places ≡ r.places
  pub rooms : HasSameRooms r s

-- ---- what the seat beside it keeps

-- the message that it stores may be given up
abbrev pub MayBeGivenUp : Seat → Local → Type 0
MayBeGivenUp x (LendStores o slot next) = MayGiveUp (entry_in o slot) x.desks
MayBeGivenUp x local = Unit {0}

-- so may the message that it made
abbrev pub IsHeldMade : Seat → Entry → Option CopyLent → Type 0
IsHeldMade x loan (Some lent.Made) = MayGiveUp loan x.desks
IsHeldMade x loan result = Unit {0}

-- what might be given up may be so
abbrev pub HoldsMade : Placed → CopyLoan → Placed → CopyLoan → Option CopyLent → Type 0
HoldsMade x r y s result = MayBeGivenUp x.seat r.local → IsHeldMade y.seat s.loan result

-- unless it is refused, the loan may become a handle
abbrev pub MayLendMade : Placed → Order → Option CopyLent → Type 0
MayLendMade x order (Some (lent.Refused r)) = Unit {0}
MayLendMade x order result = MayLend x order.number order.port

-- the node knows of the same nodes
pub record HasSamePeers (x y : Seat) : Type 0 where
  pub node : y.node ≡ x.node
  pub forgot : y.forgot ≡ x.forgot

-- so does the seat after a step
abbrev pub KeepsPeers : Placed → CopyLoan → Placed → Type 0
KeepsPeers x r y = (p : Setting) → IsAimed p x.seat r → HasSamePeers x.seat y.seat

-- ---- where it is

-- its loan is under way
abbrev pub IsLending : CopyAt → Type 0
IsLending at.Lends = Unit {0}
IsLending name = ⊥

-- it stores the words of its payload
abbrev pub IsWriting : CopyAt → Type 0
IsWriting at.Writes = Unit {0}
IsWriting name = ⊥
