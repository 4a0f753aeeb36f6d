-- Where a client or a server is that copies a message.
use Rattle.std.specs.Prelude.{◌≡◌, Bool, true, false}
use Rattle.iox_wire_locals.specs.declared.local.CallRefusal.TheVariants.{WrongLength}
use Rattle.iox_wire_locals.specs.declared.local.Ending.TheVariants.{Refuses}
use Rattle.iox_wire_locals.specs.declared.local.Local.{Local}
use Rattle.iox_wire_locals.specs.declared.local.Local.TheVariants.{Idle, Ends}
use Rattle.iox_wire_locals.specs.declared.table.Entry.{Entry}
use Rattle.iox_wire_locals.specs.NewLoans.{entry_in}
use Rattle.iox_wire_seats.specs.Lends.{MayLend}
use Rattle.iox_wire_seats.specs.Seats.{Placed}
use Rattle.iox_wire_request_sends.specs.Orders.{loan_of}
use Rattle.iox_wire_request_sends.specs.Order.{Order}
use Rattle.iox_wire_copies.specs.declared.at.CopierAt.{CopierAt}
use Rattle.iox_wire_copies.specs.declared.at.CopierAt.TheVariants as at

-- the place of a call that a name, its loan and its send stand for
abbrev pub local_of : CopierAt → (lends sends : Local) → Local
local_of at.Rest lends sends = Idle
local_of at.Refuses lends sends = Ends (Refuses WrongLength)
local_of at.Lends lends sends = lends
local_of at.Sends lends sends = sends

-- whether its loan is under way
abbrev pub lends_at : CopierAt → Bool
lends_at at.Lends = true
lends_at name = false

-- whether its send is
abbrev pub sends_at : CopierAt → Bool
sends_at at.Sends = true
sends_at name = false

-- what it sends is the loan that it made
abbrev pub SendsLoan : CopierAt → Order → Entry → Type 0
SendsLoan at.Sends order loan = loan ≡ entry_in (loan_of order) loan.slot
SendsLoan name order loan = Unit {0}

-- its own call made that
abbrev pub SendsOwn : CopierAt → (copied : Bool) → Type 0
SendsOwn at.Sends copied = copied ≡ true
SendsOwn name copied = Unit {0}

-- The loan of that order may become a handle, as long as the copy lends or sends; what it sends is
-- that loan.
abbrev pub MayBeMade : Placed → CopierAt → Order → Entry → Type 0
MayBeMade x at.Lends order loan = MayLend x order.number order.port
MayBeMade x at.Sends order loan =
    MayLend x order.number order.port × (loan.number ≡ order.number) × (loan.port ≡ order.port)
MayBeMade x name order loan = Unit {0}

-- it lends or sends
abbrev pub IsAtWork : CopierAt → Type 0
IsAtWork at.Lends = Unit {0}
IsAtWork at.Sends = Unit {0}
IsAtWork name = ⊥

-- it lends
abbrev pub IsLending : CopierAt → Type 0
IsLending at.Lends = Unit {0}
IsLending name = ⊥

-- it sends
abbrev pub IsSending : CopierAt → Type 0
IsSending at.Sends = Unit {0}
IsSending name = ⊥
