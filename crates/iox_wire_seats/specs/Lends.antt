-- What a loan that is kept beside the seat reads there, and leaves there.
use Rattle.std.specs.Prelude.{◌==◌, ◌<◌, ◌+◌, ◌-◌, ◌^◌, ℕ, List, [], find}
use Rattle.std.specs.Option.{option_map_or}
use Rattle.iox_wire_locals.specs.declared.table.Desk.{Desk}
use Rattle.iox_wire_locals.specs.declared.table.Entry.{Entry}
use Rattle.iox_wire_locals.specs.declared.table.NewLoan.{NewLoan}
use Rattle.iox_wire_locals.specs.Desks.{at_desk, counts_loan, picks}
use Rattle.iox_wire_locals.specs.Settlements.{gains}
use Rattle.iox_wire_seats.specs.Desks.{MayCount}
use Rattle.iox_wire_seats.specs.Rows.{AreBelow}
use Rattle.iox_wire_seats.specs.Seats.{Placed}

-- how many loans of a port succeeded
abbrev pub loans_in : ℕ → List Desk → ℕ
loans_in port desks = option_map_or (λ d. d.loans) (find (λ d. d.port == port) desks) 0

-- the free lanes of a port
abbrev pub lanes_in : ℕ → List Desk → List ℕ
lanes_in port desks = option_map_or (λ d. d.free_lanes) (find (λ d. d.port == port) desks) []

-- ---- of a seat

-- a new loan has its slot; these stay free
abbrev pub picked : Placed → ℕ → NewLoan → ℕ → List ℕ → Placed
picked x port o slot free = record x { seat = at_desk x.seat port (picks o slot free) }

-- there is one handle more, of a loan
abbrev pub gains_loan : Placed → Entry → Placed
gains_loan x e = record x { seat = at_desk (gains x.seat e) e.port counts_loan; room = x.room - 1 }

-- The node may have one handle more, of that number, and count one loan more of that port.
pub record MayLend (x : Placed) (number port : ℕ) : Type 0 where
  pub room : 0 < x.room
  pub newer : AreBelow number x.seat.table
  pub handles : x.seat.handles_made + 1 < 2 ^ 64
  pub loans : MayCount port x.seat.desks
