-- What a node's desks record of a way is what the machine says is outstanding there.
use Rattle.std.specs.Prelude.{◌≡◌, ℕ, ◌==◌, true, false, List, [], map, find, is_some, Option}
use Rattle.std.specs.Option.{option_map_or}
use Rattle.iox_model.specs.declared.way.Way.{Way}
use Rattle.iox_model.specs.Maps.{has_number, same_way, AreDistinct}
use Rattle.iox_model.specs.Moments.{Moment, Deliver, GetBack, moved}
use Rattle.iox_model.specs.States.{State}
use Rattle.iox_wire_moments.specs.MomentsOf.{Pools, serial_in}
use Rattle.iox_wire_locals.specs.declared.table.NewLoan.{NewLoan}
use Rattle.iox_wire_locals.specs.declared.table.Recorded.{Recorded}
use Rattle.iox_wire_locals.specs.declared.seat.Seat.{Seat}
use Rattle.iox_wire_locals.specs.Desks.{delivers, gets_back, picks, at_desk}

-- what the desk of a port records
abbrev pub recorded_of : Seat → ℕ → List Recorded
recorded_of x port = option_map_or (λ d. d.recorded) (find (λ d. d.port == port) x.desks) []

-- the record of a way
abbrev pub record_of : Way → List Recorded → Option Recorded
record_of y recorded = find (λ r. same_way r.way y) recorded

-- the slots recorded on a way
abbrev pub slots_on : Seat → Way → List ℕ
slots_on x y = option_map_or (λ r. r.slots) (record_of y (recorded_of x y.sender)) []

-- the serials of the messages in them
abbrev pub serials_on : Pools → Seat → Way → List ℕ
serials_on held x y = map (serial_in held y) (slots_on x y)

-- On each way that has a record, the serials of its slots are those that the machine says were
-- delivered and not got back, each once.
pub record RecordsFit (held : Pools) (s : State) (x : Seat) : Type 0 where
  pub told : (y : Way) (k : ℕ) → is_some (record_of y (recorded_of x y.sender)) ≡ true
      → s.delivered y k ≡ has_number k (serials_on held x y)
  pub once : (y : Way) → is_some (record_of y (recorded_of x y.sender)) ≡ true
      → AreDistinct (serials_on held x y)

-- A delivery is recorded on its way, where its message was not outstanding.
abbrev pub DeliveriesAreRecorded : Type 0
DeliveriesAreRecorded =
    (held : Pools) (s : State) (x : Seat) (w : Way) (slot : ℕ) → RecordsFit held s x
    → s.delivered w (serial_in held w slot) ≡ false
    → RecordsFit held (moved s (Deliver w (held w.sender slot)))
    (at_desk x w.sender (delivers w slot))

-- What is got back leaves the record of its way, where no other slot there holds its serial.
abbrev pub GetBacksAreRecorded : Type 0
GetBacksAreRecorded =
    (held : Pools) (s : State) (x : Seat) (w : Way) (slot : ℕ) → RecordsFit held s x
    → ((j : ℕ) → has_number j (slots_on x w) ≡ true → serial_in held w j ≡ serial_in held w slot
    → j ≡ slot)
    → RecordsFit held (moved s (GetBack w (serial_in held w slot)))
    (at_desk x w.sender (gets_back w slot))

-- the moment delivers nothing and gets nothing back
abbrev pub LeavesRecords : Moment → Type 0
LeavesRecords (Deliver w m) = ⊥
LeavesRecords (GetBack w k) = ⊥
LeavesRecords m = Unit {0}

-- No other moment changes what is recorded, nor does a new loan's pick of a slot.
abbrev pub OthersLeaveRecords : Type 0
OthersLeaveRecords =
    (held : Pools) (s : State) (x : Seat) (m : Moment) (port : ℕ) (o : NewLoan) (slot : ℕ)
    (free : List ℕ)
    → RecordsFit held s x → LeavesRecords m
    → RecordsFit held (moved s m) x × RecordsFit held s (at_desk x port (picks o slot free))
