-- A node's counts of borrowed messages stay the machine's as its calls end: so it knows its limits.
use Rattle.std.specs.Prelude.{◌≡◌, ℕ, true, List}
use Rattle.std.specs.List.{list_any}
use Rattle.iox_model.specs.declared.way.Way.{Way}
use Rattle.iox_model.specs.Ends as ends
use Rattle.iox_model.specs.Handles.{is_received}
use Rattle.iox_model.specs.Maps.{same_way}
use Rattle.iox_model.specs.States.{Fixed, State}
use Rattle.iox_wire_moments.specs.MomentsOf.{Pools}
use Rattle.iox_wire_locals.specs.declared.local.Ending.{Ending}
use Rattle.iox_wire_locals.specs.declared.local.Ending.TheVariants.{Receives, Drops}
use Rattle.iox_wire_locals.specs.declared.seat.Seat.{Seat}
use Rattle.iox_wire_locals.specs.BeginLaws.{Counts}
use Rattle.iox_wire_locals.specs.Doings.{outcome_of}
use Rattle.iox_wire_locals.specs.Known.{count_on}
use Rattle.iox_wire_locals.specs.Knowing.{Knows}
use Rattle.iox_wire_locals.specs.Settlements.{settled}
use Rattle.iox_wire_locals.specs.Tables.{Setting, way_in}
use Rattle.iox_wire_laws.specs.WireKeeping.OwnParts.{KeepsOwn}
use Rattle.iox_wire_laws.specs.WireShows.OwnedCalls.{LimitsAreKnown}

-- on the ways to its own ports the node counts as many borrowed messages as the machine
abbrev pub BorrowedFits : Setting → Seat → Fixed → Type 0
BorrowedFits p x f = (y : Way) → p.layout.owner y.receiver ≡ x.node → count_on x y ≡ f.borrowed y

-- So it knows where it is at its limit.
abbrev pub CountsTellLimits : Type 0
CountsTellLimits =
    (p : Setting) (x : Seat) (f : Fixed) (held : Pools)
    → Knows p x f held → BorrowedFits p x f → LimitsAreKnown p x f

-- Begins and accesses leave the counts, as they leave all of the node's own part.
abbrev pub OwnPartsKeepBorrowed : Type 0
OwnPartsKeepBorrowed =
    (p : Setting) (x y : Seat) (f : Fixed) → KeepsOwn x y → BorrowedFits p x f → BorrowedFits p y f

-- the node has a count of that way
abbrev pub HasCount : Seat → Way → Type 0
HasCount x y = list_any (λ b. same_way b.way y) x.borrowed ≡ true

-- what the end of a call gains or gives up came on a way that the node counts
abbrev pub CountsItsWay : Seat → Ending → Type 0
CountsItsWay x (Receives v w slot header) = HasCount x w
CountsItsWay x (Drops e) = is_received e.kind ≡ true → HasCount x (way_in e)
CountsItsWay x ending = Unit {0}

-- As a call ends, both count one more on the way of what was received, one less on that of a
-- received message that is released, and else as many.
abbrev pub EndsKeepBorrowed : Type 0
EndsKeepBorrowed =
    (p : Setting) (x : Seat) (s : State) (held : Pools) (payload : List ℕ) (ending : Ending)
    → Counts p x s held → BorrowedFits p x s.fixed → CountsItsWay x ending
    → BorrowedFits p (settled p x ending)
    (ends.settled s x.node payload (outcome_of p held x.node ending)).fixed
