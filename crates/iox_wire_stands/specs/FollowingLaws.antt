-- What follows for the slots that a node knows.
use Rattle.std.specs.Prelude.{◌≡◌, ℕ, false, Option, Some, None}
use Rattle.iox_model.specs.Moments.{Deliver, GetBack, Moment}
use Rattle.iox_model.specs.States.{State}
use Rattle.iox_wire_moments.specs.MomentsOf.{Pools, serial_in}
use Rattle.iox_wire_locals.specs.declared.local.Local.{Local}
use Rattle.iox_wire_locals.specs.declared.local.Local.TheVariants.{LendStores}
use Rattle.iox_wire_locals.specs.declared.seat.Seat.{Seat}
use Rattle.iox_wire_locals.specs.StateMoments.{moment_at}
use Rattle.iox_wire_locals.specs.StepLaws.{ReliesOn}
use Rattle.iox_wire_locals.specs.Steps.{accessed, advance}
use Rattle.iox_wire_locals.specs.Tables.{Setting}
use Rattle.iox_wire_laws.specs.WireKeeping.Records.{LeavesRecords}
use Rattle.iox_wire_laws.specs.WireShows.OwnedCalls.{state_after}
use Rattle.iox_wire_laws.specs.WireHolding.Holding.{held_after}
use Rattle.iox_wire_laws.specs.WireHolding.PickedSlots.{IsNextLoan}
use Rattle.iox_wire_laws.specs.WireHolding.SlotsKnown.{SlotsKnown}
use Rattle.iox_wire_pools.specs.Uses.{AllUsesAreCounted}
use Rattle.iox_wire_pools.specs.UsesLaws.{FindsUsed}
use Rattle.iox_wire_stands.specs.Nodes.{HasOwnDesks}
use Rattle.iox_wire_stands.specs.Following.{CallMessage, Delivered, DeskChange, GotBack, NoMessage, Unchanged, desk_change, message_at}

-- the moment is that of the change, or none that changes what is recorded
abbrev pub LeavesAll : Option Moment → Type 0
LeavesAll None = Unit {0}
LeavesAll (Some m) = LeavesRecords m

-- a change of a desk has the moment of the machine that changes its record so
abbrev pub IsMomentOf : Pools → DeskChange → Option Moment → Type 0
IsMomentOf held Unchanged m = LeavesAll m
IsMomentOf held (GotBack port w slot) m = m ≡ Some (GetBack w (serial_in held w slot))
IsMomentOf held (Delivered port w slot) m = m ≡ Some (Deliver w (held w.sender slot))

-- An access changes a desk exactly as its moment changes the machine's record.
abbrev pub DesksFollowMoments : Type 0
DesksFollowMoments =
    (p : Setting) (held : Pools) (s : State) (x : Seat) (local : Local) (seen : ℕ)
    → ReliesOn p x s held local seen
    → IsMomentOf held (desk_change p local seen) (moment_at p held local seen)

-- what a delivery delivers is not outstanding there
abbrev pub DeliversNew : Pools → State → DeskChange → Type 0
DeliversNew held s (Delivered port w slot) = s.delivered w (serial_in held w slot) ≡ false
DeliversNew held s change = Unit {0}

-- a loan that takes its slot has its port's next serial, which no other slot has
abbrev pub TakesNext : Setting → Pools → State → CallMessage → Local → Type 0
TakesNext p held s NoMessage (LendStores o slot next) = IsNextLoan p held s o slot
TakesNext p held s before local = Unit {0}

-- The slots that a node knows stay known over each of its accesses: one that takes a slot, gets a
-- message back, delivers one, or does none of these.
abbrev pub AccessesKeepSlots : Type 0
AccessesKeepSlots =
    (p : Setting) (held : Pools) (s : State) (x : Seat) (seen : ℕ)
    → let y = advance p (accessed x) x.local seen in
    SlotsKnown p held s x → HasOwnDesks p x → AllUsesAreCounted p x → FindsUsed p x x.local seen
    → ReliesOn p (accessed x) s held x.local seen → DeliversNew held s (desk_change p x.local seen)
    → TakesNext p held s (message_at x.local) y.local
    → SlotsKnown p (held_after p x seen held) (state_after s (moment_at p held x.local seen)) y
