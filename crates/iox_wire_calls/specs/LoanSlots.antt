-- What slots hold of loans: that of a loan in the making holds its message, and no other slot has
-- the serial of a next one.
use Rattle.std.specs.Prelude.{◌≡◌, ◌<◌, ◌≤◌, ◌^◌, ◌⊎◌, ℕ, true, List, Some}
use Rattle.iox_model.specs.Maps.{has_number}
use Rattle.iox_model.specs.States.{State}
use Rattle.iox_wire_steps.specs.MomentsOf.{Pools}
use Rattle.iox_wire_steps.specs.Ending.{Ending}
use Rattle.iox_wire_steps.specs.Local.{Local}
use Rattle.iox_wire_steps.specs.Local.TheVariants.{LendEmpties, LendStores}
use Rattle.iox_wire_steps.specs.Seat.{Seat}
use Rattle.iox_wire_steps.specs.Known.{loans_at}
use Rattle.iox_wire_steps.specs.NewLoans.{message_in}
use Rattle.iox_wire_steps.specs.StepLaws.{ReliesOn}
use Rattle.iox_wire_steps.specs.Steps.{accessed, advance, closed}
use Rattle.iox_wire_steps.specs.Tables.{Setting}
use Rattle.iox_wire_steps.specs.UsedSlots.{slots_in_call}
use Rattle.iox_wire_steps.specs.FarSlots.{IsInPool}
use Rattle.iox_wire_steps.specs.Holding.{held_after}
use Rattle.iox_wire_steps.specs.SlotsKnown.{IsPortOfSeat}
use Rattle.iox_wire_steps.specs.Following.{CallMessage, Lent, message_at}
use Rattle.iox_wire_steps.specs.Nodes.{NodeStands}
use Rattle.iox_wire_steps.specs.Over.{CallIsOver}
use Rattle.iox_wire_steps.specs.WholeSteps.{held_closed}
use Rattle.iox_wire_calls.specs.Lanes.{AllLanesAreCounted}
use Rattle.iox_wire_calls.specs.LaneLaws.{HasLanesForSlots}
use Rattle.iox_wire_calls.specs.Places.{CallFits, LanesAreSet}
use Rattle.iox_wire_calls.specs.StepsTold.{MessageIsTold}

-- the slot of a loan in the making holds the loan's message
abbrev pub HoldsLoan : Setting → Pools → CallMessage → Type 0
HoldsLoan p held (Lent o slot) = held o.port slot ≡ message_in p o
HoldsLoan p held other = Unit {0}

-- a slot holds a message of a loan that succeeded, or none of any loan, or its call's own loan
abbrev pub HoldsSerial : Pools → Seat → (port slot : ℕ) → Type 0
HoldsSerial held x port slot =
    ((held port slot).serial < loans_at x port)
    ⊎ ((2 ^ 64 ≤ (held port slot).serial) ⊎ (has_number slot (slots_in_call port x.local) ≡ true))

-- So it is at the node's ports.
pub record LoansStand (p : Setting) (held : Pools) (x : Seat) : Type 0 where
  pub loan : HoldsLoan p held (message_at x.local)
  pub serials : (port slot : ℕ) → IsPortOfSeat p x port → IsInPool p port slot
      → HoldsSerial held x port slot

-- what a step is then still to be told: only words of messages
abbrev pub WordsAreTold : Setting → Pools → State → Seat → ℕ → Local → Type 0
WordsAreTold p held s x seen (LendEmpties o w place left) = Unit {0}
WordsAreTold p held s x seen (LendStores o slot next) = Unit {0}
WordsAreTold p held s x seen local = MessageIsTold p held s x seen local

-- Loans are told what is so, as long as fewer than 2^64 of each port succeeded: one that takes a slot
-- has its port's next serial, and a lane.
abbrev pub LoansAreTold : Type 0
LoansAreTold =
    (p : Setting) (held : Pools) (s : State) (x : Seat) (seen : ℕ)
    → LanesAreSet p → NodeStands p held s x → CallFits p x → LoansStand p held x
    → HasLanesForSlots p x → AllLanesAreCounted p x
    → ((port : ℕ) → loans_at x port < 2 ^ 64) → WordsAreTold p held s x seen x.local
    → MessageIsTold p held s x seen x.local

-- An access of the node keeps this,
abbrev pub AccessesKeepLoans : Type 0
AccessesKeepLoans =
    (p : Setting) (held : Pools) (s : State) (x : Seat) (seen : ℕ)
    → ReliesOn p (accessed x) s held x.local seen → LoansStand p held x
    → LoansStand p (held_after p x seen held) (advance p (accessed x) x.local seen)

-- and the end of its call, with whatever payload.
abbrev pub EndsKeepLoanSlots : Type 0
EndsKeepLoanSlots =
    (p : Setting) (held : Pools) (s : State) (x : Seat) (payload : List ℕ) (ending : Ending)
    → CallIsOver p held s x ending → LoansStand p held x
    → LoansStand p (held_closed p held payload (Some ending)) (closed p x (Some ending))
