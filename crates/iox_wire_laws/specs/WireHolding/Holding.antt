-- Which message each slot holds, and when that changes: a loan takes its slot, and a call ends that
-- lent or wrote.
use Rattle.std.specs.Prelude.{ℕ, ◌&&◌, if◌then◌else◌, ◌==◌, List}
use Rattle.iox_model.specs.Messages.{Message}
use Rattle.iox_wire_moments.specs.MomentsOf.{Pools}
use Rattle.iox_wire_locals.specs.declared.local.Ending.{Ending}
use Rattle.iox_wire_locals.specs.declared.local.Ending.TheVariants.{Lends, Fills}
use Rattle.iox_wire_locals.specs.declared.local.Local.{Local}
use Rattle.iox_wire_locals.specs.declared.local.Local.TheVariants.{LendStores}
use Rattle.iox_wire_locals.specs.declared.seat.Seat.{Seat}
use Rattle.iox_wire_locals.specs.NewLoans.{entry_in, message_in}
use Rattle.iox_wire_locals.specs.Steps.{advance, accessed}
use Rattle.iox_wire_locals.specs.Tables.{Setting}
use Rattle.iox_wire_laws.specs.WireKeeping.Writes.{with_payload}

-- one slot holds another message
abbrev pub held_with : Pools → (port slot : ℕ) → Message → Pools
held_with held port slot m q j = if (port == q) && (slot == j) then m else held q j

-- the slot that a loan has taken holds the loan's message
abbrev pub held_at : Setting → Pools → Local → Pools
held_at p held (LendStores o slot next) = held_with held o.port slot (message_in p o)
held_at p held local = held

-- A call that goes from a place to the next one changes what slots hold where it takes a slot.
abbrev pub held_from : Setting → Pools → (old new : Local) → Pools
held_from p held (LendStores o slot next) new = held
held_from p held old new = held_at p held new

-- what slots hold after the access of a node, which found this
abbrev pub held_after : Setting → Seat → ℕ → Pools → Pools
held_after p x seen held = held_from p held x.local (advance p (accessed x) x.local seen).local

-- What slots hold once a call ended so: a new loan has the payload that stands in its slot, and a
-- write left its words there.
abbrev pub held_ended : Pools → List ℕ → Ending → Pools
held_ended held payload (Lends o slot) = with_payload held (entry_in o slot) payload
held_ended held payload (Fills e words) = with_payload held e words
held_ended held payload ending = held
