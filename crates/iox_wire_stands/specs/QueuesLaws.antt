-- Queues have slots of their senders' pools after each access, too.
use Rattle.std.specs.Prelude.{ℕ}
use Rattle.iox_model.specs.States.{State}
use Rattle.iox_wire_words.specs.Fits.{WireContents, contents_after}
use Rattle.iox_wire_moments.specs.MomentsOf.{Pools}
use Rattle.iox_wire_locals.specs.declared.seat.Seat.{Seat}
use Rattle.iox_wire_locals.specs.Locals.{program_of}
use Rattle.iox_wire_locals.specs.StateMoments.{moment_at}
use Rattle.iox_wire_locals.specs.StepLaws.{ReliesOn}
use Rattle.iox_wire_locals.specs.Steps.{accessed}
use Rattle.iox_wire_locals.specs.Tables.{Setting}
use Rattle.iox_wire_laws.specs.WireShows.OwnedCalls.{state_after}
use Rattle.iox_wire_laws.specs.WireHolding.FarSlots.{QueuesHaveSlots}
use Rattle.iox_wire_stands.specs.Nodes.{NodeStands}

-- What a standing node publishes is a slot of its message's sender.
abbrev pub AccessesKeepQueues : Type 0
AccessesKeepQueues =
    (p : Setting) (held : Pools) (s : State) (x : Seat) (c : WireContents) (seen : ℕ)
    → QueuesHaveSlots p c s → NodeStands p held s x
    → ReliesOn p (accessed x) s held x.local seen
    → QueuesHaveSlots p (contents_after p.layout (program_of p x.local) seen c)
    (state_after s (moment_at p held x.local seen))
