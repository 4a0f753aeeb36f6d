-- What an access in the midst of a call keeps: all that stands.
use Rattle.std.specs.Prelude.{◌≡◌, ℕ, List, length, Option, Some, None}
use Rattle.iox_model.specs.declared.way.Way.{Way}
use Rattle.iox_model.specs.Joins.{not_living}
use Rattle.iox_model.specs.Maps.{put_at}
use Rattle.iox_model.specs.Moments.{Moment}
use Rattle.iox_model.specs.States.{State}
use Rattle.iox_model.specs.Weaves.{Makes}
use Rattle.iox_steps.specs.Accesses.{seen_by}
use Rattle.iox_wire_words.specs.Laws.{AccessIsMade}
use Rattle.iox_wire_words.specs.Programs.{program_access}
use Rattle.iox_wire_moments.specs.MomentsOf.{Pools}
use Rattle.iox_wire_locals.specs.declared.seat.Seat.{Seat}
use Rattle.iox_wire_locals.specs.Locals.{program_of}
use Rattle.iox_wire_locals.specs.StateMoments.{moment_at}
use Rattle.iox_wire_locals.specs.Steps.{accessed, advance, ending_at}
use Rattle.iox_wire_locals.specs.Tables.{Setting}
use Rattle.iox_wire_laws.specs.WireHolding.SlotsKnown.{IsPortOfSeat}
use Rattle.iox_wire_stands.specs.Following.{CallMessage, LeavesNothing, Taken, message_at}
use Rattle.iox_wire_stands.specs.NamesLaws.{ReturnsNothing}
use Rattle.iox_wire_stands.specs.NodeLaws.{ToldWhatIsSo}
use Rattle.iox_wire_stands.specs.Nodes.{NodeStands}
use Rattle.iox_wire_stands.specs.Runs.{GoesOnBy, Run}
use Rattle.iox_wire_stands.specs.Stands.{Player, Stands, word_of}

-- ---- slots of others

-- the message that the call took is the same one in its slot
abbrev pub TakenStays : Pools → Pools → CallMessage → Type 0
TakenStays held new message =
    (w : Way) (slot : ℕ) → message ≡ Taken w slot → new w.sender slot ≡ held w.sender slot

-- As a slot changes that is of another node's port, and that the call did not take, all stays that
-- is so of a node.
abbrev pub OtherSlotsMayChange : Type 0
OtherSlotsMayChange =
    (p : Setting) (held new : Pools) (s : State) (x : Seat)
    → ((port slot : ℕ) → IsPortOfSeat p x port → new port slot ≡ held port slot)
    → TakenStays held new (message_at x.local)
    → NodeStands p held s x → NodeStands p new s x

-- ---- a step

-- without a moment the run is the same, else it continues with that of the node
abbrev pub RunGoesOn : Run → ℕ → Option Moment → Run → Type 0
RunGoesOn r n None next = next ≡ r
RunGoesOn r n (Some m) next = GoesOnBy r (Makes n m) next

-- An access of a living node in the midst of its call leads from what stands to what stands: it is
-- quiet, or one beat of the machine. (It is none that gives an entry's message back, or comes after
-- that, or ends the call; and it is told what is so.)
abbrev pub StepsKeep : Type 0
StepsKeep =
    (p : Setting) (words words' : List ℕ) (players : ℕ → Player) (r : Run) (n : ℕ)
    (stands : Stands p words players r)
    → not_living r.last.state n ≡ None
    → let x = (players n).seat in let access = program_access p.layout (program_of p x.local) in
    let seen = seen_by access (word_of words) in let y = advance p (accessed x) x.local seen in
    ToldWhatIsSo p stands.held r.last.state x seen
    → LeavesNothing (message_at x.local) → ReturnsNothing x.local (message_at y.local)
    → ending_at y.local ≡ None
    → AccessIsMade access (word_of words) (word_of words') → length words' ≡ length words
    → (next : Run) × RunGoesOn r n (moment_at p stands.held x.local seen) next
    × Stands p words' (put_at players n (record { seat = y; said = (players n).said })) next
