-- Each access of a queue is one moment that is true of the state, or none.
use Rattle.std.specs.Prelude.{◌≡◌, ℕ, true, Option, Some, None}
use Rattle.iox_wire_words.specs.States.{State}
use Rattle.iox_wire_words.specs.Moments.{Holds, moved, Moment}
use Rattle.iox_wire_words.specs.Peers.{is_counted_on}
use Rattle.iox_steps.specs.Accesses.{seen_by}
use Rattle.iox_wire_words.specs.WordMaps.{MessageQueue, ReturningQueue}
use Rattle.iox_wire_words.specs.Programs.{WireLayout, Program, Pushes, Pops, program_access}
use Rattle.iox_wire_words.specs.Fits.{WireContents, IsSized, WordsFit, contents_after, MayRun}
use Rattle.iox_wire_moments.specs.MomentsOf.{Pools, moment_of}
use Rattle.iox_wire_moments.specs.Ties.{Suits, Ties}

-- the moment, if there is one, was true of the state, and the contents are tied to the state after
-- it; else to the same state
abbrev pub ShowsMoment : WireLayout → Pools → WireContents → State → Option Moment → Type 0
ShowsMoment p held c s None = Ties p held c s
ShowsMoment p held c s (Some m) = Holds s m × Ties p held c (moved s m)

-- the program is one of a queue on whose way the sender still counts what it delivers
abbrev pub IsCountedFor : State → Program → Type 0
IsCountedFor s (Pushes (MessageQueue y) place) = is_counted_on s.fixed y ≡ true
IsCountedFor s (Pushes (ReturningQueue y) place) = is_counted_on s.fixed y ≡ true
IsCountedFor s (Pops (MessageQueue y) place) = is_counted_on s.fixed y ≡ true
IsCountedFor s (Pops (ReturningQueue y) place) = is_counted_on s.fixed y ≡ true
IsCountedFor s program = ⊥

-- Where words fit and are tied to a state, the next access of a queue's program is a moment that is
-- true of this state, or none. The words after it are tied to the state after it.
abbrev pub EachAccessIsAMoment : Type 0
EachAccessIsAMoment =
    (p : WireLayout) (held : Pools) (word : ℕ → ℕ) (programs : ℕ → Program) (c : WireContents)
    (s : State) (n : ℕ) (program : Program)
    → IsSized p → Suits p s.fixed → WordsFit p word programs c → Ties p held c s
    → programs n ≡ program → MayRun p n program → IsCountedFor s program
    → let seen = seen_by (program_access p program) word in
    ShowsMoment p held (contents_after p program seen c) s (moment_of p held program seen)
