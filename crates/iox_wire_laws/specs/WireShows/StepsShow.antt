-- After one access of a node, words and seats show a world again.
use Rattle.std.specs.Prelude.{◌≡◌, ℕ, Option, Some, None}
use Rattle.iox_model.specs.Joins.{not_living}
use Rattle.iox_model.specs.Maps.{put_at}
use Rattle.iox_model.specs.Moments.{Moment}
use Rattle.iox_model.specs.Weaves.{World, Makes, IsBeat}
use Rattle.iox_steps.specs.Accesses.{seen_by}
use Rattle.iox_wire_words.specs.Programs.{program_access}
use Rattle.iox_wire_words.specs.Fits.{WireContents, contents_after}
use Rattle.iox_wire_words.specs.Laws.{AccessIsMade}
use Rattle.iox_wire_moments.specs.MomentsOf.{Pools}
use Rattle.iox_wire_locals.specs.declared.seat.Seat.{Seat}
use Rattle.iox_wire_locals.specs.Tables.{Setting}
use Rattle.iox_wire_locals.specs.Locals.{program_of}
use Rattle.iox_wire_locals.specs.StateMoments.{moment_at}
use Rattle.iox_wire_locals.specs.StepLaws.{ReliesOn}
use Rattle.iox_wire_locals.specs.Steps.{advance, accessed}
use Rattle.iox_wire_laws.specs.WireKeeping.Shows.{ShowsWorld, OwnsPlace}
use Rattle.iox_wire_laws.specs.WireShows.Ids.{NamesSmall}

-- without a moment the same world is shown; else the moment is a beat of the node, and the world
-- after it is shown
abbrev pub ShowsNext : Setting → Pools → (ℕ → ℕ) → WireContents → (ℕ → Seat) → World → ℕ
    → Option Moment → Type 0
ShowsNext p held word c seats w n None = ShowsWorld p held word c seats w
ShowsNext p held word c seats w n (Some m) =
    (u : World) × IsBeat w (Makes n m) u × ShowsWorld p held word c seats u

-- Where words and seats show a world, the next access of a living node is one beat of the machine
-- or none. The words after it, with the node at its next place, show the world after it.
abbrev pub StepsShowTheWorld : Type 0
StepsShowTheWorld =
    (p : Setting) (held : Pools) (word word' : ℕ → ℕ) (c : WireContents) (seats : ℕ → Seat)
    (w : World) (n : ℕ)
    → ShowsWorld p held word c seats w → not_living w.state n ≡ None
    → let x = seats n in let program = program_of p x.local in
    let seen = seen_by (program_access p.layout program) word in
    OwnsPlace p held w.state x → NamesSmall x.local
    → ReliesOn p (accessed x) w.state held x.local seen
    → AccessIsMade (program_access p.layout program) word word'
    → ShowsNext p held word' (contents_after p.layout program seen c)
    (put_at seats n (advance p (accessed x) x.local seen)) w n (moment_at p held x.local seen)
