-- After each access of a node the words fit the program of its next place.
use Rattle.std.specs.Prelude.{◌≡◌, ℕ, None}
use Rattle.iox_model.specs.Joins.{not_living}
use Rattle.iox_model.specs.Maps.{put_at}
use Rattle.iox_model.specs.Weaves.{World}
use Rattle.iox_steps.specs.Accesses.{seen_by}
use Rattle.iox_wire_words.specs.Programs.{program_access}
use Rattle.iox_wire_words.specs.Fits.{WireContents, WordsFit, contents_after}
use Rattle.iox_wire_words.specs.Laws.{AccessIsMade}
use Rattle.iox_wire_moments.specs.MomentsOf.{Pools}
use Rattle.iox_wire_locals.specs.declared.seat.Seat.{Seat}
use Rattle.iox_wire_locals.specs.Tables.{Setting}
use Rattle.iox_wire_locals.specs.Locals.{program_of}
use Rattle.iox_wire_locals.specs.StepLaws.{ReliesOn}
use Rattle.iox_wire_locals.specs.Steps.{advance, accessed}
use Rattle.iox_wire_laws.specs.WireKeeping.Shows.{ShowsWorld, OwnsPlace, programs_of}

-- Where words and seats show a world, the next access of a living node leaves words that fit all
-- programs again: the node's next place continues with its program, or begins another once that is
-- over.
abbrev pub NextProgramsFit : Type 0
NextProgramsFit =
    (p : Setting) (held : Pools) (word word' : ℕ → ℕ) (c : WireContents) (seats : ℕ → Seat)
    (w : World) (n : ℕ)
    → ShowsWorld p held word c seats w → not_living w.state n ≡ None
    → let x = seats n in let program = program_of p x.local in
    let seen = seen_by (program_access p.layout program) word in
    OwnsPlace p held w.state x → ReliesOn p (accessed x) w.state held x.local seen
    → AccessIsMade (program_access p.layout program) word word'
    → WordsFit p.layout word'
    (programs_of p (put_at seats n (advance p (accessed x) x.local seen)))
    (contents_after p.layout program seen c)
