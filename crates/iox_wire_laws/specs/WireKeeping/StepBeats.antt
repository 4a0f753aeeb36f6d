-- Each access of a node is a beat of the machine, or none.
use Rattle.std.specs.Prelude.{◌≡◌, ℕ, Option, Some, None}
use Rattle.iox_model.specs.Joins.{not_living}
use Rattle.iox_model.specs.Moments.{Moment}
use Rattle.iox_model.specs.Weaves.{World, Makes, IsBeat}
use Rattle.iox_steps.specs.Accesses.{seen_by}
use Rattle.iox_wire_words.specs.Programs.{program_access}
use Rattle.iox_wire_words.specs.Fits.{WireContents, contents_after}
use Rattle.iox_wire_moments.specs.MomentsOf.{Pools}
use Rattle.iox_wire_moments.specs.Ties.{Ties}
use Rattle.iox_wire_locals.specs.declared.seat.Seat.{Seat}
use Rattle.iox_wire_locals.specs.Tables.{Setting}
use Rattle.iox_wire_locals.specs.Locals.{program_of}
use Rattle.iox_wire_locals.specs.StateMoments.{moment_at}
use Rattle.iox_wire_locals.specs.StepLaws.{ReliesOn}
use Rattle.iox_wire_locals.specs.Steps.{advance, accessed}
use Rattle.iox_wire_laws.specs.WireKeeping.Readiness.{ShowsDoing}
use Rattle.iox_wire_laws.specs.WireKeeping.Shows.{StatesFit, ShowsWorld, OwnsPlace}

-- the contents are those of the world, and the node stands for what it has to do there
abbrev pub ShowsNode : Setting → Pools → WireContents → World → Seat → Type 0
ShowsNode p held c w y =
    ShowsDoing p held w y × Ties p.layout held c w.state × StatesFit p c w.state

-- without a moment the world is the same; else the moment is a beat of the node, and the world
-- after it is shown
abbrev pub ShowsStep : Setting → Pools → WireContents → World → Seat → Seat → Option Moment → Type 0
ShowsStep p held c w x y None = ShowsNode p held c w y
ShowsStep p held c w x y (Some m) =
    (u : World) × IsBeat w (Makes x.node m) u × ShowsNode p held c u y

-- Where words and seats show a world, the next access of a living node is one beat of the machine
-- or none. The node's next place stands for what it has to do then.
abbrev pub StepsAreBeats : Type 0
StepsAreBeats =
    (p : Setting) (held : Pools) (word : ℕ → ℕ) (c : WireContents) (seats : ℕ → Seat) (w : World)
    (n : ℕ)
    → ShowsWorld p held word c seats w → not_living w.state n ≡ None
    → let x = seats n in let program = program_of p x.local in
    let seen = seen_by (program_access p.layout program) word in
    OwnsPlace p held w.state x → ReliesOn p (accessed x) w.state held x.local seen
    → ShowsStep p held (contents_after p.layout program seen c) w x
    (advance p (accessed x) x.local seen) (moment_at p held x.local seen)
