-- After one access of a call that owns its place, the next world is shown and the next place owned.
use Rattle.std.specs.Prelude.{◌≡◌, ℕ, None}
use Rattle.iox_model.specs.Joins.{not_living}
use Rattle.iox_model.specs.Maps.{put_at}
use Rattle.iox_model.specs.Weaves.{World}
use Rattle.iox_steps.specs.Accesses.{seen_by}
use Rattle.iox_wire_words.specs.Programs.{program_access}
use Rattle.iox_wire_words.specs.Fits.{WireContents, contents_after}
use Rattle.iox_wire_words.specs.Laws.{AccessIsMade}
use Rattle.iox_wire_moments.specs.MomentsOf.{Pools}
use Rattle.iox_wire_locals.specs.declared.seat.Seat.{Seat}
use Rattle.iox_wire_locals.specs.Tables.{Setting}
use Rattle.iox_wire_locals.specs.Locals.{program_of}
use Rattle.iox_wire_locals.specs.StateMoments.{moment_at}
use Rattle.iox_wire_locals.specs.StepLaws.{ReliesOn}
use Rattle.iox_wire_locals.specs.Steps.{advance, accessed}
use Rattle.iox_wire_laws.specs.WireKeeping.Shows.{ShowsWorld}
use Rattle.iox_wire_laws.specs.WireShows.StepsShow.{ShowsNext}
use Rattle.iox_wire_laws.specs.WireShows.OwnedCalls.{OwnsCall, TellsLane, LimitsAreKnown, WordsTell, state_after}

-- Where words and seats show a world, and the call of a living node owns its place, the next access
-- is one beat of the machine or none. The world after it is shown, and the call owns its next
-- place.
abbrev pub OwnedStepsGoOn : Type 0
OwnedStepsGoOn =
    (p : Setting) (held : Pools) (word word' : ℕ → ℕ) (c : WireContents) (seats : ℕ → Seat)
    (w : World) (n : ℕ)
    → ShowsWorld p held word c seats w → not_living w.state n ≡ None
    → let x = seats n in let program = program_of p x.local in
    let seen = seen_by (program_access p.layout program) word in
    let y = advance p (accessed x) x.local seen in
    let t = state_after w.state (moment_at p held x.local seen) in
    OwnsCall p x.node w.state.fixed w.state.request_state x.local → TellsLane held x.local
    → LimitsAreKnown p x w.state.fixed → WordsTell p x.local seen
    → ReliesOn p (accessed x) w.state held x.local seen
    → AccessIsMade (program_access p.layout program) word word'
    → ShowsNext p held word' (contents_after p.layout program seen c) (put_at seats n y) w n
    (moment_at p held x.local seen)
    × OwnsCall p y.node t.fixed t.request_state y.local
