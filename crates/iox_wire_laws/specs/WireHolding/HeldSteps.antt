-- After each access of a node, words and seats show the next world, with what slots hold then.
use Rattle.std.specs.Prelude.{◌≡◌, ℕ, true, None}
use Rattle.iox_model.specs.Joins.{not_living}
use Rattle.iox_model.specs.Maps.{has_number, put_at}
use Rattle.iox_model.specs.States.{State}
use Rattle.iox_model.specs.Weaves.{World}
use Rattle.iox_steps.specs.Accesses.{seen_by}
use Rattle.iox_wire_words.specs.Programs.{program_access}
use Rattle.iox_wire_words.specs.Fits.{WireContents, contents_after}
use Rattle.iox_wire_words.specs.Laws.{AccessIsMade}
use Rattle.iox_wire_moments.specs.MomentsOf.{Pools}
use Rattle.iox_wire_locals.specs.declared.seat.Seat.{Seat}
use Rattle.iox_wire_locals.specs.Known.{free_slots}
use Rattle.iox_wire_locals.specs.Locals.{program_of}
use Rattle.iox_wire_locals.specs.StateMoments.{moment_at}
use Rattle.iox_wire_locals.specs.StepLaws.{ReliesOn}
use Rattle.iox_wire_locals.specs.Steps.{advance, accessed}
use Rattle.iox_wire_locals.specs.Tables.{Setting}
use Rattle.iox_wire_laws.specs.WireKeeping.Shows.{ShowsWorld}
use Rattle.iox_wire_laws.specs.WireShows.OwnedCalls.{LimitsAreKnown, TellsLane, WordsTell, state_after}
use Rattle.iox_wire_laws.specs.WireShows.StepsShow.{ShowsNext}
use Rattle.iox_wire_laws.specs.WireRegions.OwnedWords.{FreeSlotsAreThePools, Owns}
use Rattle.iox_wire_laws.specs.WireRegions.OwnedWordLaws.{TakesLane}
use Rattle.iox_wire_laws.specs.WireHolding.Holding.{held_after}
use Rattle.iox_wire_laws.specs.WireHolding.Named.{IsUnnamed}

-- Nobody names a slot that is free at the node's desks.
abbrev pub FreeSlotsAreUnnamed : Setting → WireContents → (ℕ → Seat) → State → Seat → Type 0
FreeSlotsAreUnnamed p c seats s x =
    (port slot : ℕ) → has_number slot (free_slots x port) ≡ true → IsUnnamed p c seats s port slot

-- Where words and seats show a world, and the call of a living node owns its place, the next access
-- is one beat of the machine or none. The world after it is shown with what slots hold then, and
-- the call owns its next place.
abbrev pub StepsShowWhatIsHeld : Type 0
StepsShowWhatIsHeld =
    (p : Setting) (held : Pools) (word word' : ℕ → ℕ) (c : WireContents) (seats : ℕ → Seat)
    (w : World) (n : ℕ)
    → ShowsWorld p held word c seats w → not_living w.state n ≡ None
    → let x = seats n in let program = program_of p x.local in
    let seen = seen_by (program_access p.layout program) word in
    let y = advance p (accessed x) x.local seen in
    let new = held_after p x seen held in
    let t = state_after w.state (moment_at p new x.local seen) in
    FreeSlotsAreUnnamed p c seats w.state x
    → Owns p x.node w.state.fixed w.state.request_state x.local → FreeSlotsAreThePools p x
    → TellsLane held x.local → LimitsAreKnown p x w.state.fixed → WordsTell p x.local seen
    → ReliesOn p (accessed x) w.state held x.local seen → TakesLane p x.local y.local
    → AccessIsMade (program_access p.layout program) word word'
    → ShowsNext p new word' (contents_after p.layout program seen c) (put_at seats n y) w n
    (moment_at p new x.local seen)
    × Owns p y.node t.fixed t.request_state y.local
