-- Steps that access only a request state need not be told anything.
use Rattle.std.specs.Prelude.{◌≡◌, ℕ, List, length, None}
use Rattle.iox_model.specs.Joins.{not_living}
use Rattle.iox_model.specs.Maps.{put_at}
use Rattle.iox_steps.specs.Accesses.{seen_by}
use Rattle.iox_wire_words.specs.Laws.{AccessIsMade}
use Rattle.iox_wire_words.specs.Programs.{program_access}
use Rattle.iox_wire_locals.specs.declared.local.Local.{Local}
use Rattle.iox_wire_locals.specs.declared.local.Local.TheVariants.{Checks, HintExchanges, Hints, ReleaseCloses, ReleaseExchanges, ReleaseLooks}
use Rattle.iox_wire_locals.specs.Locals.{program_of}
use Rattle.iox_wire_locals.specs.StateMoments.{moment_at}
use Rattle.iox_wire_locals.specs.Steps.{tells}
use Rattle.iox_wire_locals.specs.Tables.{Setting}
use Rattle.iox_wire_stands.specs.Runs.{Run}
use Rattle.iox_wire_stands.specs.Stands.{Player, Stands, word_of}
use Rattle.iox_wire_steps.specs.WholeSteps.{GoesOnWith, player_next, step_beats}

-- a release closes or looks at a request state, or a call checks one or gives a hint there
abbrev pub IsAtState : Local → Type 0
IsAtState (ReleaseCloses e w left) = Unit {0}
IsAtState (ReleaseLooks e) = Unit {0}
IsAtState (ReleaseExchanges e old) = Unit {0}
IsAtState (Checks e hinted w left) = Unit {0}
IsAtState (Hints e w left) = Unit {0}
IsAtState (HintExchanges e w left) = Unit {0}
IsAtState local = ⊥

-- The step of a living node at such a place leads from what stands to what stands, whatever it finds.
abbrev pub StateStepsKeep : Type 0
StateStepsKeep =
    (p : Setting) (words words' : List ℕ) (players : ℕ → Player) (r : Run) (n : ℕ)
    (payload : List ℕ) (stands : Stands p words players r)
    → not_living r.last.state n ≡ None
    → let x = (players n).seat in let access = program_access p.layout (program_of p x.local) in
    let seen = seen_by access (word_of words) in
    IsAtState x.local
    → AccessIsMade access (word_of words) (word_of words') → length words' ≡ length words
    → (after : Run)
    × GoesOnWith r
    (step_beats n payload (moment_at p stands.held x.local seen) (tells p x seen)) after
    × Stands p words' (put_at players n (player_next p (players n) seen)) after
