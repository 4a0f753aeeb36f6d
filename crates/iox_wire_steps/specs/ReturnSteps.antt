-- Steps by which a node gives back what it received.
use Rattle.std.specs.Prelude.{◌≡◌, ◌<◌, ℕ, false, List, length, None}
use Rattle.iox_model.specs.declared.way.Way.{Way}
use Rattle.iox_model.specs.Joins.{not_living}
use Rattle.iox_model.specs.Maps.{put_at}
use Rattle.iox_model.specs.Peers.{forgot_port}
use Rattle.iox_steps.specs.Accesses.{seen_by}
use Rattle.iox_steps.specs.declared.push.Push.{Push}
use Rattle.iox_steps.specs.Fits.{write_of}
use Rattle.iox_steps.specs.Sites.{last_position}
use Rattle.iox_word_map.specs.WordMaps.{ReturningQueue}
use Rattle.iox_wire_words.specs.Laws.{AccessIsMade}
use Rattle.iox_wire_words.specs.Programs.{program_access, site_of}
use Rattle.iox_wire_locals.specs.Locals.{program_of}
use Rattle.iox_wire_locals.specs.StateMoments.{moment_at}
use Rattle.iox_wire_locals.specs.Steps.{tells}
use Rattle.iox_wire_locals.specs.Tables.{Setting}
use Rattle.iox_wire_laws.specs.WireKeeping.Returns.{GivesBackOn}
use Rattle.iox_wire_stands.specs.Runs.{Run}
use Rattle.iox_wire_stands.specs.Stands.{Player, Stands, word_of}
use Rattle.iox_wire_steps.specs.WholeSteps.{GoesOnWith, player_next, step_beats}

-- The step of a living node that gives back what it received leads from what stands to what stands,
-- where it did not forget the sender and the queue's write position is below the last: in a release
-- as in a receive.
abbrev pub ReturnStepsKeep : Type 0
ReturnStepsKeep =
    (p : Setting) (words words' : List ℕ) (players : ℕ → Player) (r : Run) (n : ℕ)
    (payload : List ℕ) (stands : Stands p words players r) (y : Way) (place : Push)
    → not_living r.last.state n ≡ None
    → let x = (players n).seat in let access = program_access p.layout (program_of p x.local) in
    let seen = seen_by access (word_of words) in
    GivesBackOn x.local y place → forgot_port r.last.state.fixed n y.sender ≡ false
    → write_of (site_of p.layout (ReturningQueue y)) (word_of words) < last_position
    → AccessIsMade access (word_of words) (word_of words') → length words' ≡ length words
    → (after : Run)
    × GoesOnWith r
    (step_beats n payload (moment_at p stands.held x.local seen) (tells p x seen)) after
    × Stands p words' (put_at players n (player_next p (players n) seen)) after
