-- That a step keeps what stands on a wire, and its setting.
use Rattle.std.specs.Prelude.{◌≡◌, ℕ, ◌<◌, true, List, length, None}
use Rattle.iox_model.specs.Joins.{not_living}
use Rattle.iox_model.specs.Maps.{put_at}
use Rattle.iox_steps.specs.Accesses.{seen_by}
use Rattle.iox_steps.specs.Sites.{last_position}
use Rattle.iox_wire_keeps.specs.Begins.{is_busy}
use Rattle.iox_wire_keeps.specs.Laws.{AccessIsMade}
use Rattle.iox_wire_keeps.specs.Locals.{program_of}
use Rattle.iox_wire_keeps.specs.MomentsOf.{Pools}
use Rattle.iox_wire_keeps.specs.Programs.{program_access}
use Rattle.iox_wire_keeps.specs.Runs.{Run}
use Rattle.iox_wire_keeps.specs.Stands.{Player, word_of}
use Rattle.iox_wire_keeps.specs.StateMoments.{moment_at}
use Rattle.iox_wire_keeps.specs.Steps.{tells}
use Rattle.iox_wire_keeps.specs.Tables.{Setting}
use Rattle.iox_wire_keeps.specs.WholeSteps.{GoesOnWith, player_next, step_beats}
use Rattle.iox_wire_keeps.specs.WireStands.{WireStands}
use Rattle.iox_wire_needs.specs.SettingsStay.{ForgetsNobody, SettingStays}

-- Where a step of the node leads whose access found this: the run continues, the wire stands there, and
-- the setting stays. Slots and nodes are told as they were before it, and words as they are after it.
pub record StandsAfterStep (p : Setting) (held : Pools) (words : List ℕ) (players : ℕ → Player)
    (r : Run) (n seen : ℕ) : Type 0 where
  -- the run continues by at most one moment of the machine, and then the end of the node's call with the
  -- machine's reply, if that was its last access; a new loan has this payload
  pub payload : List ℕ
  pub after : Run
  pub goes_on : GoesOnWith r
      (step_beats n payload (moment_at p held (players n).seat.local seen) (tells p (players n).seat seen))
      after
  -- where it leads, the wire stands
  pub stands : WireStands p words (put_at players n (player_next p (players n) seen)) after
  -- who joined and who lives, the ports, the limits, and whom the other nodes forgot are as before
  pub setting : SettingStays n r.last after.last
  -- and so is whom the node itself forgot, unless its call is a Forget
  pub own : ForgetsNobody (r.last.doing n)
      → after.last.state.fixed.forgot n ≡ r.last.state.fixed.forgot n

-- A step of a living node with a call, which made fewer accesses than a queue has positions, leads
-- from what stands to what stands, in the same setting. Nothing else need be told.
abbrev pub StepsKeepWireAndSetting : Type 0
StepsKeepWireAndSetting =
    (p : Setting) (words words' : List ℕ) (players : ℕ → Player) (r : Run) (n : ℕ)
    (wire : WireStands p words players r)
    → not_living r.last.state n ≡ None
    → let x = (players n).seat in let access = program_access p.layout (program_of p x.local) in
    let seen = seen_by access (word_of words) in
    is_busy x.local ≡ true → x.accesses < last_position
    → AccessIsMade access (word_of words) (word_of words') → length words' ≡ length words
    → StandsAfterStep p wire.stands.held words' players r n seen
