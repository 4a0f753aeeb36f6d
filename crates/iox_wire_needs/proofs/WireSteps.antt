-- A step keeps what stands, and the setting.
use Rattle.std.proofs.Common.{◌≡◌, ℕ, ◌<◌, true, List, length, Option, Some, None, ap, sym, ◌∙◌}
use Rattle.iox_model.specs.Commands.{Reply}
use Rattle.iox_model.specs.Joins.{not_living}
use Rattle.iox_model.specs.Maps.{put_at}
use Rattle.iox_model.specs.Moments.{Moment}
use Rattle.iox_model.specs.Schedules.{IsStepOf, nothing, makes, ends_alone, makes_and_ends}
use Rattle.iox_laws.proofs.WeaveLaws.WholeLemmas.{not_living-members, put_at-here}
use Rattle.iox_steps.specs.Accesses.{seen_by}
use Rattle.iox_steps.specs.Sites.{last_position}
use Rattle.iox_wire_keeps.specs.Begins.{is_busy}
use Rattle.iox_wire_keeps.specs.Laws.{AccessIsMade}
use Rattle.iox_wire_keeps.specs.Locals.{program_of}
use Rattle.iox_wire_keeps.specs.Programs.{program_access}
use Rattle.iox_wire_keeps.specs.Runs.{Run}
use Rattle.iox_wire_keeps.specs.Seat.{Seat}
use Rattle.iox_wire_keeps.specs.Stands.{Player, word_of}
use Rattle.iox_wire_keeps.specs.StateMoments.{moment_at}
use Rattle.iox_wire_keeps.specs.Steps.{tells}
use Rattle.iox_wire_keeps.specs.Tables.{Setting}
use Rattle.iox_wire_keeps.specs.WholeSteps.{GoesOnWith, player_next, step_beats}
use Rattle.iox_wire_keeps.specs.WireStands.{WireStands}
use Rattle.iox_wire_keeps.proofs.StepWhole.{stepped_wires_stand}
use Rattle.iox_wire_needs.specs.SettingsStay.{ForgetsNobody, SettingStays}
use Rattle.iox_wire_needs.specs.WireSteps.{StandsAfterStep, StepsKeepWireAndSetting}
use Rattle.iox_wire_needs.proofs.Forgetting.{forgets_nobody, forgot_is}
use Rattle.iox_wire_needs.proofs.SettingsStay.{steps_leave_settings}

-- at most one moment, and then the end of the call
pub is_step : (n : ℕ) (payload : List ℕ) (m : Option Moment) (reply : Option Reply) → IsStepOf n (step_beats n payload m reply)
is_step n payload None None = nothing
is_step n payload (Some m) None = makes m
is_step n payload None (Some reply) = ends_alone reply payload
is_step n payload (Some m) (Some reply) = makes_and_ends m reply payload

module _ (p : Setting) (words words' : List ℕ) (players : ℕ → Player) (r : Run) (n : ℕ) (wire : WireStands p words players r)
    (lives : not_living r.last.state n ≡ None) (busy : is_busy (players n).seat.local ≡ true) (few : (players n).seat.accesses < last_position)
    (made : AccessIsMade (program_access p.layout (program_of p (players n).seat.local)) (word_of words) (word_of words')) (len : length words' ≡ length words) where
  abbrev x : Seat
  x = (players n).seat

  abbrev seen : ℕ
  seen = seen_by (program_access p.layout (program_of p (players n).seat.local)) (word_of words)

  abbrev moment : Option Moment
  moment = moment_at p wire.stands.held x.local seen

  found : (payload : List ℕ) × (after : Run) × GoesOnWith r (step_beats n payload moment (tells p x seen)) after
      × WireStands p words' (put_at players n (player_next p (players n) seen)) after
  found = stepped_wires_stand p words words' players r n wire lives busy few made len

  setting : SettingStays n r.last found.1.last
  setting =
      steps_leave_settings r.last found.1.last n (step_beats n found.0 moment (tells p x seen)) wire.stands.shows.reachable
      (is_step n found.0 moment (tells p x seen)) found.2.woven

  lives_then : not_living found.1.last.state n ≡ None
  lives_then = not_living-members found.1.last.state r.last.state n setting.members ∙ lives

  own : ForgetsNobody (r.last.doing n) → found.1.last.state.fixed.forgot n ≡ r.last.state.fixed.forgot n
  own free =
      forgot_is p words' (put_at players n (player_next p (players n) seen)) found.1 n found.3 lives_then
      ∙ ap (λ (z : Player). z.seat.forgot) (put_at-here players n (player_next p (players n) seen))
      ∙ forgets_nobody p words players r n wire lives seen free ∙ sym (forgot_is p words players r n wire lives)

  pub kept : StandsAfterStep p wire.stands.held words' players r n seen
  kept = record { payload = found.0; after = found.1; goes_on = found.2; stands = found.3; setting = setting; own = own }

pub step_keeps : StepsKeepWireAndSetting
step_keeps p words words' players r n wire lives busy few made len = kept p words words' players r n wire lives busy few made len
