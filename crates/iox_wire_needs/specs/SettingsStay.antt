-- What no step of a wire changes.
use Rattle.std.specs.Prelude.{◌≡◌, ℕ, ◌==◌, false, List, Option, Some}
use Rattle.iox_model.specs.Doings.{Doing, Ended, Forgets}
use Rattle.iox_model.specs.Schedules.{IsStepOf}
use Rattle.iox_model.specs.Weaves.{Beat, IsWeave, World}
use Rattle.iox_laws.specs.WeaveWorlds.Worlds.{IsReachable}

-- Who joined and who lives, the ports, the limits, and whom each other node forgot are the same.
pub record SettingStays (n : ℕ) (w u : World) : Type 0 where
  pub members : u.state.members ≡ w.state.members
  pub ports : u.state.fixed.ports ≡ w.state.fixed.ports
  pub limits : u.state.fixed.limits ≡ w.state.fixed.limits
  pub forgot : (m : ℕ) → (m == n) ≡ false → u.state.fixed.forgot m ≡ w.state.fixed.forgot m

-- After the beats of a node's step the setting is as it was: they are at most one moment, and then the
-- end of its call.
abbrev pub StepsLeaveSettings : Type 0
StepsLeaveSettings =
    (w u : World) (n : ℕ) (bs : List Beat) → IsReachable w → IsStepOf n bs → IsWeave w bs u
    → SettingStays n w u

-- no Forget is under way where a call has this still to do, or where there is none
abbrev pub ForgetsNobody : Option Doing → Type 0
ForgetsNobody (Some (Ended (Forgets dead))) = ⊥
ForgetsNobody doing = Unit {0}
