-- A step leaves the members, the ports, the limits, and whom other nodes forgot.
use Rattle.std.proofs.Common.{◌≡◌, ℕ, suc, ◌==◌, ◌≤◌, false, List, refl, ap, subst, sym, ◌∙◌, eqb-true, inl, inr}
use Rattle.std.proofs.Math.Nat.{le_refl, not-suc-le_self}
use Rattle.std.proofs.lemmas.Bool.{cases_Bool}
use Rattle.iox_model.specs.Moments.{Moment}
use Rattle.iox_model.specs.Commands.{Reply}
use Rattle.iox_model.specs.Schedules.{nothing, makes, ends_alone, makes_and_ends}
use Rattle.iox_model.specs.Weaves.{Ends, IsBeat, Makes, World}
use Rattle.iox_laws.specs.WeaveWorlds.Worlds.{IsReachable}
use Rattle.iox_laws.proofs.WeaveBeats.LiveWays.{beats_are_reachable}
use Rattle.iox_laws.proofs.WeaveLaws.DeathLaws.{settled-members}
use Rattle.iox_laws.proofs.WeaveLaws.WholeLemmas.{moved-members}
use Rattle.iox_laws.proofs.WeaveLedger.Views.{View}
use Rattle.iox_wire_keeps.proofs.OthersSame.{view_same}
use Rattle.iox_wire_needs.specs.SettingsStay.{SettingStays, StepsLeaveSettings}

-- another number
after_it : (n : ℕ) → (suc n == n) ≡ false
after_it n = elim (cases_Bool (suc n == n)) [
  | inl same ↦ absurd (not-suc-le_self n (subst (λ k. k ≤ n) (sym (eqb-true (suc n) n same)) (le_refl n)))
  | inr other ↦ other
]

same : (n : ℕ) (w : World) → SettingStays n w w
same n w = record { members = refl; ports = refl; limits = refl; forgot = λ m other. refl }

then : (n : ℕ) (w v u : World) → SettingStays n w v → SettingStays n v u → SettingStays n w u
then n w v u first second = record {
  members = second.members ∙ first.members;
  ports = second.ports ∙ first.ports;
  limits = second.limits ∙ first.limits;
  forgot = λ m other. second.forgot m other ∙ first.forgot m other;
}

made_same : (n : ℕ) (m : Moment) (w u : World) → IsReachable w → IsBeat w (Makes n m) u → SettingStays n w u
made_same n m w u reach beat = record {
  members = ap (λ (v : World). v.state.members) beat.5 ∙ moved-members w.state m;
  ports = ap (λ (v : View). v.ports) (view_same w u (Makes n m) (suc n) reach beat (after_it n));
  limits = ap (λ (v : View). v.limits) (view_same w u (Makes n m) (suc n) reach beat (after_it n));
  forgot = λ k other. ap (λ (v : View). v.forgot) (view_same w u (Makes n m) k reach beat other);
}

ended_same : (n : ℕ) (reply : Reply) (payload : List ℕ) (w u : World) → IsReachable w → IsBeat w (Ends n reply payload) u → SettingStays n w u
ended_same n reply payload w u reach beat = record {
  members = ap (λ (v : World). v.state.members) beat.7 ∙ settled-members w.state n payload beat.3;
  ports = ap (λ (v : View). v.ports) (view_same w u (Ends n reply payload) (suc n) reach beat (after_it n));
  limits = ap (λ (v : View). v.limits) (view_same w u (Ends n reply payload) (suc n) reach beat (after_it n));
  forgot = λ k other. ap (λ (v : View). v.forgot) (view_same w u (Ends n reply payload) k reach beat other);
}

pub steps_leave_settings : StepsLeaveSettings
steps_leave_settings w u n bs reach (nothing) woven = subst (SettingStays n w) (sym woven) (same n w)
steps_leave_settings w u n bs reach (makes m) woven =
    subst (SettingStays n w) (sym woven.2) (made_same n m w woven.0 reach woven.1)
steps_leave_settings w u n bs reach (ends_alone r p) woven =
    subst (SettingStays n w) (sym woven.2) (ended_same n r p w woven.0 reach woven.1)
steps_leave_settings w u n bs reach (makes_and_ends m r p) woven =
    subst (SettingStays n w) (sym woven.2.2)
    (then n w woven.0 woven.2.0 (made_same n m w woven.0 reach woven.1)
    (ended_same n r p woven.0 woven.2.0 (beats_are_reachable w woven.0 (Makes n m) reach woven.1) woven.2.1))
