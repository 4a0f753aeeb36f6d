-- The plan of a wire's ports is theirs after any beat.
use Rattle.std.proofs.Common.{◌≡◌, List, ap, sym, subst, ◌∙◌}
use Rattle.iox_model.specs.Doings.{Outcome, DropsPort}
use Rattle.iox_model.specs.Settings.{Limits}
use Rattle.iox_model.specs.States.{Fixed, Port}
use Rattle.iox_model.specs.Weaves.{World, Beat, Begins, Makes, Ends, Dies, IsBeat}
use Rattle.iox_laws.proofs.WeaveBeats.LiveWays.{Here, here}
use Rattle.iox_laws.proofs.WeaveLaws.WholeLemmas.{moved-fixed}
use Rattle.iox_laws.proofs.WeaveLedger.Moves.{ends-fits}
use Rattle.iox_laws.proofs.WeaveLedger.Once.{beat-ports}
use Rattle.iox_laws.proofs.WeaveLedger.Senders.{FitsOutcome}
use Rattle.iox_laws.proofs.WeaveLedger.Views.{view}
use Rattle.iox_laws.proofs.WeaveLedger.Worlds.{SoundWorld, doing-is}
use Rattle.iox_wire_laws.proofs.WireKeeping.Frames.{KeepsPorts, settled_frame}
use Rattle.iox_wire_layouts.specs.PlansOf.{IsPlanFor}
use Rattle.iox_wire_layouts.specs.LayoutLaws.{PlansStay}

-- the limits stay
beat_limits : (w u : World) (b : Beat) → IsBeat w b u → SoundWorld w → u.state.fixed.limits ≡ w.state.fixed.limits
beat_limits w u (Begins node call c) beat fits = ap (λ (v : World). v.state.fixed.limits) beat.2
beat_limits w u (Makes node m) beat fits =
    ap (λ (v : World). v.state.fixed.limits) beat.5 ∙ ap (λ (f : Fixed). f.limits) (moved-fixed w.state m)
beat_limits w u (Ends node reply payload) beat fits =
    ap (λ (v : World). v.state.fixed.limits) beat.7
    ∙ (settled_frame w.state node payload beat.3 fits.wire (kept beat.3 outcome)).2
  where
    outcome : FitsOutcome (view w.state.fixed node) node beat.3
    outcome = ends-fits w.state node beat.1 beat.3 (doing-is w node beat.1 fits beat.2) beat.4

    kept : (o : Outcome) → FitsOutcome (view w.state.fixed node) node o → KeepsPorts o
    kept (DropsPort port) fits = fits
    kept o fits = tt
beat_limits w u (Dies node) beat fits = ap (λ (v : World). v.state.fixed.limits) beat.1

pub plans_stay : PlansStay
plans_stay plan w u b reach beat is =
    let h : Here w = here w reach in
    subst (λ (limits : Limits). IsPlanFor plan limits u.state.fixed.ports) (sym (beat_limits w u b beat h.holding.fits))
    (subst (λ (ports : List Port). IsPlanFor plan w.state.fixed.limits ports) (sym (beat-ports w u b beat h.holding.fits)) is)
