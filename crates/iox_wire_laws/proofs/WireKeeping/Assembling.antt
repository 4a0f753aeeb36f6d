-- A moment that is true and may come next is a beat, and the node is where the machine is.
use Rattle.std.proofs.Common.{◌≡◌, ℕ, Option, Some, None, refl, ap, sym, subst, ◌∙◌}
use Rattle.iox_model.specs.Doings.{Doing}
use Rattle.iox_model.specs.Joins.{not_living}
use Rattle.iox_model.specs.Maps.{or_else}
use Rattle.iox_model.specs.Moments.{Moment, moved}
use Rattle.iox_model.specs.States.{Fixed, State}
use Rattle.iox_model.specs.Transitions as transitions
use Rattle.iox_model.specs.Weaves.{World, made}
use Rattle.iox_laws.proofs.WeaveLaws.WholeLemmas.{moved-fixed, put_at-here}
use Rattle.iox_wire_words.specs.Fits.{WireContents}
use Rattle.iox_wire_moments.specs.MomentsOf.{Pools}
use Rattle.iox_wire_moments.specs.Laws.{ShowsMoment}
use Rattle.iox_wire_locals.specs.declared.seat.Seat.{Seat}
use Rattle.iox_wire_locals.specs.Tables.{Setting}
use Rattle.iox_wire_locals.specs.Doings.{doing_of}
use Rattle.iox_wire_locals.specs.StepLaws.{StandsAfter}
use Rattle.iox_wire_laws.specs.WireKeeping.Shows.{StatesFit}
use Rattle.iox_wire_laws.specs.WireKeeping.StepBeats.{ShowsStep}

-- the moment, if there is one, may come next
abbrev pub MayMake : State → ℕ → Doing → Option Moment → Type 0
MayMake s node d None = Unit {0}
MayMake s node d (Some m) = (transitions.next s node d m).condition

-- the contents tell the request states after the moment
abbrev pub StatesAfter : Setting → WireContents → State → Option Moment → Type 0
StatesAfter p c s None = StatesFit p c s
StatesAfter p c s (Some m) = StatesFit p c (moved s m)

abbrev pub May : Setting → WireContents → State → ℕ → Doing → Option Moment → Type 0
May p c s node d m = MayMake s node d m × StatesAfter p c s m

module _ (p : Setting) (held : Pools) (c : WireContents) (w : World) (x y : Seat) (d : Doing)
    (living : not_living w.state x.node ≡ None) (doing : w.doing x.node ≡ Some d) (same : y.node ≡ x.node) where
  pub assembled : (m : Option Moment) → StandsAfter p w.state held x.node d m y → ShowsMoment p.layout held c w.state m
      → May p c w.state x.node d m → ShowsStep p held c w x y m
  assembled None goes ties may =
      (subst (λ n. w.doing n ≡ doing_of p w.state.fixed held n y.local) (sym same) (doing ∙ sym goes), ties, may.1)
  assembled (Some m) goes shown may = (
    made w x.node d m,
    (living, d, doing, shown.0, may.0, refl),
    (
      subst (λ n. (made w x.node d m).doing n ≡ doing_of p (moved w.state m).fixed held n y.local) (sym same)
          (put_at-here w.doing x.node _ ∙ sym goes ∙ ap (λ (f : Fixed). doing_of p f held x.node y.local) (sym (moved-fixed w.state m))),
      shown.1,
      may.1,
    ),
  )

  -- the moment of a queue
  pub of_queue : (m : Option Moment) → StandsAfter p w.state held x.node d (or_else m None) y → ShowsMoment p.layout held c w.state m
      → May p c w.state x.node d m → ShowsStep p held c w x y (or_else m None)
  of_queue None goes ties may = assembled None goes ties may
  of_queue (Some m) goes shown may = assembled (Some m) goes shown may
