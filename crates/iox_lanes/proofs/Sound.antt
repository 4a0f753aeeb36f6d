-- What is so of a lane that is looked at is so of the lane of that number.
use Rattle.std.specs.Prelude.{◌≡◌, ℕ, zero, suc, ◌≤◌, List, [], ◌∷◌, length, Some, slice_get}
use Rattle.std.specs.Option.{option_map_or}
use Rattle.std.proofs.Common.{ap, subst, ◌∙◌, arith, get_or}
use Rattle.std.proofs.lemmas.Option.{none-some}
use Rattle.iox_lanes.specs.Lanes.{IsSound, LaneState}
use Rattle.iox_lanes.specs.Pipes.{IsSoundAt, PipeState}

-- what stands in a place is what is looked at there
looked_at : {A : Type 0} (xs : List A) (i : ℕ) (x y : A) → slice_get xs i ≡ Some y → x ≡ get_or xs i x → x ≡ y
looked_at [] i x y is e = absurd (none-some y is)
looked_at (z ∷ zs) zero x y is e = e ∙ ap (λ o. option_map_or (λ w. w) o z) is
looked_at (z ∷ zs) (suc i) x y is e = looked_at zs i x y is e

none_past : {A : Type 0} (xs : List A) (i : ℕ) (y : A) → length xs ≤ i → slice_get xs i ≡ Some y → ⊥
none_past [] i y h is = none-some y is
none_past (z ∷ zs) zero y h is = omega (arith, h)
none_past (z ∷ zs) (suc i) y h is = none_past zs i y (omega (arith, h)) is

pub lane_at : (lanes : List LaneState) (i : ℕ) (x : LaneState) → x ≡ get_or lanes i x → IsSound x → IsSoundAt lanes i
lane_at lanes i x e sound l is = subst (λ y. IsSound y) (looked_at lanes i x l is e) sound

pub lane_past : (lanes : List LaneState) (i : ℕ) → length lanes ≤ i → IsSoundAt lanes i
lane_past lanes i h l is = absurd (none_past lanes i l h is)

pub pipe_at : (pipes : List PipeState) (i lane : ℕ) (x : PipeState) → x ≡ get_or pipes i x → IsSoundAt x.lanes lane
    → (p : PipeState) → slice_get pipes i ≡ Some p → IsSoundAt p.lanes lane
pipe_at pipes i lane x e sound p is = subst (λ (y : PipeState). IsSoundAt y.lanes lane) (looked_at pipes i x p is e) sound

pub pipe_past : (pipes : List PipeState) (i lane : ℕ) → length pipes ≤ i
    → (p : PipeState) → slice_get pipes i ≡ Some p → IsSoundAt p.lanes lane
pipe_past pipes i lane h p is = absurd (none_past pipes i p h is)

pub ruleset sound = (lane_at, lane_past, pipe_at, pipe_past)
