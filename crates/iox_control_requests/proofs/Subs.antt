-- Some of a loan's first ways, and the next one, are ways of that loan too.
use Rattle.std.specs.Prelude.{◌≡◌, suc, ◌≤◌, Bool, true, false, ◌||◌, if◌then◌else◌, List, [], ◌∷◌, ◌++◌, filter, length, Some, refl}
use Rattle.std.proofs.Common.{sym, ap, ◌∙◌, arith, true≢false}
use Rattle.iox_model.specs.declared.way.Way.{Way}
use Rattle.iox_model.specs.Maps.{AreDistinctWays, has_way, same_way}
use Rattle.iox_laws.proofs.WeaveLaws.MapLemmas.{same_way-flip}
use Rattle.iox_tables.specs.HubStates.Changes.{OnEach}
use Rattle.iox_tables.specs.HubStates.Tables.{HandleState, HubTables}
use Rattle.iox_tables.specs.HubStates.Ways.{OnWays}
use Rattle.iox_tables.specs.HubBooks.Keeps.{AreTargetsOf}
use Rattle.std.proofs.lemmas.Bool.{or_left, or_right}

-- what is not among more is not among some
not_if : (a b : Bool) → (a ≡ true → b ≡ true) → b ≡ false → a ≡ false
not_if false b up e = refl
not_if true b up e = absurd (true≢false (sym (up refl) ∙ e))

module _ (p : Way → Bool) (w : Way) (ys : List Way) where
  pub some_has : (v : Way) (xs : List Way) → has_way v (filter p xs ++ w ∷ []) ≡ true → has_way v (xs ++ w ∷ ys) ≡ true
  some_has v [] e = first (same_way v w) e
    where
      first : (a : Bool) → (a || false) ≡ true → (a || has_way v ys) ≡ true
      first true e = refl
      first false e = absurd (true≢false (sym e))
  some_has v (x ∷ xs) e = step (p x) (same_way v x) (some_has v xs) e
    where
      step : (b a : Bool) → (has_way v (filter p xs ++ w ∷ []) ≡ true → has_way v (xs ++ w ∷ ys) ≡ true)
          → has_way v ((if b then x ∷ filter p xs else filter p xs) ++ w ∷ []) ≡ true
          → (same_way v x || has_way v (xs ++ w ∷ ys)) ≡ true
      step true a more e = either (same_way v x) e
        where
          either : (c : Bool) → (c || has_way v (filter p xs ++ w ∷ [])) ≡ true → (c || has_way v (xs ++ w ∷ ys)) ≡ true
          either true e = refl
          either false e = more e
      step false a more e = or_right (same_way v x) (has_way v (xs ++ w ∷ ys)) (more e)

  some_apart : (xs : List Way) → AreDistinctWays (xs ++ w ∷ ys) → AreDistinctWays (filter p xs ++ w ∷ [])
  some_apart [] apart = (refl, tt)
  some_apart (x ∷ xs) apart = step (p x) (some_apart xs apart.1)
    where
      step : (b : Bool) → AreDistinctWays (filter p xs ++ w ∷ []) → AreDistinctWays ((if b then x ∷ filter p xs else filter p xs) ++ w ∷ [])
      step true rest = (not_if (has_way x (filter p xs ++ w ∷ [])) (has_way x (xs ++ w ∷ ys)) (some_has x xs) apart.0, rest)
      step false rest = rest

  pub some_are_targets : (t : HubTables) (h : HandleState) (xs : List Way) → AreTargetsOf t h (xs ++ w ∷ ys) → AreTargetsOf t h (filter p xs ++ w ∷ [])
  some_are_targets t h xs a = record {
    apart = some_apart xs a.apart;
    sender = λ v has. a.sender v (some_has v xs has);
    lane = λ v has to. a.lane v (some_has v xs has) to;
  }

  -- the next way is not among the first
  pub next_is_new : (xs : List Way) → AreDistinctWays (xs ++ w ∷ ys) → has_way w (filter p xs) ≡ false
  next_is_new [] apart = refl
  next_is_new (x ∷ xs) apart = step (p x) (next_is_new xs apart.1)
    where
      other : same_way x w ≡ false
      other = not_if (same_way x w) (has_way x (xs ++ w ∷ ys)) (here xs) apart.0
        where
          here : (zs : List Way) → same_way x w ≡ true → has_way x (zs ++ w ∷ ys) ≡ true
          here [] e = or_left (same_way x w) (has_way x ys) e
          here (z ∷ zs) e = or_right (same_way x z) (has_way x (zs ++ w ∷ ys)) (here zs e)

      step : (b : Bool) → has_way w (filter p xs) ≡ false → has_way w (if b then x ∷ filter p xs else filter p xs) ≡ false
      step true rest = ap (λ b. b || has_way w (filter p xs)) (same_way-flip w x (same_way w x) other refl) ∙ rest
      step false rest = rest

-- what is so of each is so of one
pub each_at : {A : Type 0} (P : Way → A → Type 0) (on : OnWays A) (xs ys : List Way) (w : Way) → OnEach P on (xs ++ w ∷ ys)
    → (x : A) × (on w ≡ Some x) × P w x
each_at P on [] ys w each = each.0
each_at P on (x ∷ xs) ys w each = each_at P on xs ys w each.1

pub fewer_pass : (p : Way → Bool) (ws : List Way) → length (filter p ws) ≤ length ws
fewer_pass p [] = omega arith
fewer_pass p (w ∷ ws) = step (p w) (fewer_pass p ws)
  where
    step : (b : Bool) → length (filter p ws) ≤ length ws → length (if b then w ∷ filter p ws else filter p ws) ≤ suc (length ws)
    step true rest = omega (arith, rest)
    step false rest = omega (arith, rest)
