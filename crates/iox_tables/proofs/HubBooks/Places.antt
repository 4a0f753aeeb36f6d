-- How often a number stands in a list, and whether it does.
use Rattle.std.specs.Prelude.{◌≡◌, ℕ, ◌+◌, ◌≤◌, zero, suc, Bool, true, false, ◌||◌, if◌then◌else◌, ◌==◌, List, [], ◌∷◌, map, Some, is_some, slice_get, refl}
use Rattle.std.specs.List.{position_from}
use Rattle.std.specs.Option.{option_map_or}
use Rattle.std.proofs.Common.{sym, ap, subst, arith, true≢false, eqb-true}
use Rattle.std.proofs.lemmas.Option.{none-some}
use Rattle.iox_model.specs.Maps.{has_number, AreDistinct}
use Rattle.iox_laws.proofs.WeaveLaws.MapLemmas.{eqb-refl}
use Rattle.iox_lanes.specs.Lanes.{rank_in}
use Rattle.iox_tables.specs.HubStates.Tables.{first_by}
use Rattle.iox_tables.specs.HubBooks.Counts.{how_often, total}

-- ---- one of a list counts no more than all

pub get_below : {A : Type 0} (f : A → ℕ) (xs : List A) (i : ℕ) (x : A) → slice_get xs i ≡ Some x → f x ≤ total f xs
get_below f [] i x at = absurd (none-some x at)
get_below f (z ∷ zs) zero x at = let same : f z ≡ f x = ap (λ o. option_map_or f o 0) at in omega (arith, same)
get_below f (z ∷ zs) (suc i) x at = let more = get_below f zs i x at in omega (arith, more)

pub first_below : {A : Type 0} (f : A → ℕ) (key : A → ℕ) (xs : List A) (n : ℕ) (x : A) → first_by key xs n ≡ Some x → f x ≤ total f xs
first_below f key [] n x at = absurd (none-some x at)
first_below f key (z ∷ zs) n x at = step (key z == n) at (first_below f key zs n x)
  where
    step : (b : Bool) → (if b then Some z else first_by key zs n) ≡ Some x → (first_by key zs n ≡ Some x → f x ≤ total f zs) → f x ≤ f z + total f zs
    step true is rest = let same : f z ≡ f x = ap (λ o. option_map_or f o 0) is in omega (arith, same)
    step false is rest = let more = rest is in omega (arith, more)

-- ---- numbers

pub often_has : (k : ℕ) (ks : List ℕ) → has_number k ks ≡ true → 1 ≤ how_often k ks
often_has k [] has = absurd (true≢false (sym has))
often_has k (n ∷ ns) has = step (n == k) has (often_has k ns)
  where
    step : (b : Bool) → (b || has_number k ns) ≡ true → (has_number k ns ≡ true → 1 ≤ how_often k ns) → 1 ≤ (if b then 1 else 0) + how_often k ns
    step true h rest = omega arith
    step false h rest = let more = rest h in omega (arith, more)

pub has_often : (k : ℕ) (ks : List ℕ) → 1 ≤ how_often k ks → has_number k ks ≡ true
has_often k [] some = absurd (omega (arith, some))
has_often k (n ∷ ns) some = step (n == k) some (has_often k ns)
  where
    step : (b : Bool) → 1 ≤ (if b then 1 else 0) + how_often k ns → (1 ≤ how_often k ns → has_number k ns ≡ true) → (b || has_number k ns) ≡ true
    step true h rest = refl
    step false h rest = rest (omega (arith, h))

-- a number that stands there has a rank
pub ranked : (k : ℕ) (ks : List ℕ) → has_number k ks ≡ true → is_some (rank_in ks k) ≡ true
ranked k ks has = from 0 ks has
  where
    from : (i : ℕ) (ks : List ℕ) → has_number k ks ≡ true → is_some (position_from (λ n. n == k) i ks) ≡ true
    from i [] has = absurd (true≢false (sym has))
    from i (n ∷ ns) has = step (n == k) has (from (i + 1) ns)
      where
        step : (b : Bool) → (b || has_number k ns) ≡ true → (has_number k ns ≡ true → is_some (position_from (λ n. n == k) (i + 1) ns) ≡ true)
            → is_some (if b then Some i else position_from (λ n. n == k) (i + 1) ns) ≡ true
        step true h rest = refl
        step false h rest = rest h

-- ---- serials of places

has_mapped : (s : ℕ → ℕ) (m : ℕ) (ks : List ℕ) → has_number m (map s ks) ≡ true → (j : ℕ) × (has_number j ks ≡ true) × (s j ≡ m)
has_mapped s m [] has = absurd (true≢false (sym has))
has_mapped s m (k ∷ ks) has = step (s k == m) refl has (has_mapped s m ks)
  where
    step : (b : Bool) → (s k == m) ≡ b → (b || has_number m (map s ks)) ≡ true → (has_number m (map s ks) ≡ true → (j : ℕ) × (has_number j ks ≡ true) × (s j ≡ m))
        → (j : ℕ) × (has_number j (k ∷ ks) ≡ true) × (s j ≡ m)
    step true e h rest = (k, ap (λ b. b || has_number k ks) (eqb-refl k), eqb-true (s k) m e)
    step false e h rest = let r = rest h in (r.0, behind (k == r.0) r.1, r.2)
      where
        behind : (b : Bool) {c : Bool} → c ≡ true → (b || c) ≡ true
        behind true e = refl
        behind false e = e

-- where each place stands once, and different places have different serials, so do the serials
pub serials_apart : (s : ℕ → ℕ) (ks : List ℕ) → ((k : ℕ) → how_often k ks ≤ 1)
    → ((j k : ℕ) → has_number j ks ≡ true → has_number k ks ≡ true → s j ≡ s k → j ≡ k) → AreDistinct (map s ks)
serials_apart s [] once one = tt
serials_apart s (k ∷ ks) once one =
    (first (has_number (s k) (map s ks)) refl, serials_apart s ks (λ j. fewer j (once j)) (λ i j a b. one i j (behind i a) (behind j b)))
  where
    behind : (i : ℕ) → has_number i ks ≡ true → has_number i (k ∷ ks) ≡ true
    behind i a = step (k == i)
      where
        step : (b : Bool) → (b || has_number i ks) ≡ true
        step true = refl
        step false = a

    fewer : (j : ℕ) → how_often j (k ∷ ks) ≤ 1 → how_often j ks ≤ 1
    fewer j h = omega (arith, h)

    here : has_number k (k ∷ ks) ≡ true
    here = ap (λ b. b || has_number k ks) (eqb-refl k)

    counts_one : (b : Bool) → b ≡ true → 1 ≤ (if b then 1 else 0)
    counts_one true e = omega arith
    counts_one false e = absurd (true≢false (sym e))

    twice : has_number k ks ≡ true → ⊥
    twice has =
        let more = often_has k ks has in
        let all = once k in
        let one = counts_one (k == k) (eqb-refl k) in omega (arith, more, all, one)

    first : (b : Bool) → has_number (s k) (map s ks) ≡ b → b ≡ false
    first false e = refl
    first true e =
        let r = has_mapped s (s k) ks e in
        absurd (twice (subst (λ j. has_number j ks ≡ true) (one r.0 k (behind r.0 r.1) here r.2) r.1))
