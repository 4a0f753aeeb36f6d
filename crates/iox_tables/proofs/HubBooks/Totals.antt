-- How sums over lists change as one in the list does.
use Rattle.std.specs.Prelude.{◌≡◌, ℕ, ◌+◌, ◌≤◌, zero, suc, Bool, true, false, if◌then◌else◌, ◌==◌, List, [], ◌∷◌, ◌++◌, Some, None, slice_get, slice_set, refl}
use Rattle.std.specs.Option.{option_map_or}
use Rattle.std.proofs.Common.{sym, ap, ap₂, arith}
use Rattle.std.proofs.lemmas.Option.{none-some}
use Rattle.iox_tables.specs.HubStates.Tables.{first_by, with_first_by}
use Rattle.iox_tables.specs.HubBooks.Counts.{OfAll, total}

pub total-append : {A : Type 0} (f : A → ℕ) (xs ys : List A) → total f (xs ++ ys) ≡ total f xs + total f ys
total-append f [] ys = omega arith
total-append f (x ∷ xs) ys = let more = total-append f xs ys in omega (arith, more)

pub total-last : {A : Type 0} (f : A → ℕ) (xs : List A) (y : A) → total f (xs ++ y ∷ []) ≡ total f xs + f y
total-last f xs y = let all = total-append f xs (y ∷ []) in omega (arith, all)

pub total_same : {A : Type 0} (f g : A → ℕ) → ((x : A) → f x ≡ g x) → (xs : List A) → total f xs ≡ total g xs
total_same f g same [] = refl
total_same f g same (x ∷ xs) = ap₂ (λ (a b : ℕ). a + b) (same x) (total_same f g same xs)

pub total_below : {A : Type 0} (f g : A → ℕ) (xs : List A) → OfAll (λ x. f x ≤ g x) xs → total f xs ≤ total g xs
total_below f g [] all = omega arith
total_below f g (x ∷ xs) all = let one = all.0 in let more = total_below f g xs all.1 in omega (arith, one, more)

-- the one of an index is set
pub total_set : {A : Type 0} (f : A → ℕ) (xs : List A) (i : ℕ) (x y : A) → slice_get xs i ≡ Some x
    → total f (slice_set xs i y) + f x ≡ total f xs + f y
total_set f [] i x y at = absurd (none-some x at)
total_set f (z ∷ zs) zero x y at =
    let same : f z ≡ f x = ap (λ o. option_map_or f o 0) at in
    let r = total f zs in omega (arith, same)
total_set f (z ∷ zs) (suc i) x y at = let more = total_set f zs i x y at in omega (arith, more)

-- the first of a number is changed
pub total_first : {A : Type 0} (key : A → ℕ) (g : A → A) (f : A → ℕ) (xs : List A) (n : ℕ) (x : A) → first_by key xs n ≡ Some x
    → total f (with_first_by key g xs n) + f x ≡ total f xs + f (g x)
total_first key g f [] n x at = absurd (none-some x at)
total_first key g f (z ∷ zs) n x at = step (key z == n) (total_first key g f zs n x) at
  where
    step : (b : Bool) → (first_by key zs n ≡ Some x → total f (with_first_by key g zs n) + f x ≡ total f zs + f (g x))
        → (if b then Some z else first_by key zs n) ≡ Some x
        → total f (if b then g z ∷ zs else z ∷ with_first_by key g zs n) + f x ≡ f z + total f zs + f (g x)
    step true rest is =
        let same : f z ≡ f x = ap (λ o. option_map_or f o 0) is in
        let turned : f (g z) ≡ f (g x) = ap (λ o. option_map_or (λ y. f (g y)) o 0) is in
        let r = total f zs in omega (arith, same, turned)
    step false rest is = let more = rest is in omega (arith, more)

pub first_none : {A : Type 0} (key : A → ℕ) (g : A → A) (xs : List A) (n : ℕ) → first_by key xs n ≡ None → with_first_by key g xs n ≡ xs
first_none key g [] n at = refl
first_none key g (z ∷ zs) n at = step (key z == n) (first_none key g zs n) at
  where
    step : (b : Bool) → (first_by key zs n ≡ None → with_first_by key g zs n ≡ zs) → (if b then Some z else first_by key zs n) ≡ None → (if b then g z ∷ zs else z ∷ with_first_by key g zs n) ≡ z ∷ zs
    step true rest is = absurd (none-some z (sym is))
    step false rest is = ap (λ ys. z ∷ ys) (rest is)
