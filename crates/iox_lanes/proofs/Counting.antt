-- How many of the first in a list pass, one after another.
use Rattle.std.specs.Prelude.{◌≡◌, ℕ, ◌+◌, ◌≤◌, zero, suc, Bool, true, false, if◌then◌else◌, ◌==◌, List, [], ◌∷◌, filter, length, take, Some, slice_get, refl}
use Rattle.std.proofs.Common.{sym, ap, ◌∙◌, arith}
use Rattle.std.proofs.lemmas.Option.{none-some, same_Some}

-- the next one counts if it passes
counted : (test : ℕ → Bool) (xs : List ℕ) (i x : ℕ) → slice_get xs i ≡ Some x
    → length (filter test (take (suc i) xs)) ≡ length (filter test (take i xs)) + (if test x then 1 else 0)
counted test [] i x at = absurd (none-some x at)
counted test (y ∷ ys) zero x at = step (test y) ∙ ap (λ n. 0 + (if test n then 1 else 0)) (same_Some y x at)
  where
    step : (b : Bool) → length (if b then y ∷ [] else []) ≡ 0 + (if b then 1 else 0)
    step true = refl
    step false = refl
counted test (y ∷ ys) (suc i) x at = step (test y) (counted test ys i x at)
  where
    step : (b : Bool) → length (filter test (take (suc i) ys)) ≡ length (filter test (take i ys)) + (if test x then 1 else 0)
        → length (if b then y ∷ filter test (take (suc i) ys) else filter test (take (suc i) ys)) ≡ length (if b then y ∷ filter test (take i ys) else filter test (take i ys)) + (if test x then 1 else 0)
    step true e = omega (arith, e)
    step false e = e

pub count_more : (place : ℕ) (xs : List ℕ) (i x times : ℕ) → times ≡ length (filter (λ n. n == place) (take i xs)) → slice_get xs i ≡ Some x
    → times + (if x == place then 1 else 0) ≡ length (filter (λ n. n == place) (take (i + 1) xs))
count_more place xs i x times was at =
    ap (λ m. m + (if x == place then 1 else 0)) was ∙ sym (counted (λ n. n == place) xs i x at) ∙ ap (λ j. length (filter (λ n. n == place) (take j xs))) (let e : suc i ≡ i + 1 = omega arith in e)

-- and all of a list are counted at its end
pub count_all : (place : ℕ) (xs : List ℕ) (i times : ℕ) → length xs ≤ i → times ≡ length (filter (λ n. n == place) (take i xs))
    → times ≡ length (filter (λ n. n == place) xs)
count_all place xs i times all was = was ∙ ap (λ ys. length (filter (λ n. n == place) ys)) (take_all xs i all)
  where
    take_all : (ys : List ℕ) (j : ℕ) → length ys ≤ j → take j ys ≡ ys
    take_all [] zero low = refl
    take_all [] (suc j) low = refl
    take_all (y ∷ ys) zero low = absurd (omega (arith, low))
    take_all (y ∷ ys) (suc j) low = ap (λ zs. y ∷ zs) (take_all ys j (omega (arith, low)))

-- one counts one, or none
pub at_most_one : (b : Bool) (times times' rank : ℕ) → times' ≡ times + (if b then 1 else 0) → times ≤ rank → times' ≤ rank + 1
at_most_one true times times' rank is low = omega (arith, is, low)
at_most_one false times times' rank is low = omega (arith, is, low)
