-- The first of a number goes.
use Rattle.std.specs.Prelude.{◌≡◌, ℕ, zero, suc, ◌+◌, Bool, true, false, if◌then◌else◌, ◌==◌, List, [], ◌∷◌, drop, Some, slice_get, refl}
use Rattle.std.specs.Option.{option_map_or}
use Rattle.std.proofs.Common.{ap, arith}
use Rattle.std.proofs.lemmas.Option.{none-some, same_Some}
use Rattle.iox_tables.specs.HubStates.Tables.{first_by}
use Rattle.iox_tables.specs.HubBooks.Counts.{total}
use Rattle.iox_tables.specs.HubMaking.OneByOne.{without_first_by}

-- ---- lists

-- the first of a number counts, and so do all others
pub first_goes : {A : Type 0} (key : A → ℕ) (g : A → ℕ) (xs : List A) (n : ℕ)
    → total g xs ≡ option_map_or g (first_by key xs n) 0 + total g (without_first_by key xs n)
first_goes key g [] n = refl
first_goes key g (x ∷ xs) n = step (key x == n) (first_goes key g xs n)
  where
    step : (b : Bool) → total g xs ≡ option_map_or g (first_by key xs n) 0 + total g (without_first_by key xs n)
        → g x + total g xs
        ≡ option_map_or g (if b then Some x else first_by key xs n) 0 + total g (if b then xs else x ∷ without_first_by key xs n)
    step true more = refl
    step false more = sums (g x) _ _ _ more
      where
        sums : (a b c d : ℕ) → b ≡ c + d → a + b ≡ c + (a + d)
        sums a b c d e = omega (arith, e)

pub drop_some : {A : Type 0} (xs : List A) (i : ℕ) (x : A) → slice_get xs i ≡ Some x → drop i xs ≡ x ∷ drop (suc i) xs
drop_some [] i x e = absurd (none-some x e)
drop_some (y ∷ ys) zero x e = ap (λ z. z ∷ ys) (same_Some y x e)
drop_some (y ∷ ys) (suc i) x e = drop_some ys i x e
