-- Lists of different numbers.
use Rattle.std.specs.Prelude.{◌≡◌, ℕ, Bool, true, false, ◌||◌, if◌then◌else◌, ◌==◌, List, [], ◌∷◌, ◌++◌, map, filter, refl}
use Rattle.std.proofs.Common.{ap, ap₂, ◌∙◌}
use Rattle.std.proofs.lemmas.Bool.{or_parts}
use Rattle.iox_model.specs.Maps.{AreDistinct, has_number}
use Rattle.iox_tables.proofs.HubStates.Keys.{flip}

-- what is in no list is in no part of it
pub none_kept : (test : ℕ → Bool) (k : ℕ) (ns : List ℕ) → has_number k ns ≡ false → has_number k (filter test ns) ≡ false
none_kept test k [] e = refl
none_kept test k (n ∷ ns) e = step (test n) (none_kept test k ns (or_parts (n == k) (has_number k ns) e).1)
  where
    step : (b : Bool) → has_number k (filter test ns) ≡ false → has_number k (if b then n ∷ filter test ns else filter test ns) ≡ false
    step true rest = ap₂ (λ (a b : Bool). a || b) (or_parts (n == k) (has_number k ns) e).0 rest
    step false rest = rest

pub distinct_kept : (test : ℕ → Bool) (ns : List ℕ) → AreDistinct ns → AreDistinct (filter test ns)
distinct_kept test [] apart = tt
distinct_kept test (n ∷ ns) apart = step (test n) (distinct_kept test ns apart.1)
  where
    step : (b : Bool) → AreDistinct (filter test ns) → AreDistinct (if b then n ∷ filter test ns else filter test ns)
    step true rest = (none_kept test n ns apart.0, rest)
    step false rest = rest

-- one more that is not there
pub distinct_last : (n : ℕ) (ns : List ℕ) → AreDistinct ns → has_number n ns ≡ false → AreDistinct (ns ++ n ∷ [])
distinct_last n [] apart e = (refl, tt)
distinct_last n (k ∷ ks) apart e =
    (not_last ks apart.0, distinct_last n ks apart.1 (or_parts (k == n) (has_number n ks) e).1)
  where
    not_last : (ns : List ℕ) → has_number k ns ≡ false → has_number k (ns ++ n ∷ []) ≡ false
    not_last [] h = ap (λ (b : Bool). b || false) (flip n k ∙ (or_parts (k == n) (has_number n ks) e).0)
    not_last (j ∷ js) h = ap₂ (λ (a b : Bool). a || b) (or_parts (j == k) (has_number k js) h).0 (not_last js (or_parts (j == k) (has_number k js) h).1)

-- the numbers of those that are left
pub numbers_kept : {A : Type 0} (key : A → ℕ) (test : ℕ → Bool) (xs : List A) → map key (filter (λ x. test (key x)) xs) ≡ filter test (map key xs)
numbers_kept key test [] = refl
numbers_kept {A = A} key test (x ∷ xs) = step (test (key x)) (numbers_kept key test xs)
  where
    step : (b : Bool) → map key (filter (λ x. test (key x)) xs) ≡ filter test (map key xs)
        → map key (if b then x ∷ filter (λ x. test (key x)) xs else filter (λ x. test (key x)) xs) ≡ (if b then key x ∷ filter test (map key xs) else filter test (map key xs))
    step true rest = ap (λ ks. key x ∷ ks) rest
    step false rest = rest
