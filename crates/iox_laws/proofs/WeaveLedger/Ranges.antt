-- Lists of numbers without repeats: how long they are, and ranges.
use Rattle.std.specs.Prelude.{◌≡◌, ℕ, zero, suc, ◌+◌, ◌<◌, ◌≤◌, Bool, true, false, if◌then◌else◌, ◌==◌, List, [], ◌∷◌, length, ◌⊎◌, refl}
use Rattle.std.specs.List.{range_with_len}
use Rattle.std.proofs.Common.{sym, subst, ap, ◌∙◌, arith, eqb-true, eq-eqb, inl, inr}
use Rattle.iox_model.specs.Maps.{without_number}
use Rattle.iox_laws.proofs.WeaveLedger.Lists.{IsAmong, NoRepeats}
use Rattle.iox_laws.proofs.WeaveLedger.Truths.{never}

-- ---- lists with the same numbers

one-less : (k : ℕ) (ks : List ℕ) → IsAmong k ks → length ks ≡ suc (length (without_number k ks))
one-less k [] a = absurd a
one-less k (j ∷ js) (inl e) = first (j == k) (eq-eqb j k (sym e))
  where
    first : (b : Bool) → b ≡ true → suc (length js) ≡ suc (length (if b then js else j ∷ without_number k js))
    first true e = refl
    first false e = never false e refl
one-less k (j ∷ js) (inr a) = by_case (j == k) (one-less k js a)
  where
    by_case : (b : Bool) → length js ≡ suc (length (without_number k js)) → suc (length js) ≡ suc (length (if b then js else j ∷ without_number k js))
    by_case true rest = refl
    by_case false rest = ap suc rest

other-stays : (k i : ℕ) (ks : List ℕ) → IsAmong i ks → (i ≡ k → ⊥) → IsAmong i (without_number k ks)
other-stays k i [] a apart = absurd a
other-stays k i (j ∷ js) a apart = by_case (j == k) (eqb-true j k) (λ b. other-stays k i js b apart) a
  where
    by_case : (b : Bool) → (b ≡ true → j ≡ k) → (IsAmong i js → IsAmong i (without_number k js)) → IsAmong i (j ∷ js)
        → IsAmong i (if b then js else j ∷ without_number k js)
    by_case true same rest (inl e) = absurd (apart (e ∙ same refl))
    by_case true same rest (inr q) = q
    by_case false same rest (inl e) = inl e
    by_case false same rest (inr q) = inr (rest q)

-- a list without repeats is no longer than one that has all its numbers
pub no-longer : (xs ys : List ℕ) → NoRepeats xs → ((k : ℕ) → IsAmong k xs → IsAmong k ys) → length xs ≤ length ys
no-longer [] ys apart all = omega arith
no-longer (x ∷ xs) ys apart all =
    more (length xs) (length (without_number x ys)) (length ys)
    (no-longer xs (without_number x ys) apart.1 (λ k a. other-stays x k ys (all k (inr a)) (λ e. apart.0 (subst (λ j. IsAmong j xs) e a))))
    (one-less x ys (all x (inl refl)))
  where
    more : (a b c : ℕ) → a ≤ b → c ≡ suc b → suc a ≤ c
    more a b c p q = omega arith

-- ---- ranges

range-above : (a n k : ℕ) → IsAmong k (range_with_len a n) → a ≤ k
range-above a zero k p = absurd p
range-above a (suc n) k (inl e) = omega arith
range-above a (suc n) k (inr p) = less (range-above (a + 1) n k p)
  where
    less : a + 1 ≤ k → a ≤ k
    less q = omega arith

pub range-apart : (a n : ℕ) → NoRepeats (range_with_len a n)
range-apart a zero = tt
range-apart a (suc n) = (λ p. beyond (range-above (a + 1) n a p), range-apart (a + 1) n)
  where
    beyond : a + 1 ≤ a → ⊥
    beyond q = omega arith

pub range-has : (a n k : ℕ) → a ≤ k → k < a + n → IsAmong k (range_with_len a n)
range-has a zero k p q = absurd (omega arith)
range-has a (suc n) k p q = by_case (a == k) refl (range-has (a + 1) n k)
  where
    next : (a == k) ≡ false → a + 1 ≤ k
    next e = grind (arith)

    shift : k < a + 1 + n
    shift = omega arith

    by_case : (b : Bool) → (a == k) ≡ b → (a + 1 ≤ k → k < a + 1 + n → IsAmong k (range_with_len (a + 1) n)) → (k ≡ a) ⊎ IsAmong k (range_with_len (a + 1) n)
    by_case true e rest = inl (sym (eqb-true a k e))
    by_case false e rest = inr (rest (next e) shift)

-- the numbers up to one
pub up-to : (n k : ℕ) → k ≤ n → IsAmong k (range_with_len 0 (n + 1))
up-to n k p = range-has 0 (n + 1) k (omega arith) (omega arith)
