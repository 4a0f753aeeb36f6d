-- How often a number is in a list.
use Rattle.std.specs.Prelude.{not, ◌||◌, ◌++◌, ◌≤◌}
use Rattle.std.proofs.Common.{◌≡◌, ℕ, ◌+◌, Bool, true, false, if◌then◌else◌, ◌==◌, List, [], ◌∷◌, refl, ap, sym, ◌∙◌, arith, eqb-true, true≢false}
use Rattle.iox_model.specs.Maps.{has_number, without_number}
use Rattle.iox_wire_pools.specs.Uses.{how_often}

abbrev pub one_if : Bool → ℕ
one_if b = if b then 1 else 0

pub often_both : (n : ℕ) (xs ys : List ℕ) → how_often n (xs ++ ys) ≡ how_often n xs + how_often n ys
often_both n [] ys = omega arith
often_both n (x ∷ xs) ys = let rest = often_both n xs ys in more (one_if (x == n)) (how_often n xs) (how_often n ys) _ rest
  where
    more : (a b c d : ℕ) → d ≡ b + c → a + d ≡ (a + b) + c
    more a b c d e = omega (arith, e)

-- a number is in a list that it is in so often
pub none_used : (n : ℕ) (xs : List ℕ) → (how_often n xs == 0) ≡ not (has_number n xs)
none_used n [] = refl
none_used n (x ∷ xs) = by_case (x == n) (none_used n xs)
  where
    some : (k : ℕ) → (1 + k == 0) ≡ false
    some k = grind (arith)

    zero_on : (k : ℕ) → (0 + k == 0) ≡ (k == 0)
    zero_on k = ap (λ j. j == 0) (omega arith)

    by_case : (b : Bool) → (how_often n xs == 0) ≡ not (has_number n xs) → (one_if b + how_often n xs == 0) ≡ not (b || has_number n xs)
    by_case true rest = some (how_often n xs)
    by_case false rest = zero_on (how_often n xs) ∙ rest

pub used : (n : ℕ) (xs : List ℕ) → has_number n xs ≡ true → 1 ≤ how_often n xs
used n xs e = positive (how_often n xs) (none_used n xs ∙ ap not e)
  where
    positive : (k : ℕ) → (k == 0) ≡ false → 1 ≤ k
    positive k e = grind (arith)

pub is_used : (n : ℕ) (xs : List ℕ) → 1 ≤ how_often n xs → has_number n xs ≡ true
is_used n xs e = by_case (has_number n xs) (none_used n xs)
  where
    none : (k : ℕ) → (k == 0) ≡ true → 1 ≤ k → ⊥
    none k e f = grind (arith)

    by_case : (b : Bool) → (how_often n xs == 0) ≡ not b → b ≡ true
    by_case true e = refl
    by_case false is = absurd (none (how_often n xs) is e)

-- the first of them taken out
pub one_out : (n slot : ℕ) (xs : List ℕ) → has_number slot xs ≡ true
    → how_often n xs ≡ one_if (slot == n) + how_often n (without_number slot xs)
one_out n slot [] e = absurd (true≢false (sym e))
one_out n slot (x ∷ xs) e = by_case (x == slot) refl e (one_out n slot xs)
  where
    swap : (a b c d : ℕ) → c ≡ b + d → a + c ≡ b + (a + d)
    swap a b c d e = omega (arith, e)

    by_case : (b : Bool) → (x == slot) ≡ b → (b || has_number slot xs) ≡ true
        → (has_number slot xs ≡ true → how_often n xs ≡ one_if (slot == n) + how_often n (without_number slot xs))
        → one_if (x == n) + how_often n xs ≡ one_if (slot == n) + how_often n (if b then xs else x ∷ without_number slot xs)
    by_case true is there rest = ap (λ k. one_if (k == n) + how_often n xs) (eqb-true x slot is)
    by_case false is there rest = swap (one_if (x == n)) (one_if (slot == n)) (how_often n xs) (how_often n (without_number slot xs)) (rest there)
