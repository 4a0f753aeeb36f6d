-- How many handles pass a test: in the list by number as in the places.
use Rattle.std.specs.Prelude.{◌≡◌, ℕ, ◌+◌, ◌<◌, ◌≤◌, zero, suc, Bool, true, false, if◌then◌else◌, ◌==◌, nat_lt, List, [], ◌∷◌, ◌++◌, length, filter, Option, Some, None, cond, count_by, refl}
use Rattle.std.proofs.Common.{sym, ap, ◌∙◌, arith, length-append, eqb-true, zero-add, add-zero}
use Rattle.std.proofs.lemmas.Option.{none-some}
use Rattle.std.proofs.lemmas.Bool.{ltb-true, ltb-false}
use Rattle.std.proofs.lemmas.List.Elements.{filter-append}
use Rattle.std.proofs.lemmas.List.Sums.{sum_by-cons}
use Rattle.iox_handles.specs.declared.entry.Entry.{Entry}
use Rattle.iox_handles.specs.Places.{option_list, by_number, in_places, passes, NumbersAreApart}
use Rattle.iox_handles.proofs.NumberLemmas.{agree, same_number, other, less_is_other, strict}

-- how many of a list pass
abbrev pub passing : (Entry → Bool) → List Entry → ℕ
passing test hs = length (filter test hs)

abbrev pub one_for : Bool → ℕ
one_for b = if b then 1 else 0

passing-append : (test : Entry → Bool) (xs ys : List Entry) → passing test (xs ++ ys) ≡ passing test xs + passing test ys
passing-append test xs ys = ap length (filter-append test xs ys) ∙ length-append (filter test xs) (filter test ys)

passing-one : (test : Entry → Bool) (g : Entry) → passing test (g ∷ []) ≡ one_for (test g)
passing-one test g = by_case (test g)
  where
    by_case : (b : Bool) → length (if b then g ∷ [] else []) ≡ one_for b
    by_case true = refl
    by_case false = refl

-- one handle more, at a number where none was
passing-put : (test : Entry → Bool) (at at' : ℕ → Option Entry) (n : ℕ) (g : Entry)
    → ((k : ℕ) → at' k ≡ (if g.number == k then Some g else at k)) → at g.number ≡ None → g.number < n
    → passing test (by_number at' n) ≡ one_for (test g) + passing test (by_number at n)
passing-put test at at' zero g is none below = absurd (omega arith)
passing-put test at at' (suc n) g is none below = by_case (g.number == n) refl (passing-put test at at' n g is none)
  where
    back : passing test (by_number at (suc n)) ≡ passing test (by_number at n) + passing test (option_list (at n))
    back = passing-append test (by_number at n) (option_list (at n))

    front : passing test (by_number at' (suc n)) ≡ passing test (by_number at' n) + passing test (option_list (at' n))
    front = passing-append test (by_number at' n) (option_list (at' n))

    by_case : (b : Bool) → (g.number == n) ≡ b
        → (g.number < n → passing test (by_number at' n) ≡ one_for (test g) + passing test (by_number at n))
        → passing test (by_number at' (suc n)) ≡ one_for (test g) + passing test (by_number at (suc n))
    by_case true e more =
        let same : g.number ≡ n = eqb-true g.number n e in
        let before : passing test (by_number at' n) ≡ passing test (by_number at n) =
        ap (passing test) (agree at' at n (λ k low. is k ∙ ap (λ (b : Bool). if b then Some g else at k) (other k g.number (less_is_other k g.number (omega (arith, same)))))) in
        let new : passing test (option_list (at' n)) ≡ one_for (test g) =
        ap (λ o. passing test (option_list o)) (is n ∙ ap (λ (b : Bool). if b then Some g else at n) e) ∙ passing-one test g in
        let old : passing test (option_list (at n)) ≡ 0 = ap (λ o. passing test (option_list o)) (ap at (sym same) ∙ none) in
        omega (arith, front, back, before, new, old)
    by_case false e more =
        let before = more (strict g.number n below e) in
        let same : passing test (option_list (at' n)) ≡ passing test (option_list (at n)) =
        ap (λ o. passing test (option_list o)) (is n ∙ ap (λ (b : Bool). if b then Some g else at n) e) in
        omega (arith, front, back, before, same)

passing-none : (test : Entry → Bool) (n : ℕ) → passing test (by_number (in_places []) n) ≡ 0
passing-none test zero = refl
passing-none test (suc n) = passing-append test (by_number (in_places []) n) [] ∙ add-zero (passing test (by_number (in_places []) n)) ∙ passing-none test n

-- as many handles pass in the list by number as in the places
pub passing-places : (test : Entry → Bool) (ps : List (Option Entry)) (n : ℕ) → NumbersAreApart ps → ((k : ℕ) → n ≤ k → in_places ps k ≡ None)
    → count_by (passes test) ps ≡ passing test (by_number (in_places ps) n)
passing-places test [] n apart below = sym (passing-none test n)
passing-places test (None ∷ ps) n apart below =
    sum_by-cons (λ o. cond (passes test o) 1 0) None ps ∙ zero-add (count_by (passes test) ps) ∙ passing-places test ps n apart below
passing-places test (Some g ∷ ps) n (first, apart) below =
    sum_by-cons (λ o. cond (passes test o) 1 0) (Some g) ps
    ∙ ap (λ m. one_for (test g) + m) (passing-places test ps n apart (λ k past. behind k (below k past)))
    ∙ sym (passing-put test (in_places ps) (in_places (Some g ∷ ps)) n g (λ k. refl) first (number_below below))
  where
    behind : (k : ℕ) → in_places (Some g ∷ ps) k ≡ None → in_places ps k ≡ None
    behind k e = by_case (g.number == k) e
      where
        by_case : (b : Bool) → (if b then Some g else in_places ps k) ≡ None → in_places ps k ≡ None
        by_case true e = absurd (none-some g (sym e))
        by_case false e = e

    number_below : ((k : ℕ) → n ≤ k → in_places (Some g ∷ ps) k ≡ None) → g.number < n
    number_below below = by_case (nat_lt g.number n) refl
      where
        by_case : (b : Bool) → nat_lt g.number n ≡ b → g.number < n
        by_case true e = ltb-true g.number n e
        by_case false e =
            absurd (none-some g (sym (below g.number (ltb-false g.number n e)) ∙ ap (λ (b : Bool). if b then Some g else in_places ps g.number) (same_number g.number)))
