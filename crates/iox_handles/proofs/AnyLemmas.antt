-- Whether a handle passes a test: in the list by number as in the places.
use Rattle.std.specs.Prelude.{◌≡◌, ℕ, ◌≤◌, ◌+◌, suc, Bool, true, false, not, ◌||◌, nat_lt, List, [], ◌∷◌, length, position, Option, Some, None, is_some, cond, count_by, refl}
use Rattle.std.specs.List.{list_any, position_or_len}
use Rattle.std.proofs.Common.{sym, ap, ◌∙◌, arith, zero-add}
use Rattle.std.proofs.lemmas.Bool.{ltb-false}
use Rattle.std.proofs.lemmas.List.Folds.{list_any_at}
use Rattle.std.proofs.lemmas.List.Quantifiers.{position-Some}
use Rattle.std.proofs.lemmas.List.Sums.{sum_by-cons, length-filter}
use Rattle.std.proofs.lemmas.Option.{none-some}
use Rattle.iox_handles.specs.declared.entry.Entry.{Entry}
use Rattle.iox_handles.specs.Places.{handles_in, in_places, passes, NumbersAreApart}
use Rattle.iox_handles.proofs.CountLemmas.{passing-places}

positive : (n : ℕ) → true ≡ nat_lt 0 (1 + n)
positive n = by_case (nat_lt 0 (1 + n)) refl
  where
    by_case : (b : Bool) → nat_lt 0 (1 + n) ≡ b → true ≡ b
    by_case true e = refl
    by_case false e = let low = ltb-false 0 (1 + n) e in absurd (omega (arith, low))

-- one passes if the count of those that pass is not 0
any_counted : {X : Type 0} (test : X → Bool) (xs : List X) → list_any test xs ≡ nat_lt 0 (count_by test xs)
any_counted test [] = refl
any_counted {X} test (x ∷ xs) = by_case (test x) (any_counted test xs) ∙ ap (nat_lt 0) (sym (sum_by-cons (λ y. cond (test y) 1 0) x xs))
  where
    by_case : (b : Bool) → list_any test xs ≡ nat_lt 0 (count_by test xs) → (b || list_any test xs) ≡ nat_lt 0 (cond b 1 0 + count_by test xs)
    by_case true rest = positive (count_by test xs)
    by_case false rest = rest ∙ ap (nat_lt 0) (sym (zero-add (count_by test xs)))

-- one passes by number if one does place by place
pub any-places : (test : Entry → Bool) (ps : List (Option Entry)) (n : ℕ) → NumbersAreApart ps → ((k : ℕ) → n ≤ k → in_places ps k ≡ None)
    → list_any (passes test) ps ≡ list_any test (handles_in ps n)
any-places test ps n apart below =
    any_counted (passes test) ps
    ∙ ap (nat_lt 0) (passing-places test ps n apart below ∙ length-filter test (handles_in ps n))
    ∙ sym (any_counted test (handles_in ps n))

-- where one is found, one passes, and else none does
none_past : {X : Type 0} (test : X → Bool) (xs : List X) → length xs ≤ position_or_len test xs → list_any test xs ≡ false
none_past test [] e = refl
none_past {X} test (x ∷ xs) e = by_case (test x) refl e (none_past test xs)
  where
    by_case : (b : Bool) → test x ≡ b → suc (length xs) ≤ cond (not b) (1 + position_or_len test xs) 0
        → (length xs ≤ position_or_len test xs → list_any test xs ≡ false) → (b || list_any test xs) ≡ false
    by_case true is e rest = absurd (omega (arith, e))
    by_case false is e rest = rest (omega (arith, e))

pub any_found : {X : Type 0} (test : X → Bool) (xs : List X) (o : Option ℕ) → o ≡ position test xs → is_some o ≡ list_any test xs
any_found {X} test xs o is = ap (λ p. is_some p) is ∙ by_case (nat_lt (position_or_len test xs) (length xs)) refl
  where
    by_case : (b : Bool) → nat_lt (position_or_len test xs) (length xs) ≡ b
        → is_some (cond b (Some (position_or_len test xs)) None) ≡ list_any test xs
    by_case true e = sym (there xs (position_or_len test xs) (ap (λ (b : Bool). cond b (Some (position_or_len test xs)) None) e))
      where
        there : (ys : List X) (i : ℕ) → position test ys ≡ Some i → list_any test ys ≡ true
        there [] i f = absurd (none-some i f)
        there (y ∷ ys) i f = let at = position-Some test (y ∷ ys) i y f in list_any_at test (y ∷ ys) i y at.0 at.1
    by_case false e = sym (none_past test xs (ltb-false (position_or_len test xs) (length xs) e))
