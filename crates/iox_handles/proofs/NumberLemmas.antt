-- Lists by number: additions, removals, changes and searches.
use Rattle.std.specs.Prelude.{◌≡◌, ℕ, ◌+◌, ◌<◌, ◌≤◌, ◌-◌, zero, suc, nat_lt, Bool, true, false, not, if◌then◌else◌, ◌==◌, List, [], ◌∷◌, ◌++◌, filter, find, Option, Some, None, refl}
use Rattle.std.proofs.Common.{sym, ap, ap₂, subst, ◌∙◌, true≢false, eqb-true, eq-eqb, arith, append-nil, add-one, sub-add_cancel, suc-add, zero-add}
use Rattle.std.proofs.lemmas.Option.{none-some}
use Rattle.std.proofs.lemmas.Bool.{ltb-true, ltb-false}
use Rattle.std.proofs.lemmas.List.Elements.{filter-append}
use Rattle.std.proofs.Math.Dec.{eqb-suc-suc}
use Rattle.iox_handles.specs.declared.entry.Entry.{Entry}
use Rattle.iox_handles.specs.Tables.{has_that, with_handle}
use Rattle.iox_handles.specs.Places.{option_list, by_number}

pub same_number : (n : ℕ) → (n == n) ≡ true
same_number n = eq-eqb n n refl

pub less_is_other : (k n : ℕ) → k < n → (k == n) ≡ false
less_is_other k n h = by_case (k == n) refl
  where
    by_case : (b : Bool) → (k == n) ≡ b → b ≡ false
    by_case true e = let same : k ≡ n = eqb-true k n e in absurd (omega (arith, same))
    by_case false e = refl

pub other : (a b : ℕ) → (a == b) ≡ false → (b == a) ≡ false
other a b e = by_case (b == a) refl
  where
    by_case : (c : Bool) → (b == a) ≡ c → c ≡ false
    by_case true is = absurd (true≢false (sym (eq-eqb a b (sym (eqb-true b a is))) ∙ e))
    by_case false is = refl

pub strict : (k n : ℕ) → k < suc n → (k == n) ≡ false → k < n
strict zero zero h e = absurd (true≢false (sym (same_number 0) ∙ e))
strict zero (suc n) h e = omega arith
strict (suc k) zero h e = absurd (omega arith)
strict (suc k) (suc n) h e = let more : k < n = strict k n (omega arith) (sym (eqb-suc-suc k n) ∙ e) in omega arith

-- each handle stands at its number
abbrev pub AreOwn : (ℕ → Option Entry) → Type 0
AreOwn at = (k : ℕ) (h : Entry) → at k ≡ Some h → h.number ≡ k

pub agree : (f g : ℕ → Option Entry) (n : ℕ) → ((k : ℕ) → k < n → f k ≡ g k) → by_number f n ≡ by_number g n
agree f g zero h = refl
agree f g (suc n) h = ap₂ (λ xs o. xs ++ option_list o) (agree f g n (λ k below. h k (omega arith))) (h n (omega arith))

-- no handle has a number from n on
longer : (at : ℕ → Option Entry) (n d : ℕ) → ((k : ℕ) → n ≤ k → at k ≡ None) → by_number at (d + n) ≡ by_number at n
longer at n zero none = ap (λ m. by_number at m) (zero-add n)
longer at n (suc d) none =
    ap (λ m. by_number at m) (suc-add d n)
    ∙ ap₂ (λ xs o. xs ++ option_list o) (longer at n d none) (none (d + n) (omega arith))
    ∙ append-nil (by_number at n)

pub adds_last : (at at' : ℕ → Option Entry) (n : ℕ) (h : Entry)
    → ((k : ℕ) → at' k ≡ (if k == h.number then Some h else at k))
    → ((k : ℕ) → n ≤ k → at k ≡ None) → n ≤ h.number
    → by_number at' (h.number + 1) ≡ by_number at n ++ h ∷ []
adds_last at at' n h is none newer =
    ap (λ m. by_number at' m) (add-one h.number)
    ∙ ap₂ (λ xs o. xs ++ option_list o)
    (agree at' at h.number (λ k below. is k ∙ ap (λ (b : Bool). if b then Some h else at k) (less_is_other k h.number below))
    ∙ ap (λ m. by_number at m) (sym (sub-add_cancel newer)) ∙ longer at n (h.number - n) none)
    (is h.number ∙ ap (λ (b : Bool). if b then Some h else at h.number) (same_number h.number))

-- ---- removals and changes

one_removed : (h : Entry) (o : Option Entry) (n : ℕ) → ((g : Entry) → o ≡ Some g → g.number ≡ n) → (b : Bool) → (n == h.number) ≡ b
    → option_list (if b then None else o) ≡ filter (λ k. not (has_that h.number k)) (option_list o)
one_removed h None n own true e = refl
one_removed h None n own false e = refl
one_removed h (Some g) n own b e =
    by_case b ∙ ap (λ (c : Bool). if not c then g ∷ [] else []) (sym (ap (λ m. m == h.number) (own g refl) ∙ e))
  where
    by_case : (c : Bool) → option_list (if c then None else Some g) ≡ (if not c then g ∷ [] else [])
    by_case true = refl
    by_case false = refl

pub removes_one : (at at' : ℕ → Option Entry) (n : ℕ) (h : Entry) → AreOwn at
    → ((k : ℕ) → at' k ≡ (if k == h.number then None else at k))
    → by_number at' n ≡ filter (λ k. not (has_that h.number k)) (by_number at n)
removes_one at at' zero h own is = refl
removes_one at at' (suc n) h own is =
    ap₂ (λ xs o. xs ++ option_list o) (removes_one at at' n h own is) (is n)
    ∙ ap (λ xs. filter (λ k. not (has_that h.number k)) (by_number at n) ++ xs) (one_removed h (at n) n (own n) (n == h.number) refl)
    ∙ sym (filter-append (λ k. not (has_that h.number k)) (by_number at n) (option_list (at n)))

-- ---- searches

find-append : (test : Entry → Bool) (xs ys : List Entry) (h : Entry) → find test xs ≡ Some h → find test (xs ++ ys) ≡ Some h
find-append test [] ys h e = absurd (none-some h e)
find-append test (x ∷ xs) ys h e = over (test x) (find-append test xs ys h) e
  where
    over : (b : Bool) → (find test xs ≡ Some h → find test (xs ++ ys) ≡ Some h) → (if b then Some x else find test xs) ≡ Some h → (if b then Some x else find test (xs ++ ys)) ≡ Some h
    over true more is = is
    over false more is = more is

find-none : (test : Entry → Bool) (xs ys : List Entry) → find test xs ≡ None → find test (xs ++ ys) ≡ find test ys
find-none test [] ys e = refl
find-none test (x ∷ xs) ys e = over (test x) (find-none test xs ys) e
  where
    over : (b : Bool) → (find test xs ≡ None → find test (xs ++ ys) ≡ find test ys) → (if b then Some x else find test xs) ≡ None → (if b then Some x else find test (xs ++ ys)) ≡ find test ys
    over true more is = absurd (none-some x (sym is))
    over false more is = more is

-- none has a number that is not below
pub not_there : (at : ℕ → Option Entry) (n k : ℕ) → AreOwn at → n ≤ k → find (has_that k) (by_number at n) ≡ None
not_there at zero k own h = refl
not_there at (suc n) k own h =
    find-none (has_that k) (by_number at n) (option_list (at n)) (not_there at n k own (omega arith)) ∙ last (at n) (own n)
  where
    last : (o : Option Entry) → ((g : Entry) → o ≡ Some g → g.number ≡ n) → find (has_that k) (option_list o) ≡ None
    last None own = refl
    last (Some g) own = ap (λ (b : Bool). if b then Some g else None) (ap (λ m. m == k) (own g refl) ∙ less_is_other n k (omega arith))

finds_below : (at : ℕ → Option Entry) (n k : ℕ) → AreOwn at → k < n → find (has_that k) (by_number at n) ≡ at k
finds_below at zero k own h = absurd (omega arith)
finds_below at (suc n) k own h = by_case (k == n) refl (finds_below at n k own)
  where
    here : (o : Option Entry) → ((g : Entry) → o ≡ Some g → g.number ≡ n) → find (has_that n) (option_list o) ≡ o
    here None own = refl
    here (Some g) own = ap (λ (b : Bool). if b then Some g else None) (ap (λ m. m == n) (own g refl) ∙ same_number n)

    front : (o : Option Entry) (xs ys : List Entry) → find (has_that k) xs ≡ o → find (has_that k) ys ≡ None → find (has_that k) (xs ++ ys) ≡ o
    front (Some g) xs ys e f = find-append (has_that k) xs ys g e
    front None xs ys e f = find-none (has_that k) xs ys e ∙ f

    back : (o : Option Entry) → ((g : Entry) → o ≡ Some g → g.number ≡ n) → (k == n) ≡ false → find (has_that k) (option_list o) ≡ None
    back None own e = refl
    back (Some g) own e = ap (λ (b : Bool). if b then Some g else None) (ap (λ m. m == k) (own g refl) ∙ other k n e)

    by_case : (b : Bool) → (k == n) ≡ b → (k < n → find (has_that k) (by_number at n) ≡ at k) → find (has_that k) (by_number at n ++ option_list (at n)) ≡ at k
    by_case true e more =
        let same : k ≡ n = eqb-true k n e in
        subst (λ (j : ℕ). find (has_that j) (by_number at n ++ option_list (at n)) ≡ at j) (sym same)
        (find-none (has_that n) (by_number at n) (option_list (at n)) (not_there at n n own (omega arith)) ∙ here (at n) (own n))
    by_case false e more = front (at k) (by_number at n) (option_list (at n)) (more (strict k n h e)) (back (at n) (own n) e)

pub finds_by_number : (at : ℕ → Option Entry) (n k : ℕ) → AreOwn at → ((j : ℕ) → n ≤ j → at j ≡ None)
    → find (has_that k) (by_number at n) ≡ at k
finds_by_number at n k own none = by_case (nat_lt k n) refl
  where
    by_case : (b : Bool) → nat_lt k n ≡ b → find (has_that k) (by_number at n) ≡ at k
    by_case true e = finds_below at n k own (ltb-true k n e)
    by_case false e = not_there at n k own (ltb-false k n e) ∙ sym (none k (ltb-false k n e))

-- a new handle is found behind the others
pub finds_last : (at : ℕ → Option Entry) (n : ℕ) (h : Entry) → AreOwn at → n ≤ h.number
    → find (has_that h.number) (by_number at n ++ h ∷ []) ≡ Some h
finds_last at n h own newer =
    find-none (has_that h.number) (by_number at n) (h ∷ []) (not_there at n h.number own newer)
    ∙ ap (λ (b : Bool). if b then Some h else None) (same_number h.number)

-- what was removed is not found
pub finds_none : (k : ℕ) (hs : List Entry) → find (has_that k) (filter (λ h. not (has_that k h)) hs) ≡ None
finds_none k [] = refl
finds_none k (h ∷ hs) = by_case (has_that k h) refl (finds_none k hs)
  where
    by_case : (b : Bool) → has_that k h ≡ b → find (has_that k) (filter (λ g. not (has_that k g)) hs) ≡ None
        → find (has_that k) (if not b then h ∷ filter (λ g. not (has_that k g)) hs else filter (λ g. not (has_that k g)) hs) ≡ None
    by_case true e none = none
    by_case false e none = ap (λ (b : Bool). if b then Some h else find (has_that k) (filter (λ g. not (has_that k g)) hs)) e ∙ none

-- ---- changes

with-front : (h : Entry) (xs ys : List Entry) → find (has_that h.number) xs ≡ None → with_handle h (xs ++ ys) ≡ xs ++ with_handle h ys
with-front h [] ys e = refl
with-front h (x ∷ xs) ys e = over (has_that h.number x) (with-front h xs ys) e
  where
    over : (b : Bool) → (find (has_that h.number) xs ≡ None → with_handle h (xs ++ ys) ≡ xs ++ with_handle h ys)
        → (if b then Some x else find (has_that h.number) xs) ≡ None
        → (if b then h ∷ xs ++ ys else x ∷ with_handle h (xs ++ ys)) ≡ x ∷ xs ++ with_handle h ys
    over true more is = absurd (none-some x (sym is))
    over false more is = ap (λ zs. x ∷ zs) (more is)

with-back : (h g : Entry) (xs ys : List Entry) → find (has_that h.number) xs ≡ Some g → with_handle h (xs ++ ys) ≡ with_handle h xs ++ ys
with-back h g [] ys e = absurd (none-some g e)
with-back h g (x ∷ xs) ys e = over (has_that h.number x) (with-back h g xs ys) e
  where
    over : (b : Bool) → (find (has_that h.number) xs ≡ Some g → with_handle h (xs ++ ys) ≡ with_handle h xs ++ ys)
        → (if b then Some x else find (has_that h.number) xs) ≡ Some g
        → (if b then h ∷ xs ++ ys else x ∷ with_handle h (xs ++ ys)) ≡ (if b then h ∷ xs else x ∷ with_handle h xs) ++ ys
    over true more is = refl
    over false more is = ap (λ zs. x ∷ zs) (more is)

pub changes_one : (at at' : ℕ → Option Entry) (n : ℕ) (h old : Entry) → AreOwn at
    → ((k : ℕ) → at' k ≡ (if k == h.number then Some h else at k)) → at h.number ≡ Some old → h.number < n
    → by_number at' n ≡ with_handle h (by_number at n)
changes_one at at' zero h old own is has within = absurd (omega arith)
changes_one at at' (suc n) h old own is has within = by_case (h.number == n) refl (changes_one at at' n h old own is has)
  where
    here : (o : Option Entry) → o ≡ Some old → (old.number == h.number) ≡ true → h ∷ [] ≡ with_handle h (option_list o)
    here o e same = sym (ap (λ p. with_handle h (option_list p)) e ∙ ap (λ (b : Bool). if b then h ∷ [] else old ∷ []) same)

    by_case : (b : Bool) → (h.number == n) ≡ b → (h.number < n → by_number at' n ≡ with_handle h (by_number at n))
        → by_number at' (suc n) ≡ with_handle h (by_number at (suc n))
    by_case true e more =
        let same : h.number ≡ n = eqb-true h.number n e in
        ap₂ (λ xs o. xs ++ option_list o)
        (agree at' at n (λ k below. is k ∙ ap (λ (b : Bool). if b then Some h else at k) (less_is_other k h.number (omega (arith, same)))))
        (ap at' (sym same) ∙ is h.number ∙ ap (λ (b : Bool). if b then Some h else at h.number) (same_number h.number))
        ∙ ap (λ xs. by_number at n ++ xs) (here (at n) (ap at (sym same) ∙ has) (ap (λ m. m == h.number) (own h.number old has) ∙ same_number h.number))
        ∙ sym (with-front h (by_number at n) (option_list (at n)) (not_there at n h.number own (omega (arith, same))))
    by_case false e more =
        let below : h.number < n = strict h.number n within e in
        ap₂ (λ xs o. xs ++ option_list o) (more below)
        (is n ∙ ap (λ (b : Bool). if b then Some h else at n) (other h.number n e))
        ∙ sym (with-back h old (by_number at n) (option_list (at n)) (finds_below at n h.number own below ∙ has))
