-- The least number of a node's handles: in the list by number as in the places.
use Rattle.std.specs.Prelude.{◌≡◌, ℕ, ◌<◌, ◌≤◌, zero, suc, Bool, true, false, if◌then◌else◌, ◌==◌, nat_lt, List, [], ◌∷◌, ◌++◌, map, filter, Option, Some, None, refl}
use Rattle.std.proofs.Common.{sym, ap, ap₂, ◌∙◌, arith, eqb-true}
use Rattle.std.proofs.lemmas.Option.{none-some}
use Rattle.std.proofs.lemmas.Bool.{ltb-true, ltb-false}
use Rattle.iox_handles.specs.declared.entry.Entry.{Entry}
use Rattle.iox_handles.specs.Least.{least, lesser}
use Rattle.iox_handles.specs.Places.{option_list, by_number, in_places, NumbersAreApart, least_in, number_for}
use Rattle.iox_handles.proofs.NumberLemmas.{agree, same_number, other, less_is_other, strict}

-- ---- of two

pub lesser-none : (a : Option ℕ) → lesser a None ≡ a
lesser-none None = refl
lesser-none (Some n) = refl

pub lesser_assoc : (a b c : Option ℕ) → lesser (lesser a b) c ≡ lesser a (lesser b c)
lesser_assoc None b c = refl
lesser_assoc (Some x) None c = refl
lesser_assoc (Some x) (Some y) None = refl
lesser_assoc (Some x) (Some y) (Some z) = ap (λ n. Some n) (omega arith)

pub lesser_comm : (a b : Option ℕ) → lesser a b ≡ lesser b a
lesser_comm None None = refl
lesser_comm None (Some y) = refl
lesser_comm (Some x) None = refl
lesser_comm (Some x) (Some y) = ap (λ n. Some n) (omega arith)

pub least-append : (xs ys : List ℕ) → least (xs ++ ys) ≡ lesser (least xs) (least ys)
least-append [] ys = refl
least-append (x ∷ xs) ys = ap (lesser (Some x)) (least-append xs ys) ∙ sym (lesser_assoc (Some x) (least xs) (least ys))

-- ---- place by place

pub least_in-last : (node : ℕ) (ps : List (Option Entry)) (o : Option Entry) → least_in node (ps ++ o ∷ []) ≡ lesser (least_in node ps) (number_for node o)
least_in-last node [] o = lesser-none (number_for node o)
least_in-last node (p ∷ ps) o =
    ap (lesser (number_for node p)) (least_in-last node ps o) ∙ sym (lesser_assoc (number_for node p) (least_in node ps) (number_for node o))

-- ---- by number

-- the least number of the node's, of a list
abbrev pub least_for : ℕ → List Entry → Option ℕ
least_for node hs = least (map (λ h. h.number) (filter (λ h. h.node == node) hs))

for-append : (node : ℕ) (xs ys : List Entry) → least_for node (xs ++ ys) ≡ lesser (least_for node xs) (least_for node ys)
for-append node [] ys = refl
for-append node (x ∷ xs) ys = by_case (x.node == node) (for-append node xs ys)
  where
    kept : Bool → List Entry → Option ℕ
    kept b hs = least (map (λ h. h.number) (if b then x ∷ hs else hs))

    by_case : (b : Bool) → least_for node (xs ++ ys) ≡ lesser (least_for node xs) (least_for node ys)
        → kept b (filter (λ h. h.node == node) (xs ++ ys)) ≡ lesser (kept b (filter (λ h. h.node == node) xs)) (least_for node ys)
    by_case true rest = ap (lesser (Some x.number)) rest ∙ sym (lesser_assoc (Some x.number) (least_for node xs) (least_for node ys))
    by_case false rest = rest

for-one : (node : ℕ) (o : Option Entry) → least_for node (option_list o) ≡ number_for node o
for-one node None = refl
for-one node (Some h) = by_case (h.node == node)
  where
    by_case : (b : Bool) → least (map (λ g. g.number) (if b then h ∷ [] else [])) ≡ (if b then Some h.number else None)
    by_case true = refl
    by_case false = refl

for-suc : (node : ℕ) (at : ℕ → Option Entry) (n : ℕ) → least_for node (by_number at (suc n)) ≡ lesser (least_for node (by_number at n)) (number_for node (at n))
for-suc node at n = for-append node (by_number at n) (option_list (at n)) ∙ ap (lesser (least_for node (by_number at n))) (for-one node (at n))

-- one handle more, at a number where none was
for-put : (node : ℕ) (at at' : ℕ → Option Entry) (n : ℕ) (g : Entry)
    → ((k : ℕ) → at' k ≡ (if g.number == k then Some g else at k)) → at g.number ≡ None → g.number < n
    → least_for node (by_number at' n) ≡ lesser (number_for node (Some g)) (least_for node (by_number at n))
for-put node at at' zero g is none below = absurd (omega arith)
for-put node at at' (suc n) g is none below = by_case (g.number == n) refl (for-put node at at' n g is none)
  where
    new : Option ℕ
    new = number_for node (Some g)

    old : Option ℕ
    old = least_for node (by_number at n)

    by_case : (b : Bool) → (g.number == n) ≡ b
        → (g.number < n → least_for node (by_number at' n) ≡ lesser new old)
        → least_for node (by_number at' (suc n)) ≡ lesser new (least_for node (by_number at (suc n)))
    by_case true e more =
        let same : g.number ≡ n = eqb-true g.number n e in
        for-suc node at' n
        ∙ ap₂ (λ hs o. lesser (least_for node hs) (number_for node o))
        (agree at' at n (λ k low. is k ∙ ap (λ (b : Bool). if b then Some g else at k) (other k g.number (less_is_other k g.number (omega (arith, same))))))
        (is n ∙ ap (λ (b : Bool). if b then Some g else at n) e)
        ∙ lesser_comm old new
        ∙ ap (lesser new) (sym (lesser-none old) ∙ ap (λ o. lesser old (number_for node o)) (sym none ∙ ap at same) ∙ sym (for-suc node at n))
    by_case false e more =
        for-suc node at' n
        ∙ ap₂ (λ a o. lesser a (number_for node o)) (more (strict g.number n below e)) (is n ∙ ap (λ (b : Bool). if b then Some g else at n) e)
        ∙ lesser_assoc new old (number_for node (at n))
        ∙ ap (lesser new) (sym (for-suc node at n))

for-none : (node n : ℕ) → least_for node (by_number (in_places []) n) ≡ None
for-none node zero = refl
for-none node (suc n) = for-suc node (in_places []) n ∙ lesser-none (least_for node (by_number (in_places []) n)) ∙ for-none node n

-- the least number in the list by number is that in the places
pub least-places : (node : ℕ) (ps : List (Option Entry)) (n : ℕ) → NumbersAreApart ps → ((k : ℕ) → n ≤ k → in_places ps k ≡ None)
    → least_in node ps ≡ least_for node (by_number (in_places ps) n)
least-places node [] n apart below = sym (for-none node n)
least-places node (None ∷ ps) n apart below = least-places node ps n apart below
least-places node (Some g ∷ ps) n (first, apart) below =
    ap (lesser (number_for node (Some g))) (least-places node ps n apart (λ k past. behind k (below k past)))
    ∙ sym (for-put node (in_places ps) (in_places (Some g ∷ ps)) n g (λ k. refl) first (number_below below))
  where
    behind : (k : ℕ) → in_places (Some g ∷ ps) k ≡ None → in_places ps k ≡ None
    behind k e = by_case (g.number == k) e
      where
        by_case : (b : Bool) → (if b then Some g else in_places ps k) ≡ None → in_places ps k ≡ None
        by_case true e = absurd (none-some g (sym e))
        by_case false e = e

    number_below : ((k : ℕ) → n ≤ k → in_places (Some g ∷ ps) k ≡ None) → g.number < n
    number_below below = by_case (nat_lt g.number n) refl
      where
        by_case : (b : Bool) → nat_lt g.number n ≡ b → g.number < n
        by_case true e = ltb-true g.number n e
        by_case false e =
            absurd (none-some g (sym (below g.number (ltb-false g.number n e)) ∙ ap (λ (b : Bool). if b then Some g else in_places ps g.number) (same_number g.number)))
