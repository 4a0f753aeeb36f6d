-- Entries with ascending numbers: how one is searched, and what the changes of a table come to.
use Rattle.std.proofs.Common.{◌≡◌, ℕ, zero, suc, ◌+◌, ◌-◌, ◌/◌, ◌<◌, ◌≤◌, ◌==◌, Bool, true, false, not, cond, List, [], ◌∷◌, ◌++◌, length, get_or, Some, None, refl, ap, subst, ◌∙◌, arith, eqb-true, eq-eqb, slice_set, nat_lt}
use Rattle.std.proofs.lemmas.Bool.{ltb-true, ltb-false}
use Rattle.std.specs.Prelude.{filter, remove}
use Rattle.std.proofs.lemmas.List.{length_push}
use Rattle.iox_wire_locals.specs.declared.table.Entry.{Entry}
use Rattle.iox_wire_locals.specs.Tables.{entry_at, with_entry}
use Rattle.iox_wire_seats.specs.Rows.{AreAbove, AreBelow, IsAscending, HasCapacity, IsLowerBound, IsOnlyAt, IsMissing, number_at}

-- ---- numbers in order

above_at : (n : ℕ) (es : List Entry) (k : ℕ) → AreAbove n es → k < length es → n < number_at es k
above_at n [] k up h = absurd (omega (arith, h))
above_at n (e ∷ es) zero up h = up.0
above_at n (e ∷ es) (suc k) up h = above_at n es k up.1 (omega (arith, h))

pub ascends_at : (es : List Entry) (i j : ℕ) → IsAscending es → i ≤ j → j < length es → number_at es i ≤ number_at es j
ascends_at [] i j up h b = absurd (omega (arith, b))
ascends_at (e ∷ es) zero zero up h b = omega arith
ascends_at (e ∷ es) zero (suc j) up h b =
    let above : e.number < number_at es j = above_at e.number es j up.0 (omega (arith, b)) in omega (arith, above)
ascends_at (e ∷ es) (suc i) zero up h b = absurd (omega (arith, h))
ascends_at (e ∷ es) (suc i) (suc j) up h b = ascends_at es i j up.1 (omega (arith, h)) (omega (arith, b))

pub number_read : (es : List Entry) (k : ℕ) (d : Entry) → k < length es → number_at es k ≡ (get_or es k d).number
number_read [] k d h = absurd (omega (arith, h))
number_read (e ∷ es) zero d h = refl
number_read (e ∷ es) (suc k) d h = number_read es k d (omega (arith, h))

AreAbove-push : (n : ℕ) (es : List Entry) (e : Entry) → AreAbove n es → n < e.number → AreAbove n (es ++ e ∷ [])
AreAbove-push n [] e up h = (h, tt)
AreAbove-push n (x ∷ es) e up h = (up.0, AreAbove-push n es e up.1 h)

pub IsAscending-push : (es : List Entry) (e : Entry) → IsAscending es → AreBelow e.number es → IsAscending (es ++ e ∷ [])
IsAscending-push [] e up below = (tt, tt)
IsAscending-push (x ∷ es) e up below = (AreAbove-push x.number es e up.0 below.0, IsAscending-push es e up.1 below.1)

-- ---- the only entry of a number

differ : (a b : ℕ) → a < b → (a == b) ≡ false
differ a b h = by_case (a == b) refl
  where
    by_case : (c : Bool) → (a == b) ≡ c → c ≡ false
    by_case true e = let same : a ≡ b = eqb-true a b e in absurd (omega (arith, same, h))
    by_case false e = refl

pub differ_up : (a b : ℕ) → b < a → (a == b) ≡ false
differ_up a b h = by_case (a == b) refl
  where
    by_case : (c : Bool) → (a == b) ≡ c → c ≡ false
    by_case true e = let same : a ≡ b = eqb-true a b e in absurd (omega (arith, same, h))
    by_case false e = refl

pub only_at : (n : ℕ) (es : List Entry) (i : ℕ) → IsAscending es → i < length es → number_at es i ≡ n → IsOnlyAt n es i
only_at n [] i up h e = absurd (omega (arith, h))
only_at n (x ∷ es) zero up h e = (e, subst (λ m. AreAbove m es) e up.0)
only_at n (x ∷ es) (suc i) up h e =
    (subst (λ m. x.number < m) e (above_at x.number es i up.0 (omega (arith, h))), only_at n es i up.1 (omega (arith, h)) e)

-- ---- what the changes come to

none_removed : (n : ℕ) (es : List Entry) → AreAbove n es → filter (λ k. not (k.number == n)) es ≡ es
none_removed n [] up = refl
none_removed n (x ∷ es) up =
    ap (λ b. cond (not b) (x ∷ filter (λ k. not (k.number == n)) es) (filter (λ k. not (k.number == n)) es)) (differ_up x.number n up.0)
    ∙ ap (λ ys. x ∷ ys) (none_removed n es up.1)

pub removes_only : (n : ℕ) (es : List Entry) (i : ℕ) → IsOnlyAt n es i → filter (λ k. not (k.number == n)) es ≡ remove es i
removes_only n [] i only = absurd only
removes_only n (x ∷ es) zero only =
    ap (λ b. cond (not b) (x ∷ filter (λ k. not (k.number == n)) es) (filter (λ k. not (k.number == n)) es)) (eq-eqb x.number n only.0)
    ∙ none_removed n es only.1
removes_only n (x ∷ es) (suc i) only =
    ap (λ b. cond (not b) (x ∷ filter (λ k. not (k.number == n)) es) (filter (λ k. not (k.number == n)) es)) (differ x.number n only.0)
    ∙ ap (λ ys. x ∷ ys) (removes_only n es i only.1)

pub changes_only : (e : Entry) (es : List Entry) (i : ℕ) → IsOnlyAt e.number es i → with_entry e es ≡ slice_set es i e
changes_only e [] i only = absurd only
changes_only e (x ∷ es) zero only =
    ap (λ b. cond b (e ∷ es) (x ∷ with_entry e es)) (eq-eqb x.number e.number only.0)
changes_only e (x ∷ es) (suc i) only =
    ap (λ b. cond b (e ∷ es) (x ∷ with_entry e es)) (differ x.number e.number only.0)
    ∙ ap (λ ys. x ∷ ys) (changes_only e es i only.1)

pub finds_only : (n : ℕ) (es : List Entry) (i : ℕ) (d : Entry) → IsOnlyAt n es i → entry_at n es ≡ Some (get_or es i d)
finds_only n [] i d only = absurd only
finds_only n (x ∷ es) zero d only = ap (λ b. cond b (Some x) (entry_at n es)) (eq-eqb x.number n only.0)
finds_only n (x ∷ es) (suc i) d only =
    ap (λ b. cond b (Some x) (entry_at n es)) (differ x.number n only.0) ∙ finds_only n es i d only.1

-- ---- where no entry has the number

pub missing_not_removed : (n : ℕ) (es : List Entry) → IsMissing n es → filter (λ k. not (k.number == n)) es ≡ es
missing_not_removed n [] none = refl
missing_not_removed n (x ∷ es) none =
    ap (λ b. cond (not b) (x ∷ filter (λ k. not (k.number == n)) es) (filter (λ k. not (k.number == n)) es)) none.0
    ∙ ap (λ ys. x ∷ ys) (missing_not_removed n es none.1)

pub missing_not_changed : (e : Entry) (es : List Entry) → IsMissing e.number es → with_entry e es ≡ es
missing_not_changed e [] none = refl
missing_not_changed e (x ∷ es) none =
    ap (λ b. cond b (e ∷ es) (x ∷ with_entry e es)) none.0 ∙ ap (λ ys. x ∷ ys) (missing_not_changed e es none.1)

pub missing_not_found : (n : ℕ) (es : List Entry) → IsMissing n es → entry_at n es ≡ None
missing_not_found n [] none = refl
missing_not_found n (x ∷ es) none = ap (λ b. cond b (Some x) (entry_at n es)) none.0 ∙ missing_not_found n es none.1

-- ---- capacity and order stay

AreAbove-remove : (n : ℕ) (es : List Entry) (i : ℕ) → AreAbove n es → AreAbove n (remove es i)
AreAbove-remove n [] zero up = tt
AreAbove-remove n [] (suc i) up = tt
AreAbove-remove n (x ∷ es) zero up = up.1
AreAbove-remove n (x ∷ es) (suc i) up = (up.0, AreAbove-remove n es i up.1)

pub IsAscending-remove : (es : List Entry) (i : ℕ) → IsAscending es → IsAscending (remove es i)
IsAscending-remove [] zero up = tt
IsAscending-remove [] (suc i) up = tt
IsAscending-remove (x ∷ es) zero up = up.1
IsAscending-remove (x ∷ es) (suc i) up = (AreAbove-remove x.number es i up.0, IsAscending-remove es i up.1)

AreAbove-set : (n : ℕ) (e : Entry) (es : List Entry) (i : ℕ) → AreAbove n es → n < e.number → AreAbove n (slice_set es i e)
AreAbove-set n e [] i up h = tt
AreAbove-set n e (x ∷ es) zero up h = (h, up.1)
AreAbove-set n e (x ∷ es) (suc i) up h = (up.0, AreAbove-set n e es i up.1 h)

only_above : (n m : ℕ) (es : List Entry) (i : ℕ) → AreAbove m es → IsOnlyAt n es i → m < n
only_above n m [] i up only = absurd only
only_above n m (x ∷ es) zero up only = subst (λ k. m < k) only.0 up.0
only_above n m (x ∷ es) (suc i) up only = only_above n m es i up.1 only.1

pub IsAscending-set : (e : Entry) (es : List Entry) (i : ℕ) → IsAscending es → IsOnlyAt e.number es i → IsAscending (slice_set es i e)
IsAscending-set e [] i up only = tt
IsAscending-set e (x ∷ es) zero up only = (only.1, up.1)
IsAscending-set e (x ∷ es) (suc i) up only =
    (AreAbove-set x.number e es i up.0 (only_above e.number x.number es i up.0 only.1), IsAscending-set e es i up.1 only.1)

pub length_removed : (n : ℕ) (es : List Entry) (i : ℕ) → IsOnlyAt n es i → length (remove es i) + 1 ≡ length es
length_removed n [] i only = absurd only
length_removed n (x ∷ es) zero only = omega arith
length_removed n (x ∷ es) (suc i) only = let e : length (remove es i) + 1 ≡ length es = length_removed n es i only.1 in omega (arith, e)

-- ---- what a search finds

missing_all : (n : ℕ) (es : List Entry) → ((k : ℕ) → k < length es → (number_at es k == n) ≡ false) → IsMissing n es
missing_all n [] other = tt
missing_all n (x ∷ es) other = (other 0 (omega arith), missing_all n es (λ k h. other (suc k) (omega (arith, h))))

strictly : (a b : ℕ) → a ≤ b → (b ≡ a → ⊥) → a < b
strictly a b h other = by_case (nat_lt a b) refl
  where
    by_case : (c : Bool) → nat_lt a b ≡ c → a < b
    by_case true e = ltb-true a b e
    by_case false e = let g : b ≤ a = ltb-false a b e in absurd (other (omega (arith, h, g)))

-- at the bound stands another number
pub missing_at : (n : ℕ) (es : List Entry) (bound : ℕ) → IsAscending es → IsLowerBound n es bound
    → (bound < length es → (number_at es bound ≡ n) → ⊥) → IsMissing n es
missing_at n es bound up is other = missing_all n es at
  where
    at : (k : ℕ) → k < length es → (number_at es k == n) ≡ false
    at k h = by_case (nat_lt k bound) refl
      where
        by_case : (b : Bool) → nat_lt k bound ≡ b → (number_at es k == n) ≡ false
        by_case true e = differ (number_at es k) n (is.lower k (ltb-true k bound e))
        by_case false e =
            let behind : bound ≤ k = ltb-false k bound e in
            let least : n ≤ number_at es bound = is.others bound (omega arith) (omega (arith, behind, h)) in
            let not_it : (number_at es bound ≡ n) → ⊥ = other (omega (arith, behind, h)) in
            let after : number_at es bound ≤ number_at es k = ascends_at es bound k up behind h in
            differ_up (number_at es k) n (omega (arith, least, after, strictly n (number_at es bound) least not_it))

-- ---- what the halves of a search leave

-- the searched part of the entries, from low to high
pub record IsSearch (n : ℕ) (es : List Entry) (low high : ℕ) : Type 0 where
  pub order : low ≤ high
  pub within : high ≤ length es
  pub lower : (k : ℕ) → k < low → number_at es k < n
  pub others : (k : ℕ) → high ≤ k → k < length es → n ≤ number_at es k

pub upper_half : (n : ℕ) (es : List Entry) (low high mid : ℕ) (d : Entry) → IsAscending es → IsSearch n es low high
    → low ≤ mid → mid < high → (get_or es mid d).number < n → IsSearch n es (mid + 1) high
upper_half n es low high mid d up s a b less = record {
  order = omega (arith, b);
  within = s.within;
  lower = λ k h. below k h;
  others = s.others;
}
  where
    below : (k : ℕ) → k < mid + 1 → number_at es k < n
    below k h =
        let here : number_at es mid ≡ (get_or es mid d).number = number_read es mid d (omega (arith, b, s.within)) in
        let order : number_at es k ≤ number_at es mid = ascends_at es k mid up (omega (arith, h)) (omega (arith, b, s.within)) in
        omega (arith, here, order, less)

pub lower_half : (n : ℕ) (es : List Entry) (low high mid : ℕ) (d : Entry) → IsAscending es → IsSearch n es low high
    → low ≤ mid → mid < high → n ≤ (get_or es mid d).number → IsSearch n es low mid
lower_half n es low high mid d up s a b more = record {
  order = a;
  within = omega (arith, b, s.within);
  lower = s.lower;
  others = λ k h i. above k h i;
}
  where
    above : (k : ℕ) → mid ≤ k → k < length es → n ≤ number_at es k
    above k h i =
        let here : number_at es mid ≡ (get_or es mid d).number = number_read es mid d (omega (arith, b, s.within)) in
        let order : number_at es mid ≤ number_at es k = ascends_at es mid k up h i in
        omega (arith, here, order, more)

-- ---- room

pub room_for_one : (es es' : List Entry) (e : Entry) (room capacity capacity' : ℕ) → es' ≡ es ++ e ∷ [] → capacity' ≡ capacity
    → HasCapacity es room capacity → 0 < room → HasCapacity es' (room - 1) capacity'
room_for_one es es' e room capacity capacity' is same has some =
    let n : length es' ≡ length es + 1 = ap length is ∙ length_push es e in omega (arith, n, same, has, some)

pub room_after : (n : ℕ) (es es' : List Entry) (i room capacity capacity' : ℕ) → es' ≡ remove es i → capacity' ≡ capacity
    → HasCapacity es room capacity → IsOnlyAt n es i → HasCapacity es' (room + 1) capacity'
room_after n es es' i room capacity capacity' is same has only =
    let e : length es' + 1 ≡ length es = ap (λ xs. length xs + 1) is ∙ length_removed n es i only in
    omega (arith, e, same, has)

-- ---- the middle

pub half_is_within : (low high : ℕ) → low < high → low + (high - low) / 2 < high
half_is_within low high h = omega (arith, h)

pub half_is_above : (low high : ℕ) → low ≤ low + (high - low) / 2
half_is_above low high = omega arith
