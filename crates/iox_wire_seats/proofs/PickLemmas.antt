-- What is free is unused and stands once, whatever is lent and given back.
use Rattle.std.proofs.Common.{◌≡◌, ℕ, zero, suc, ◌+◌, ◌<◌, ◌≤◌, ◌==◌, ◌||◌, Bool, true, false, cond, List, [], ◌∷◌, ◌++◌, replicate, length, not, get_or, set, slice_index, slice_set, refl, ap, sym, subst, ◌∙◌, arith, true≢false, eqb-true}
use Rattle.iox_laws.proofs.WeaveLaws.MapLemmas.{eqb-refl}
use Rattle.std.proofs.Common.{Result, Ok, Err}
use Rattle.std.specs.Result.{is_err, is_ok}
use Rattle.std.specs.Prelude.{if◌then◌else◌, Some, None, nat_lt, position}
use Rattle.std.specs.List.{range_with_len, remove, prefix_len, count_by}
use Rattle.std.proofs.lemmas.Bool.{ltb-false}
use Rattle.std.proofs.lemmas.List.Quantifiers.{position-Some}
use Rattle.std.proofs.lemmas.List.Sums.{sum_by-set}
use Rattle.iox_wire_seats.proofs.CountLemmas.{some-none}
use Rattle.iox_wire_seats.proofs.SlotLemmas.{within, not_zero, one_more}
use Rattle.std.proofs.lemmas.List.{length-append, length-set, get_or-set_other, get_or-set_same, length-replicate, get_or-replicate}
use Rattle.iox_model.specs.Maps.{has_number, without_number, AreDistinct}
use Rattle.iox_wire_seats.proofs.RowLemmas.{differ_up}
use Rattle.iox_wire_seats.specs.Slots.{IsUnused, AreUnused, MayBePicked, AreFreeSlots}

-- two that differ, the other way round
turned : (a b : ℕ) → (a == b) ≡ false → (b == a) ≡ false
turned a b is = by_case (b == a) refl
  where
    by_case : (t : Bool) → (b == a) ≡ t → t ≡ false
    by_case true e = absurd (true≢false (sym (subst (λ k. (k == b) ≡ true) (eqb-true b a e) (eqb-refl b)) ∙ is))
    by_case false e = refl

-- what is in use is not free
pub used_not_free : (uses free : List ℕ) (slot : ℕ) → 0 < slice_index uses slot → AreUnused uses free → has_number slot free ≡ false
used_not_free uses [] slot h are = refl
used_not_free uses (s ∷ free) slot h are = by_case (s == slot) refl (used_not_free uses free slot h are.1)
  where
    by_case : (t : Bool) → (s == slot) ≡ t → has_number slot free ≡ false → has_number slot (s ∷ free) ≡ false
    by_case true is rest =
        let none : slice_index uses slot ≡ 0 = subst (λ k. slice_index uses k ≡ 0) (eqb-true s slot is) are.0.1 in
        absurd (omega (arith, none, h))
    by_case false is rest = ap (λ t. t || has_number slot free) is ∙ rest

-- another slot may have any uses
pub unused_others : (uses free : List ℕ) (slot n : ℕ) → has_number slot free ≡ false → AreUnused uses free → AreUnused (slice_set uses slot n) free
unused_others uses [] slot n other are = tt
unused_others uses (s ∷ free) slot n other are =
    by_case (s == slot) refl other (λ miss. unused_others uses free slot n miss are.1)
  where
    by_case : (t : Bool) → (s == slot) ≡ t → (t || has_number slot free) ≡ false
        → (has_number slot free ≡ false → AreUnused (slice_set uses slot n) free) → AreUnused (slice_set uses slot n) (s ∷ free)
    by_case true is hit rest = absurd (true≢false hit)
    by_case false is miss rest =
        let same : length (set uses slot n) ≡ length uses = length-set uses slot n in
        let within : s < length (slice_set uses slot n) = omega (arith, same, are.0.0) in
        ((within, get_or-set_other uses slot s n 0 (λ e. true≢false (sym (ap (λ k. k == slot) e ∙ eqb-refl slot) ∙ is)) ∙ are.0.1), rest miss)

-- a slot without a use joins them
pub unused_push : (uses free : List ℕ) (slot : ℕ) → AreUnused uses free → IsUnused uses slot → AreUnused uses (free ++ slot ∷ [])
unused_push uses [] slot are is = (is, tt)
unused_push uses (s ∷ free) slot are is = (are.0, unused_push uses free slot are.1 is)

has_push : (free : List ℕ) (slot k : ℕ) → has_number k free ≡ false → (slot == k) ≡ false → has_number k (free ++ slot ∷ []) ≡ false
has_push [] slot k no_one other = ap (λ t. t || false) other
has_push (s ∷ free) slot k no_one other = by_case (s == k) refl no_one (λ miss. has_push free slot k miss other)
  where
    by_case : (t : Bool) → (s == k) ≡ t → (t || has_number k free) ≡ false
        → (has_number k free ≡ false → has_number k (free ++ slot ∷ []) ≡ false) → has_number k (s ∷ free ++ slot ∷ []) ≡ false
    by_case true is hit rest = absurd (true≢false hit)
    by_case false is miss rest = ap (λ t. t || has_number k (free ++ slot ∷ [])) is ∙ rest miss

pub distinct_push : (free : List ℕ) (slot : ℕ) → AreDistinct free → has_number slot free ≡ false → AreDistinct (free ++ slot ∷ [])
distinct_push [] slot apart no_one = (refl, tt)
distinct_push (s ∷ free) slot apart no_one = by_case (s == slot) refl no_one (distinct_push free slot apart.1)
  where
    by_case : (t : Bool) → (s == slot) ≡ t → (t || has_number slot free) ≡ false
        → (has_number slot free ≡ false → AreDistinct (free ++ slot ∷ [])) → AreDistinct (s ∷ free ++ slot ∷ [])
    by_case true is hit rest = absurd (true≢false hit)
    by_case false is miss rest = (has_push free slot s apart.0 (turned s slot is), rest miss)

-- ---- what each change keeps

pub kept_if_used : (uses free : List ℕ) (slot n : ℕ) → 0 < slice_index uses slot → MayBePicked uses free → MayBePicked (slice_set uses slot n) free
kept_if_used uses free slot n h may = (unused_others uses free slot n (used_not_free uses free slot h may.0) may.0, may.1)

pub kept_if_freed : (uses free : List ℕ) (slot : ℕ) → slot < length uses → 0 < slice_index uses slot → MayBePicked uses free
    → MayBePicked (slice_set uses slot 0) (free ++ slot ∷ [])
kept_if_freed uses free slot within h may =
    let other : has_number slot free ≡ false = used_not_free uses free slot h may.0 in
    let same : length (set uses slot 0) ≡ length uses = length-set uses slot 0 in (
      unused_push (slice_set uses slot 0) free slot (unused_others uses free slot 0 other may.0) (omega (arith, same, within), get_or-set_same uses slot 0 0 within),
      distinct_push free slot may.1 other,
    )

pub kept_if_picked : (uses free : List ℕ) (slot : ℕ) → MayBePicked uses (slot ∷ free) → MayBePicked (slice_set uses slot 1) free
kept_if_picked uses free slot may = (unused_others uses free slot 1 may.1.0 may.0.1, may.1.1)

-- ---- a new desk

unused_from : (pool k n : ℕ) → k + n ≤ pool → AreUnused (replicate pool 0) (range_with_len k n)
unused_from pool k zero h = tt
unused_from pool k (suc n) h =
    let same : length {A = ℕ} (replicate pool 0) ≡ pool = length-replicate pool 0 in
    ((omega (arith, same, h), get_or-replicate pool k 0 0 (omega (arith, h))), unused_from pool (k + 1) n (omega (arith, h)))

not_before : (j k n : ℕ) → j < k → has_number j (range_with_len k n) ≡ false
not_before j k zero h = refl
not_before j k (suc n) h = ap (λ t. t || has_number j (range_with_len (k + 1) n)) (differ_up k j h) ∙ not_before j (k + 1) n (omega (arith, h))

distinct_from : (k n : ℕ) → AreDistinct (range_with_len k n)
distinct_from k zero = tt
distinct_from k (suc n) = (not_before k (k + 1) n (omega arith), distinct_from (k + 1) n)

pub all_pickable : (uses free : List ℕ) (pool : ℕ) → uses ≡ replicate pool 0 → free ≡ range_with_len 0 pool → MayBePicked uses free
all_pickable uses free pool u f =
    subst (λ xs. MayBePicked xs free) (sym u) (subst (λ xs. MayBePicked (replicate pool 0) xs) (sym f) (unused_from pool 0 pool (omega arith), distinct_from 0 pool))

-- ---- a lane is taken

pub taken_at : (n : ℕ) (ns : List ℕ) (i : ℕ) → i < length ns → (get_or ns i 0 == n) ≡ true
    → ((k : ℕ) → k < i → (get_or ns k 0 == n) ≡ false) → remove ns i ≡ without_number n ns
taken_at n [] i h is first = absurd (omega (arith, h))
taken_at n (m ∷ ns) zero h is first = sym (ap (λ t. cond t ns (m ∷ without_number n ns)) is)
taken_at n (m ∷ ns) (suc i) h is first =
    ap (λ xs. m ∷ xs) (taken_at n ns i (omega (arith, h)) is (λ k j. first (suc k) (omega (arith, j))))
    ∙ sym (ap (λ t. cond t ns (m ∷ without_number n ns)) (first 0 (omega arith)))

pub taken_where : (n : ℕ) (ns : List ℕ) (i : ℕ) → Some i ≡ position (λ k. k == n) ns → remove ns i ≡ without_number n ns
taken_where n ns i at =
    let facts = position-Some (λ (k : ℕ). k == n) ns i 0 (sym at) in taken_at n ns i facts.0 facts.1 facts.2

pub within_where : (n : ℕ) (ns : List ℕ) (i : ℕ) → Some i ≡ position (λ k. k == n) ns → i < length ns
within_where n ns i at = (position-Some (λ (k : ℕ). k == n) ns i 0 (sym at)).0

stays_from : (n : ℕ) (ns : List ℕ) → length ns ≤ prefix_len (λ k. not (k == n)) ns → ns ≡ without_number n ns
stays_from n [] h = refl
stays_from n (m ∷ ns) h = by_case (m == n) refl h (stays_from n ns)
  where
    by_case : (t : Bool) → (m == n) ≡ t → suc (length ns) ≤ cond (not t) (1 + prefix_len (λ k. not (k == n)) ns) 0
        → (length ns ≤ prefix_len (λ k. not (k == n)) ns → ns ≡ without_number n ns) → m ∷ ns ≡ without_number n (m ∷ ns)
    by_case true is h rest = absurd (omega (arith, h))
    by_case false is h rest = ap (λ xs. m ∷ xs) (rest (omega (arith, h))) ∙ sym (ap (λ t. cond t ns (m ∷ without_number n ns)) is)

pub none_taken : (n : ℕ) (ns : List ℕ) → position (λ k. k == n) ns ≡ None → ns ≡ without_number n ns
none_taken n ns e = by_case (nat_lt (prefix_len (λ k. not (k == n)) ns) (length ns)) refl e
  where
    by_case : (t : Bool) → nat_lt (prefix_len (λ k. not (k == n)) ns) (length ns) ≡ t
        → cond t (Some (prefix_len (λ k. not (k == n)) ns)) None ≡ None → ns ≡ without_number n ns
    by_case true is none = absurd (some-none none)
    by_case false is none = stays_from n ns (ltb-false _ _ is)

-- ---- a desk whose first free slot is picked

pub fewer_free : (uses free : List ℕ) (slot capacity : ℕ) → AreFreeSlots uses (slot ∷ free) capacity → MayBePicked uses (slot ∷ free)
    → AreFreeSlots (slice_set uses slot 1) free capacity
fewer_free uses free slot capacity is may =
    let e : count_by (λ n. n == 0) (set uses slot 1) + cond (get_or uses slot 0 == 0) 1 0 ≡ count_by (λ n. n == 0) uses + 0 =
    sum_by-set (λ (n : ℕ). cond (n == 0) 1 0) uses slot 1 0 may.0.0.0 in
    let z : ◌≡◌ {A = ℕ} (cond (get_or uses slot 0 == 0) 1 0) 1 = ap (λ (n : ℕ). cond {A = ℕ} (n == 0) 1 0) may.0.0.1 in
    let same : length (set uses slot 1) ≡ length uses = length-set uses slot 1 in
    record { count = omega (arith, e, z, is.count); room = omega (arith, same, is.room) }

-- ---- a desk one of whose slots keeps a use

pub still_free : (uses free : List ℕ) (slot n capacity : ℕ) → 0 < n → 0 < slice_index uses slot → AreFreeSlots uses free capacity
    → AreFreeSlots (slice_set uses slot n) free capacity
still_free uses free slot n capacity some h is =
    let e : count_by (λ k. k == 0) (set uses slot n) + cond (get_or uses slot 0 == 0) 1 0 ≡ count_by (λ k. k == 0) uses + cond (n == 0) 1 0 =
    sum_by-set (λ (k : ℕ). cond (k == 0) 1 0) uses slot n 0 (within uses slot h) in
    let z : ◌≡◌ {A = ℕ} (cond (get_or uses slot 0 == 0) 1 0) 0 = not_zero (get_or uses slot 0) h in
    let y : ◌≡◌ {A = ℕ} (cond (n == 0) 1 0) 0 = not_zero n some in
    let same : length (set uses slot n) ≡ length uses = length-set uses slot n in
    record { count = omega (arith, e, z, y, is.count); room = omega (arith, same, is.room) }

pub one_more_free : (uses free : List ℕ) (slot capacity : ℕ) → 0 < slice_index uses slot → AreFreeSlots uses free capacity
    → AreFreeSlots (slice_set uses slot 0) (free ++ slot ∷ []) capacity
one_more_free uses free slot capacity h is =
    let more : count_by (λ n. n == 0) (set uses slot 0) ≡ count_by (λ n. n == 0) uses + 1 = one_more uses slot h in
    let long : length (free ++ slot ∷ []) ≡ length free + 1 = length-append free (slot ∷ []) in
    let same : length (set uses slot 0) ≡ length uses = length-set uses slot 0 in
    record { count = omega (arith, more, long, is.count); room = omega (arith, same, is.room) }

pub more_room : (uses free : List ℕ) (capacity more : ℕ) → capacity ≤ more → AreFreeSlots uses free capacity → AreFreeSlots uses free more
more_room uses free capacity more h is = record { count = is.count; room = omega (arith, is.room, h) }

pub on_ok : {A E X : Type 0} (r : Result A E) (a b : X) → is_err r ≡ false → (if is_ok r then a else b) ≡ a
on_ok (Ok x) a b e = refl
on_ok (Err x) a b e = absurd (true≢false e)
