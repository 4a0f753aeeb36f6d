-- A slot in use is not free, so there is room to free it.
use Rattle.std.proofs.Common.{◌≡◌, ℕ, ◌+◌, ◌<◌, ◌≤◌, ◌==◌, Bool, true, false, cond, List, [], ◌∷◌, ◌++◌, ◌*◌, replicate, length, get_or, set, slice_index, refl, ap, sym, ◌∙◌, arith, Result, Ok, Err, IsOk, true≢false}
use Rattle.std.specs.List.{count_by}
use Rattle.std.specs.Result.{is_err}
use Rattle.std.specs.Prelude.{nat_lt}
use Rattle.std.proofs.lemmas.Bool.{ltb-true, ltb-false}
use Rattle.std.proofs.lemmas.List.{length-set, get_or_past}
use Rattle.std.proofs.lemmas.List.Sums.{sum_by-set, count_by-le-length}
use Rattle.iox_wire_seats.proofs.RowLemmas.{differ_up}
use Rattle.std.proofs.lemmas.List.{length-replicate, map-id}
use Rattle.std.proofs.lemmas.List.Folds.{sum_by-replicate}
use Rattle.std.proofs.lemmas.List.FromFn.{length-range_with_len, map-range_with_len_more}
use Rattle.std.specs.List.{range_with_len}
use Rattle.iox_wire_seats.specs.Slots.{AreFreeSlots, HasRoomForLanes}

pub within : (uses : List ℕ) (slot : ℕ) → 0 < slice_index uses slot → slot < length uses
within uses slot h = by_case (nat_lt slot (length uses)) refl
  where
    by_case : (t : Bool) → nat_lt slot (length uses) ≡ t → slot < length uses
    by_case true e = ltb-true _ _ e
    by_case false e = let past : get_or uses slot 0 ≡ 0 = get_or_past uses slot 0 (ltb-false _ _ e) in absurd (omega (arith, past, h))

pub not_zero : (n : ℕ) → 0 < n → ◌≡◌ {A = ℕ} (cond (n == 0) 1 0) 0
not_zero n h = ap (λ (b : Bool). cond {A = ℕ} b 1 0) (differ_up n 0 h)

pub one_more : (uses : List ℕ) (slot : ℕ) → 0 < slice_index uses slot
    → count_by (λ n. n == 0) (set uses slot 0) ≡ count_by (λ n. n == 0) uses + 1
one_more uses slot h =
    let e : count_by (λ n. n == 0) (set uses slot 0) + cond (get_or uses slot 0 == 0) 1 0 ≡ count_by (λ n. n == 0) uses + 1 =
    sum_by-set (λ (n : ℕ). cond (n == 0) 1 0) uses slot 0 0 (within uses slot h) in
    let z : ◌≡◌ {A = ℕ} (cond (get_or uses slot 0 == 0) 1 0) 0 = not_zero (get_or uses slot 0) h in
    omega (arith, e, z)

pub room_to_free : (uses free : List ℕ) (slot capacity : ℕ) → AreFreeSlots uses free capacity → 0 < slice_index uses slot
    → length free < capacity
room_to_free uses free slot capacity is h =
    let most : count_by (λ n. n == 0) (set uses slot 0) ≤ length (set uses slot 0) = count_by-le-length (λ (n : ℕ). n == 0) (set uses slot 0) in
    let more : count_by (λ n. n == 0) (set uses slot 0) ≡ count_by (λ n. n == 0) uses + 1 = one_more uses slot h in
    let same : length (set uses slot 0) ≡ length uses = length-set uses slot 0 in
    omega (arith, most, more, same, is.count, is.room)

pub not_both : {A E : Type 0} (r : Result A E) → IsOk r → is_err r ≡ true → ⊥
not_both (Ok a) ok e = true≢false (sym e)
not_both (Err x) ok e = true≢false (sym ok)

-- ---- a new desk

pub numbers_more : (n : ℕ) → range_with_len 0 (n + 1) ≡ range_with_len 0 n ++ n ∷ []
numbers_more n =
    sym (map-id (range_with_len 0 (n + 1))) ∙ map-range_with_len_more (λ (k : ℕ). k) 0 n n (omega arith)
    ∙ ap (λ (ks : List ℕ). ks ++ n ∷ []) (map-id (range_with_len 0 n))

pub all_free : (uses free : List ℕ) (pool capacity : ℕ) → uses ≡ replicate pool 0 → free ≡ range_with_len 0 pool → pool ≤ capacity
    → AreFreeSlots uses free capacity
all_free uses free pool capacity u f room =
    let a : length free ≡ pool = ap length f ∙ length-range_with_len 0 pool in
    let b : count_by (λ n. n == 0) uses ≡ pool * 1 = ap (count_by (λ n. n == 0)) u ∙ sum_by-replicate (λ (n : ℕ). cond (n == 0) 1 0) pool 0 in
    let d : length uses ≡ pool = ap length u ∙ length-replicate pool 0 in
    record { count = omega (arith, a, b); room = omega (arith, d, room) }

pub lanes_fit : (uses : List ℕ) (pool capacity : ℕ) → uses ≡ replicate pool 0 → pool ≤ capacity → HasRoomForLanes uses capacity
lanes_fit uses pool capacity u room =
    let d : length uses ≡ pool = ap length u ∙ length-replicate pool 0 in omega (arith, d, room)
