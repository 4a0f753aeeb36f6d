-- Free indices in their places: at first, after one is taken, and after one is given back.
use Rattle.std.proofs.Common.{◌≡◌, ◌≢◌, ◌+◌, ◌-◌, ◌<◌, ◌≤◌, ℕ, zero, suc, Bool, true, false, List, [], ◌∷◌, Contains, length, get_or}
use Rattle.std.proofs.Common.{set, drop, take, reverse, nat_eq, refl, ap, ap₂, sym, subst, ◌∙◌, inl, inr, arith, length-set}
use Rattle.std.specs.List.{range_with_len}
use Rattle.std.specs.Cmp.{nat_eq_equiv}
use Rattle.std.proofs.lemmas.Bool.{cases_Bool, false≢true, ne_eqb}
use Rattle.std.proofs.lemmas.Bool.Decides.{Decides-eqb}
use Rattle.std.proofs.lemmas.List.{get_or_default, length-reverse, length-take-le, reverse-append, reverse-reverse, take_all, take_more, take_more_set}
use Rattle.std.proofs.lemmas.List.FromFn.{length-range_with_len, get_or-range_with_len}
use Rattle.std.proofs.lemmas.Map.Keys.{IsDistinct-from_apart}
use Rattle.std.proofs.lemmas.Map.Made.{length-le_from_is_member, is_member-Decides}
use Rattle.iox_sets.specs.declared.mpmc.unique_index_set_enums.ReleaseMode.{ReleaseMode}
use Rattle.iox_sets.specs.declared.mpmc.unique_index_set_enums.ReleaseMode.TheVariants.{LockIfLastIndex, Default}
use Rattle.iox_sets.specs.declared.mpmc.unique_index_set_enums.ReleaseState.{ReleaseState}
use Rattle.iox_sets.specs.IndexSets.{IsHeld, Takes, held_count, is_locked, max_capacity, new_index_set, state_after, with_released}
use Rattle.iox_sets.specs.FreeLists.{AreIndexPlaces, IsFreeList, free_in_places, set_in_places}

module _ (capacity index : ℕ) (free : List ℕ) where
  -- what is left where the first free index is taken
  IsFreeList-tail : IsFreeList capacity (index ∷ free) → IsFreeList capacity free
  IsFreeList-tail is_free = record {
    below = λ k within. is_free.below (suc k) (omega arith);
    distinct = λ i j default before within. is_free.distinct (suc i) (suc j) default (omega arith) (omega arith);
  }

  IsFreeList-head : IsFreeList capacity (index ∷ free) → (index < capacity) × ¬ Contains free index
  IsFreeList-head is_free =
      (is_free.below 0 (omega arith), λ there. is_free.distinct 0 (suc there.0) index (omega arith) (let within = there.1 in omega arith) (sym there.2))

  -- and where an index that is not free is put before them
  module _ (small : index < capacity) (new : ¬ Contains free index) (is_free : IsFreeList capacity free) where
    below_cons : (k : ℕ) → k < suc (length free) → get_or (index ∷ free) k 0 < capacity
    below_cons zero within = small
    below_cons (suc k) within = is_free.below k (omega arith)

    distinct_cons : (i j default : ℕ) → i < j → j < suc (length free) → get_or (index ∷ free) i default ≢ get_or (index ∷ free) j default
    distinct_cons zero zero default before within = absurd (omega arith)
    distinct_cons (suc i) zero default before within = absurd (omega arith)
    distinct_cons zero (suc j) default before within =
        λ same. new (j, omega arith, get_or_default free j index default (omega arith) ∙ sym same)
    distinct_cons (suc i) (suc j) default before within = is_free.distinct i j default (omega arith) (omega arith)

    IsFreeList-cons : IsFreeList capacity (index ∷ free)
    IsFreeList-cons = record { below = below_cons; distinct = distinct_cons }

-- the numbers below a bound
IsFreeList-range : (capacity : ℕ) → IsFreeList capacity (range_with_len 0 capacity)
IsFreeList-range capacity =
    let counted = length-range_with_len 0 capacity in
    record {
      below = λ k within. let is = get_or-range_with_len 0 capacity k 0 (omega arith) in omega arith;
      distinct = λ i j default before within same.
          let first = get_or-range_with_len 0 capacity i default (omega arith) in
          let second = get_or-range_with_len 0 capacity j default (omega arith) in
          omega arith;
    }

-- different numbers below a bound are at most so many
length-distinct : (capacity : ℕ) (free : List ℕ) → IsFreeList capacity free → length free ≤ capacity
length-distinct capacity free is_free =
    let counted = length-range_with_len 0 capacity in
    let few = length-le_from_is_member nat_eq_equiv free (range_with_len 0 capacity)
    (IsDistinct-from_apart nat_eq free (λ i j default before below. ne_eqb _ _ (is_free.distinct i j default before below)))
    (λ index among. (is_member-Decides Decides-eqb (range_with_len 0 capacity) index).1 (
    let there = (is_member-Decides Decides-eqb free index).0 among in
    let at : get_or free there.0 0 ≡ index = get_or_default free there.0 0 index there.1 ∙ there.2 in
    let small : index < capacity = (let below = is_free.below there.0 there.1 in omega arith) in
    (index, (omega arith), get_or-range_with_len 0 capacity index index small ∙ omega arith))) in
    omega arith

-- the next free index stands in the last of the first `free` places
module _ (places : List ℕ) (free : ℕ) where
  reverse-take : (default : ℕ) → 0 < free → free ≤ length places
      → reverse (take free places) ≡ get_or places (free - 1) default ∷ reverse (take (free - 1) places)
  reverse-take default some fits =
      let one_more : free ≡ free - 1 + 1 = omega arith in
      ap (λ n. reverse (take n places)) one_more
      ∙ ap reverse (take_more places (free - 1) default (omega arith))
      ∙ reverse-append (take (free - 1) places) (get_or places (free - 1) default ∷ [])

  -- and one that is stored behind them is the next
  reverse-take-set : (index : ℕ) → free < length places → reverse (take (free + 1) (set places free index)) ≡ index ∷ reverse (take free places)
  reverse-take-set index room = ap reverse (take_more_set places free index room) ∙ reverse-append (take free places) (index ∷ [])

-- the next free index is taken
module _ (places : List ℕ) (free index : ℕ) (some : 0 < free) (read : index ≡ get_or places (free - 1) index) where
  next : free ≤ length places → reverse (take free places) ≡ index ∷ reverse (take (free - 1) places)
  next fits = reverse-take places free index some fits ∙ ap (λ first. first ∷ reverse (take (free - 1) places)) (sym read)

  first_once : AreIndexPlaces places free false → IsFreeList (length places) (index ∷ reverse (take (free - 1) places))
  first_once are = subst (IsFreeList (length places)) (next are.fits) are.once

  pub AreIndexPlaces-taken : (locked : Bool) → AreIndexPlaces places free locked → AreIndexPlaces places (free - 1) locked
  AreIndexPlaces-taken true are = let none = are.none refl in absurd (omega arith)
  AreIndexPlaces-taken false are =
      let fits = are.fits in
      record {
        some = are.some;
        few = are.few;
        fits = omega arith;
        none = λ closed. absurd (false≢true closed);
        once = IsFreeList-tail (length places) index (reverse (take (free - 1) places)) (first_once are);
      }

  pub Takes-next : (locked : Bool) → AreIndexPlaces places free locked
      → Takes (set_in_places places free locked) index (set_in_places places (free - 1) locked)
  Takes-next true are = let none = are.none refl in absurd (omega arith)
  Takes-next false are = record {
    unlocked = refl;
    next = next are.fits;
    left = ap (λ rest. record { capacity = length places; free = drop 1 rest; locked = false }) (sym (next are.fits));
    held = IsFreeList-head (length places) index (reverse (take (free - 1) places)) (first_once are);
  }

-- a held index is given back
module _ (places : List ℕ) (free : ℕ) (locked : Bool) (are : AreIndexPlaces places free locked)
    (index : ℕ) (is_held : IsHeld (set_in_places places free locked) index) where
  once_again : IsFreeList (length places) (index ∷ free_in_places places free locked)
  once_again = IsFreeList-cons (length places) index (free_in_places places free locked) is_held.0 is_held.1 are.once

  not_all : length (free_in_places places free locked) < length places
  not_all = length-distinct (length places) (index ∷ free_in_places places free locked) once_again

  pub unlocked : locked ≡ false
  unlocked = elim (cases_Bool locked) [
    | inl closed ↦ (
        let all = ap (λ l. length (free_in_places places free l)) closed ∙ length-reverse places in
        let some = not_all in
        absurd (omega arith))
    | inr open_set ↦ open_set
  ]

  in_open : free_in_places places free locked ≡ reverse (take free places)
  in_open = ap (free_in_places places free) unlocked

  counted : length (free_in_places places free locked) ≡ free
  counted = ap length in_open ∙ length-reverse (take free places) ∙ length-take-le free places are.fits

  pub room : free < length places
  room = let some = not_all in let all = counted in omega arith

  -- how many are held then
  pub held_after : length places - (free + 1) ≡ held_count (set_in_places places free locked) - 1
  held_after = let all = counted in omega arith

  first : reverse (take (free + 1) (set places free index)) ≡ index ∷ free_in_places places free locked
  first = reverse-take-set places free index room ∙ ap (λ rest. index ∷ rest) (sym in_open)

  pub AreIndexPlaces-released : AreIndexPlaces (set places free index) (free + 1) locked
  AreIndexPlaces-released = subst (AreIndexPlaces (set places free index) (free + 1)) (sym unlocked) (
      let stored = length-set places free index in
      let few = are.few in
      let some = are.some in
      let fits = room in
      record {
        some = omega arith;
        few = omega arith;
        fits = omega arith;
        none = λ closed. absurd (false≢true closed);
        once = rw (first, stored) once_again;
      })

  pub set_in_places-released : (state : ReleaseState) → is_locked state ≡ false
      → set_in_places (set places free index) (free + 1) locked ≡ with_released (set_in_places places free locked) index state
  set_in_places-released state stays =
      ap (set_in_places (set places free index) (free + 1)) unlocked
      ∙ rw (stays) (ap₂ (λ (n : ℕ) (rest : List ℕ). record { capacity = n; free = rest; locked = false }) (length-set places free index) first)

  -- it was the last that was held, and the set is locked
  module _ (last : length places ≡ free + 1) where
    all : reverse (set places free index) ≡ index ∷ free_in_places places free locked
    all =
        let stored = length-set places free index in
        ap reverse (sym (take_all (free + 1) (set places free index) (omega arith))) ∙ first

    pub AreIndexPlaces-locked : AreIndexPlaces (set places free index) 0 true
    AreIndexPlaces-locked =
        let stored = length-set places free index in
        let few = are.few in
        let some = are.some in
        record {
          some = omega arith;
          few = omega arith;
          fits = omega arith;
          none = λ closed. refl;
          once = rw (all, stored) once_again;
        }

    pub set_in_places-locked : (state : ReleaseState) → is_locked state ≡ true
        → set_in_places (set places free index) 0 true ≡ with_released (set_in_places places free locked) index state
    set_in_places-locked state locks =
        rw (locks) (ap₂ (λ (n : ℕ) (rest : List ℕ). record { capacity = n; free = rest; locked = true }) (length-set places free index) all)

-- a new set
module _ (capacity : ℕ) where
  reverse-new : (places : List ℕ) → places ≡ reverse (range_with_len 0 capacity)
      → (length places ≡ capacity) × (reverse (take capacity places) ≡ range_with_len 0 capacity)
  reverse-new places is =
      let counted : length places ≡ capacity = ap length is ∙ length-reverse (range_with_len 0 capacity) ∙ length-range_with_len 0 capacity in
      (counted, ap reverse (take_all capacity places (omega arith) ∙ is) ∙ reverse-reverse (range_with_len 0 capacity))

  module _ (places : List ℕ) (is : places ≡ reverse (range_with_len 0 capacity)) where
    pub AreIndexPlaces-new : 0 < capacity → capacity ≤ max_capacity → AreIndexPlaces places capacity false
    AreIndexPlaces-new some few =
        let counted = (reverse-new places is).0 in
        record {
          some = omega arith;
          few = omega arith;
          fits = omega arith;
          none = λ closed. absurd (false≢true closed);
          once = rw ((reverse-new places is).1, counted) (IsFreeList-range capacity);
        }

    pub set_in_places-new : set_in_places places capacity false ≡ new_index_set capacity
    set_in_places-new =
        ap₂ (λ (n : ℕ) (rest : List ℕ). record { capacity = n; free = rest; locked = false }) (reverse-new places is).0 (reverse-new places is).1

-- which modes and counts lock
pub closed-state_after : (mode : ReleaseMode) (held : ℕ) → is_locked (state_after mode held) ≡ true → held ≡ 0
closed-state_after LockIfLastIndex zero locks = refl
closed-state_after LockIfLastIndex (suc held) locks = absurd (false≢true locks)
closed-state_after Default held locks = absurd (false≢true locks)
