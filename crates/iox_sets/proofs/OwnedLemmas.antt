-- Free bits beside the owners, after an index is taken and after one is freed.
use Rattle.std.proofs.Common.{◌≡◌, ◌+◌, ◌-◌, ◌<◌, ◌≤◌, ℕ, Bool, true, false, List, ◌∷◌, zero, suc, Option, Some, None, IsSome, is_none, is_some, cond, count_by, length, get_or, map, replicate, set, refl, ap, sym, ◌∙◌, inl, inr, arith, length-set}
use Rattle.std.proofs.lemmas.Bool.{cases_lt, false≢true}
use Rattle.std.proofs.lemmas.List.{get_or-map, get_or_past, get_or-replicate, get_or_default, length-map, length-replicate, map-set, same_lists}
use Rattle.std.proofs.lemmas.List.Sums.{sum_by-set}
use Rattle.iox_sets.specs.BitSets.{lowest, with_bit, without_bit}
use Rattle.iox_sets.specs.FreeBits.{IsIndexed}
use Rattle.iox_sets.specs.IndexSets.{max_capacity}
use Rattle.iox_sets.proofs.BitSetLemmas.{lowest-set}

none_of : (owner : Option ℕ) → is_none owner ≡ true → owner ≡ None
none_of None none = refl
none_of (Some other) none = absurd (false≢true none)

counts_one : (owner : Option ℕ) → IsSome owner → ◌≡◌ {A = ℕ} (cond (is_some owner) 1 0) 1
counts_one None some = cc
counts_one (Some other) some = refl

module _ (owners : List (Option ℕ)) (free : List Bool) (held : ℕ) (locked : Bool) (is : IsIndexed owners free held locked) (index : ℕ) where
  -- a free index is taken for an owner
  module _ (owner : ℕ) (open_set : locked ≡ false) (first : lowest free ≡ Some index) where
    pub taken_within : index < length owners
    taken_within = elim (cases_lt index (length owners)) [
      | inl within ↦ within
      | inr past ↦
          let counted = length-map owners is_none in
          absurd (false≢true (sym (get_or_past (map is_none owners) index false (omega arith))
          ∙ ap (λ bits. get_or bits index false) (sym is.bits) ∙ lowest-set free index first))
    ]

    pub was_none : get_or owners index None ≡ None
    was_none = none_of _ (sym (get_or-map is_none owners index None false taken_within)
        ∙ ap (λ bits. get_or bits index false) (sym is.bits) ∙ lowest-set free index first)

    pub IsIndexed-taken : IsIndexed (set owners index (Some owner)) (without_bit free index) (held + 1) locked
    IsIndexed-taken =
        let size = length-set owners index (Some owner) in
        let some = is.some in
        let few = is.few in
        let counted = is.counted in
        let sums = sum_by-set (λ (o : Option ℕ). cond (is_some o) 1 0) owners index (Some owner) None taken_within in
        let zero_before : ◌≡◌ {A = ℕ} (cond (is_some (get_or owners index None)) 1 0) 0 = rw was_none refl in
        record {
          some = omega arith;
          few = omega arith;
          bits = ap (λ bits. without_bit bits index) is.bits ∙ sym (map-set is_none owners index (Some owner));
          counted = omega arith;
          closed = λ is_locked. absurd (false≢true (sym open_set ∙ is_locked));
        }

  -- a held index is freed
  module _ (was_held : IsSome (get_or owners index None)) where
    pub held_within : index < length owners
    held_within = elim (cases_lt index (length owners)) [
      | inl within ↦ within
      | inr past ↦ let none = get_or_past owners index None past in absurd (none_held (rw none at was_held))
    ]
      where
        none_held : IsSome {T = ℕ} None → ⊥
        none_held some = cc

    pub count_freed : count_by is_some (set owners index None) + 1 ≡ count_by is_some owners
    count_freed =
        let sums = sum_by-set (λ (o : Option ℕ). cond (is_some o) 1 0) owners index None None held_within in
        let one_before = counts_one (get_or owners index None) was_held in
        omega arith

    pub some_counted : 0 < held
    some_counted = let counted = is.counted in let freed = count_freed in omega arith

    pub IsIndexed-freed : IsIndexed (set owners index None) (with_bit free index) (held - 1) locked
    IsIndexed-freed =
        let size = length-set owners index None in
        let some = is.some in
        let few = is.few in
        let counted = is.counted in
        let freed = count_freed in
        record {
          some = omega arith;
          few = omega arith;
          bits = ap (λ bits. with_bit bits index) is.bits ∙ sym (map-set is_none owners index None);
          counted = omega arith;
          closed = λ is_locked. let none = is.closed is_locked in omega arith;
        }

-- a new set: all bits are set, and no index is held
pub IsIndexed-new : (capacity : ℕ) → 0 < capacity → capacity ≤ max_capacity
    → IsIndexed (replicate capacity None) (replicate capacity true) 0 false
IsIndexed-new capacity some few =
    let size = length-replicate {A = Option ℕ} capacity None in
    record {
      some = omega arith;
      few = omega arith;
      bits = all_free capacity;
      counted = none_held capacity;
      closed = λ _. refl;
    }
  where
    all_free : (count : ℕ) → replicate count true ≡ map {A = Option ℕ} is_none (replicate count None)
    all_free zero = refl
    all_free (suc count) = ap (λ bits. true ∷ bits) (all_free count)

    none_held : (count : ℕ) → 0 ≡ count_by {X = Option ℕ} is_some (replicate count None)
    none_held zero = refl
    none_held (suc count) = let rest = none_held count in omega arith

pub all_set : (bits : List Bool) (count : ℕ) → length bits ≡ count → ((id : ℕ) → id < count → get_or bits id false ≡ true)
    → bits ≡ replicate count true
all_set bits count size each =
    let counted = length-replicate count true in
    same_lists bits _ (omega arith) (λ id default below.
    let within : id < count = omega arith in
    get_or_default bits id default false below ∙ each id within ∙ sym (get_or-replicate count id true default within))
