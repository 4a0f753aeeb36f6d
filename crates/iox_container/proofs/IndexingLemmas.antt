-- The set of indices beside the slots: new, and after a slot has changed.
use Rattle.std.proofs.Common.{◌≡◌, ◌+◌, ◌<◌, ◌≤◌, ℕ, zero, suc, List, ◌∷◌, Option, Some, None, IsSome, is_some, cond, count_by, length, get_or, map, replicate, set, refl, ap, sym, subst, ◌∙◌, inl, inr, arith, length-set}
use Rattle.std.specs.Option.{option_map}
use Rattle.std.proofs.lemmas.Bool.{cases_lt}
use Rattle.std.proofs.lemmas.Bool.Decides.{nat_tests}
use Rattle.std.proofs.lemmas.List.{get_or-map, get_or_past, length-map, length-replicate, map-set}
use Rattle.std.proofs.lemmas.List.Sums.{sum_by-set}
use Rattle.iox_sets.specs.IndexSets.{capacity_refusal, max_capacity}
use Rattle.iox_container.specs.declared.mpmc.container.entries.Entry.{Entry}
use Rattle.iox_container.specs.Indexing.{IsIndexed}

pub capacity_within : (capacity : ℕ) → capacity_refusal capacity ≡ None → capacity ≤ max_capacity
capacity_within capacity allowed = grind (arith, nat_tests)

module _ {T : Type 0} where
  abbrev owner : Option (Entry T) → Option ℕ
  owner slot = option_map (λ entry. entry.owner) slot

  pub IsIndexed-new : (capacity : ℕ) → capacity ≤ max_capacity
      → IsIndexed {T = T} (replicate capacity None) (replicate capacity None)
  IsIndexed-new capacity few =
      let size = length-replicate {A = Option (Entry T)} capacity None in
      record { owned = all_free capacity; few = omega arith }
    where
      all_free : (count : ℕ) → replicate count None ≡ map owner (replicate count None)
      all_free zero = refl
      all_free (suc count) = ap (λ (held : List (Option ℕ)). None ∷ held) (all_free count)

  module _ (slots : List (Option (Entry T))) (held : List (Option ℕ)) (is : IsIndexed slots held) (index : ℕ) where
    pub IsIndexed-set : (slot : Option (Entry T)) → IsIndexed (set slots index slot) (set held index (owner slot))
    IsIndexed-set slot =
        let size = length-set slots index slot in
        let few = is.few in
        record {
          owned = ap (λ owners. set owners index (owner slot)) is.owned ∙ sym (map-set owner slots index slot);
          few = omega arith;
        }

    -- there are as many slots as indices
    pub same_size : length held ≡ length slots
    same_size = ap length is.owned ∙ length-map slots owner

    -- where an index is free, its slot is
    pub free_slot : get_or held index None ≡ None → get_or slots index None ≡ None
    free_slot free = elim (cases_lt index (length slots)) [
      | inl within ↦ none_of (get_or slots index None)
          (sym (get_or-map owner slots index None None within) ∙ ap (λ owners. get_or owners index None) (sym is.owned) ∙ free)
      | inr past ↦ get_or_past slots index None past
    ]
      where
        none_of : (slot : Option (Entry T)) → owner slot ≡ None → slot ≡ None
        none_of None none = refl
        none_of (Some entry) none = cc

    -- a slot that has an entry is one of them, and its index is held
    module _ (has : IsSome (get_or slots index None)) where
      pub slot_within : index < length slots
      slot_within = elim (cases_lt index (length slots)) [
        | inl within ↦ within
        | inr past ↦ absurd (none_has (subst IsSome (get_or_past slots index None past) has))
      ]
        where
          none_has : IsSome {T = Entry T} None → ⊥
          none_has some = cc

      pub index_held : IsSome (get_or held index None)
      index_held =
          subst IsSome
          (sym (ap (λ owners. get_or owners index None) is.owned ∙ get_or-map owner slots index None None slot_within))
          (owned_some (get_or slots index None) has)
        where
          owned_some : (slot : Option (Entry T)) → IsSome slot → IsSome (owner slot)
          owned_some None some = absurd (none_is some)
            where
              none_is : IsSome {T = Entry T} None → ⊥
              none_is is_some = cc
          owned_some (Some entry) some = refl

      -- one index less is held
      pub one_less : count_by is_some (map owner (set slots index None)) + 1 ≡ count_by is_some (map owner slots)
      one_less =
          let same = ap (count_by is_some) (map-set owner slots index None) in
          let size = length-map slots owner in
          let within = slot_within in
          let sums = sum_by-set (λ (o : Option ℕ). cond (is_some o) 1 0) (map owner slots) index None None (omega arith) in
          let one = counts_one (get_or (map owner slots) index None) held_one in
          omega arith
        where
          counts_one : (o : Option ℕ) → IsSome o → ◌≡◌ {A = ℕ} (cond (is_some o) 1 0) 1
          counts_one None some = cc
          counts_one (Some other) some = refl

          held_one : IsSome (get_or (map owner slots) index None)
          held_one = subst (λ owners. IsSome (get_or owners index None)) is.owned index_held
