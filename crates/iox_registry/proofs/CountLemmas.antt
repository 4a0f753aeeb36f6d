-- How many a container has, how many a register lists, and which slot is free.
use Rattle.std.proofs.Common.{◌≡◌, ◌==◌, ◌+◌, ◌<◌, ◌≤◌, ℕ, zero, suc, Bool, true, false, List, [], ◌∷◌, Option, Some, None, is_none, is_some, cond, count_by, filter, length, get_or, map, set, refl, ap, sym, subst, ◌∙◌, arith}
use Rattle.std.specs.Prelude.{slice_get}
use Rattle.std.specs.Option.{option_map}
use Rattle.std.proofs.lemmas.Bool.{both_ways, eq-eqb}
use Rattle.std.proofs.lemmas.List.Sums.{length-filter}
use Rattle.iox_sets.specs.BitSets.{set_bits_from}
use Rattle.iox_sets.specs.OwnedIndices.{lowest_free}
use Rattle.iox_container.specs.declared.mpmc.container.entries.Entry.{Entry}
use Rattle.iox_container.specs.declared.mpmc.container.failures.ContainerAddFailure.{ContainerAddFailure}
use Rattle.iox_container.specs.declared.mpmc.container.failures.ContainerAddFailure.TheVariants.{OutOfSpace}
use Rattle.iox_container.specs.Containers.{Contents, add_refusal, count, indices, max_ticket}
use Rattle.iox_types.specs.declared.identifiers.system_id.UniqueSystemId.{UniqueSystemId}
use Rattle.iox_registry.specs.declared.registered.Registered.{Registered}
use Rattle.iox_registry.specs.Registers.{details_in}
use Rattle.iox_registry.specs.Standing.{IsStanding, entry_of_kept, shown_slots}

module _ {D : Type 0} where
  pub count-listed : (slots : List (Option (Registered D)))
      → count_by is_some (map (option_map (λ (entry : Entry (Unit {0})). entry.owner)) (map (option_map entry_of_kept) slots))
      ≡ length (details_in (shown_slots slots))
  count-listed slots =
      sym (length-filter is_some (map (option_map (λ (entry : Entry (Unit {0})). entry.owner)) (map (option_map entry_of_kept) slots)))
      ∙ filtered slots
    where
      filtered : (slots : List (Option (Registered D)))
          → length (filter is_some (map (option_map (λ (entry : Entry (Unit {0})). entry.owner)) (map (option_map (entry_of_kept {D = D})) slots)))
          ≡ length (details_in (shown_slots slots))
      filtered [] = refl
      filtered (None ∷ slots) = filtered slots
      filtered (Some kept ∷ slots) = ap suc (filtered slots)

  -- the container has as many as the register lists
  pub count-standing : (node : D → UniqueSystemId) (container : Contents (Unit {0})) (service next : ℕ)
      (slots : List (Option (Registered D))) → IsStanding node container service next slots
      → count container ≡ length (details_in (shown_slots slots))
  count-standing node container service next slots st =
      ap (λ (all : List (Option (Entry (Unit {0})))). count_by is_some (map (option_map (λ entry. entry.owner)) all)) st.entries
      ∙ count-listed slots

  pub none_listed : (items : List D) → length items ≡ 0 → items ≡ []
  none_listed [] none = refl
  none_listed (item ∷ items) none = absurd (not_none none)
    where
      not_none : suc (length items) ≡ 0 → ⊥
      not_none none = omega arith

  -- one less is listed
  pub listed-less : (slots : List (Option (Registered D))) (i : ℕ) (kept : Registered D) → get_or slots i None ≡ Some kept
      → length (details_in (shown_slots (set slots i None))) + 1 ≡ length (details_in (shown_slots slots))
  listed-less [] i kept has = absurd (not_some has)
    where
      not_some : ◌≡◌ {A = Option (Registered D)} None (Some kept) → ⊥
      not_some same = cc
  listed-less (None ∷ slots) zero kept has = absurd (not_some has)
    where
      not_some : ◌≡◌ {A = Option (Registered D)} None (Some kept) → ⊥
      not_some same = cc
  listed-less (Some first ∷ slots) zero kept has = omega arith
  listed-less (None ∷ slots) (suc i) kept has = listed-less slots i kept has
  listed-less (Some first ∷ slots) (suc i) kept has = let rest = listed-less slots i kept has in omega arith

-- where no index is free, each is held
all_held : (owners : List (Option ℕ)) (id : ℕ) → slice_get (set_bits_from id (map is_none owners)) 0 ≡ None
    → length (filter is_some owners) ≡ length owners
all_held [] id none = refl
all_held (None ∷ owners) id none = absurd (not_some none)
  where
    not_some : ◌≡◌ {A = Option ℕ} (Some id) None → ⊥
    not_some same = cc
all_held (Some owner ∷ owners) id none = ap suc (all_held owners (suc id) none)

-- the lowest free index is free
pub lowest_is_free : (owners : List (Option ℕ)) (id k : ℕ) → slice_get (set_bits_from id (map is_none owners)) 0 ≡ Some k
    → (j : ℕ) × (k ≡ id + j) × (get_or owners j None ≡ None)
lowest_is_free [] id k found = absurd (not_some found)
  where
    not_some : ◌≡◌ {A = Option ℕ} None (Some k) → ⊥
    not_some same = cc
lowest_is_free (None ∷ owners) id k found = (0, first, refl)
  where
    one_of : ◌≡◌ {A = Option ℕ} (Some id) (Some k) → id ≡ k
    one_of same = cc

    first : k ≡ id + 0
    first = let same = one_of found in omega arith
lowest_is_free (Some owner ∷ owners) id k found =
    let rest = lowest_is_free owners (suc id) k found in
    let place = rest.1 in
    (suc rest.0, omega arith, rest.2)

-- a container that is open, has a ticket left and a free slot refuses nothing
pub room-open : {T : Type 0} (contents : Contents T) → contents.locked ≡ false
    → (contents.next_ticket == max_ticket) ≡ false → (count contents == length contents.slots) ≡ false
    → length (indices contents).owners ≡ length contents.slots → add_refusal contents ≡ None
room-open contents not_locked ticket room size = rw (not_locked, ticket) (is_open (lowest_free (indices contents)) not_none)
  where
    not_none : lowest_free (indices contents) ≡ None → ⊥
    not_none none =
        both_ways _ room (eq-eqb (count contents) (length contents.slots) (sym (length-filter is_some (indices contents).owners) ∙ all_held (indices contents).owners 0 none ∙ size))

    is_open : (lowest : Option ℕ) → (lowest ≡ None → ⊥)
        → ◌≡◌ {A = Option ContainerAddFailure} (cond (is_none lowest) (Some OutOfSpace) None) None
    is_open None not = absurd (not refl)
    is_open (Some index) not = refl
