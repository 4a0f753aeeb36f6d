-- A closure that is asked about the entries of an owner one after another: one slot more.
use Rattle.std.proofs.Common.{◌≡◌, ◌==◌, not, ◌+◌, ◌<◌, ◌≤◌, ℕ, Bool, true, false, List, [], ◌∷◌, Option, Some, None, length, get_or, set, filter, refl, ap, subst, arith}
use Rattle.std.proofs.lemmas.Bool.Decides.{nat_tests}
use Rattle.std.proofs.lemmas.List.{drop-set-lt}
use Rattle.iox_sets.specs.Calls.{Accepts}
use Rattle.iox_sets.specs.IndexSets.{state_after}
use Rattle.iox_sets.specs.OwnedIndices.{OwnedIndices, held_count, state_after_recovery}
use Rattle.iox_sets.specs.declared.mpmc.unique_index_set_enums.ReleaseMode.{ReleaseMode}
use Rattle.iox_container.specs.declared.mpmc.container.container_handle.ContainerHandle.{ContainerHandle}
use Rattle.iox_container.specs.declared.mpmc.container.entries.Entry.{Entry}
use Rattle.iox_container.specs.Containers.{entries_from, handle_of}
use Rattle.iox_container.specs.Leaving.{without}
use Rattle.iox_container.proofs.EntryLemmas.{entries_after, entries_after-end, entries_after-none, entries_after-some}

pub from_not : (b : Bool) → false ≡ not b → b ≡ true
from_not true is = refl
from_not false is = is

pub is_not : (b : Bool) → true ≡ not b → b ≡ false
is_not true is = is
is_not false is = refl

-- where an entry went, the mode decides
pub state_after_fewer : (mode : ReleaseMode) (old : OwnedIndices) (held : ℕ) → held < held_count old
    → state_after_recovery mode old held ≡ state_after mode held
state_after_fewer mode old held fewer = grind (arith, nat_tests)

-- the entries of an owner, from a slot on
abbrev pub own_after : {T : Type 0} → ℕ → ℕ → List (Option (Entry T)) → ℕ → List (ContainerHandle × Entry T)
own_after owner id slots index = filter (λ item. item.1.owner == owner) (entries_after id slots index)

-- what is left of a recovery leads to what all of it is to do
abbrev pub LeadsTo : {F T : Type 0} → (F → T → Bool → F → Type 0) → ℕ → ℕ
    → F → List (Option (Entry T)) → F → List (Option (Entry T)) → ℕ → Type 0
LeadsTo {F} {T} step owner id f₀ slots₀ f slots index =
    (accepted : List (ContainerHandle × Entry T))
    → Accepts (λ before item answer after. step before item.1.value answer after) f (own_after owner id slots index) accepted
    → (all : List (ContainerHandle × Entry T))
    × Accepts (λ before item answer after. step before item.1.value answer after) f₀ (filter (λ item. item.1.owner == owner) (entries_from id 0 slots₀)) all
    × (without all slots₀ ≡ without accepted slots)

module _ {F T : Type 0} (step : F → T → Bool → F → Type 0) (owner id : ℕ) (f₀ : F) (slots₀ : List (Option (Entry T))) where
  pub LeadsTo-start : LeadsTo step owner id f₀ slots₀ f₀ slots₀ 0
  LeadsTo-start accepted asked = (accepted, asked, refl)

  module _ (f : F) (slots : List (Option (Entry T))) (index : ℕ) (leads : LeadsTo step owner id f₀ slots₀ f slots index) where
    pub LeadsTo-end : length slots ≤ index
        → (all : List (ContainerHandle × Entry T))
        × Accepts (λ before item answer after. step before item.1.value answer after) f₀ (filter (λ item. item.1.owner == owner) (entries_from id 0 slots₀)) all
        × (without all slots₀ ≡ slots)
    LeadsTo-end past = leads [] (rw (entries_after-end id slots index past) refl)

    module _ (within : index < length slots) where
      pub LeadsTo-none : get_or slots index None ≡ None → LeadsTo step owner id f₀ slots₀ f slots (index + 1)
      LeadsTo-none free accepted asked = leads accepted (rw (entries_after-none id slots index within free) asked)

      module _ (entry : Entry T) (has : get_or slots index None ≡ Some entry) where
        own_after-entry : own_after owner id slots index
            ≡ filter (λ item. item.1.owner == owner) ((handle_of id index entry, entry) ∷ entries_after id slots (index + 1))
        own_after-entry = ap (filter (λ item. item.1.owner == owner)) (entries_after-some id slots index within entry has)

        pub LeadsTo-other : (entry.owner == owner) ≡ false → LeadsTo step owner id f₀ slots₀ f slots (index + 1)
        LeadsTo-other other accepted asked = leads accepted (rw (own_after-entry, other) asked)

        module _ (own : (entry.owner == owner) ≡ true) (after : F) where
          pub LeadsTo-no : step f entry.value false after → LeadsTo step owner id f₀ slots₀ after slots (index + 1)
          LeadsTo-no said accepted asked =
              leads accepted (rw (own_after-entry, own) (false, after, accepted, said, asked, refl))

          -- an entry that is gone is no later one
          later : own_after owner id (set slots index None) (index + 1) ≡ own_after owner id slots (index + 1)
          later =
              ap (λ rest. filter (λ item. item.1.owner == owner) (entries_from id (index + 1) rest))
              (drop-set-lt (index + 1) slots index None (omega arith))

          pub LeadsTo-yes : step f entry.value true after
              → LeadsTo step owner id f₀ slots₀ after (set slots index None) (index + 1)
          LeadsTo-yes said accepted asked =
              leads ((handle_of id index entry, entry) ∷ accepted) (rw (own_after-entry, own) (
                true,
                after,
                accepted,
                said,
                subst (λ items. Accepts (λ before item answer after. step before item.1.value answer after) after items accepted) later asked,
                refl,
              ))
