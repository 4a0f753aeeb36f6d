-- The entries of slots, from one slot on: one slot more.
use Rattle.std.proofs.Common.{◌≡◌, ◌+◌, ◌<◌, ◌≤◌, ℕ, Bool, false, List, [], ◌∷◌, Option, Some, None, length, get_or, drop, ap, subst, sym, ◌∙◌, inr}
use Rattle.std.proofs.lemmas.List.{drop_all, drop_more, get_or_default}
use Rattle.iox_container.specs.declared.mpmc.container.container_handle.ContainerHandle.{ContainerHandle}
use Rattle.iox_container.specs.declared.mpmc.container.entries.Entry.{Entry}
use Rattle.iox_words.specs.declared.callback_progression.CallbackProgression.{CallbackProgression}
use Rattle.iox_words.specs.declared.callback_progression.CallbackProgression.TheVariants.{Continue}
use Rattle.iox_container.specs.Containers.{entries_from, handle_of}
use Rattle.iox_container.specs.Leaving.{Finds}
use Rattle.iox_container.specs.States.{IsCalledUntilStop}

-- the entries from a slot on, where `slots` are all slots
abbrev pub entries_after : {T : Type 0} → ℕ → List (Option (Entry T)) → ℕ → List (ContainerHandle × Entry T)
entries_after id slots index = entries_from id index (drop index slots)

module _ {T : Type 0} (id : ℕ) (slots : List (Option (Entry T))) (index : ℕ) where
  pub entries_after-end : length slots ≤ index → entries_after id slots index ≡ []
  entries_after-end past = ap (entries_from id index) (drop_all index slots past)

  module _ (within : index < length slots) where
    -- what was read there is the slot
    pub read_entry : (slot : Option (Entry T)) (entry : Entry T) → slot ≡ get_or slots index slot → slot ≡ Some entry
        → get_or slots index None ≡ Some entry
    read_entry slot entry read some = get_or_default slots index None slot within ∙ sym read ∙ some

    pub entries_after-none : get_or slots index None ≡ None → entries_after id slots index ≡ entries_after id slots (index + 1)
    entries_after-none free =
        ap (entries_from id index) (drop_more slots index None within ∙ ap (λ slot. slot ∷ drop (index + 1) slots) free)

    pub entries_after-some : (entry : Entry T) → get_or slots index None ≡ Some entry
        → entries_after id slots index ≡ (handle_of id index entry, entry) ∷ entries_after id slots (index + 1)
    entries_after-some entry has =
        ap (entries_from id index) (drop_more slots index None within ∙ ap (λ slot. slot ∷ drop (index + 1) slots) has)

    module _ {F : Type 0} (f : F) (entry : Entry T) (has : get_or slots index None ≡ Some entry)
        (handle : ContainerHandle) (of : handle ≡ handle_of id index entry) (after : F) where
      -- the closure said no to an entry, and is asked about those that follow
      pub Finds-no : (step : F → T → ContainerHandle → Bool → F → Type 0) (found : Option ContainerHandle)
          → step f entry.value handle false after → Finds step after (entries_after id slots (index + 1)) found
          → Finds step f (entries_after id slots index) found
      Finds-no step found said rest =
          rw (entries_after-some entry has) (inr (after, subst (λ h. step f entry.value h false after) of said, rest))

      -- the closure went on after an entry, and is called with those that follow
      pub IsCalledUntilStop-more : (step : F → ContainerHandle → T → CallbackProgression → F → Type 0)
          → step f handle entry.value Continue after → IsCalledUntilStop step after (entries_after id slots (index + 1))
          → IsCalledUntilStop step f (entries_after id slots index)
      IsCalledUntilStop-more step said rest =
          rw (entries_after-some entry has) (inr (after, subst (λ h. step f h entry.value Continue after) of said, rest))
