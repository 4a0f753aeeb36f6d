-- What a recovery leaves: the entries that the closure said no to, and those of other owners.
use Rattle.std.proofs.Common.{◌≡◌, ◌≢◌, ◌==◌, ◌+◌, ◌<◌, ◌≤◌, ℕ, Bool, true, false, List, Option, Some, None, length, get_or, set, ap, sym, subst, ◌∙◌, inl, inr, arith, get_or-set_other, get_or-set_same}
use Rattle.std.proofs.lemmas.Bool.{cases_eq, cases_lt}
use Rattle.std.proofs.lemmas.Bool.Decides.{nat_tests}
use Rattle.std.proofs.lemmas.List.{get_or_past}
use Rattle.iox_container.specs.declared.mpmc.container.container_handle.ContainerHandle.{ContainerHandle}
use Rattle.iox_container.specs.declared.mpmc.container.entries.Entry.{Entry}
use Rattle.iox_container.specs.Containers.{Contents, entry_of}
use Rattle.iox_container.proofs.InsertLemmas.{entry_in_slot, same_entry}

differs_from : (a b : ℕ) → a ≡ b → (a == b) ≡ false → ⊥
differs_from a b same other = grind (arith, nat_tests)

is_same : (a b : ℕ) → (a == b) ≡ true → a ≡ b
is_same a b same = grind (arith, nat_tests)

module _ {T : Type 0} where
  not_none : (slot : Option (Entry T)) (entry : Entry T) → slot ≡ Some entry → slot ≡ None → ⊥
  not_none slot entry some none = cc

  same_one : (slot : Option (Entry T)) (a b : Entry T) → slot ≡ Some a → slot ≡ Some b → a ≡ b
  same_one slot a b one two = let both : Some a ≡ Some b = sym one ∙ two in cc

  -- the closure said no to each entry in a slot below a place that the owner still has
  abbrev pub RefusedBelow : {F : Type 0} → (F → T → Bool → F → Type 0) → ℕ → List (Option (Entry T)) → ℕ → Type 0
  RefusedBelow {F} step owner slots place =
      (index : ℕ) (entry : Entry T) → index < place → get_or slots index None ≡ Some entry → entry.owner ≡ owner
      → (before : F) × (after : F) × step before entry.value false after

  module _ {F : Type 0} (step : F → T → Bool → F → Type 0) (owner : ℕ) (slots : List (Option (Entry T))) (place : ℕ)
      (kept : RefusedBelow step owner slots place) where
    pub RefusedBelow-none : get_or slots place None ≡ None → RefusedBelow step owner slots (place + 1)
    RefusedBelow-none free index entry below has own = elim (cases_eq index place) [
      | inl same ↦ absurd (not_none _ entry has (ap (λ k. get_or slots k None) same ∙ free))
      | inr elsewhere ↦ kept index entry (omega arith) has own
    ]

    module _ (held : Entry T) (is : get_or slots place None ≡ Some held) where
      here_is : (index : ℕ) (entry : Entry T) → get_or slots index None ≡ Some entry → index ≡ place → held ≡ entry
      here_is index entry has same = same_one _ held entry (ap (λ k. get_or slots k None) same ∙ is) has

      pub RefusedBelow-other : (held.owner == owner) ≡ false → RefusedBelow step owner slots (place + 1)
      RefusedBelow-other other index entry below has own = elim (cases_eq index place) [
        | inl same ↦ absurd (differs_from held.owner owner (ap (λ e. e.owner) (here_is index entry has same) ∙ own) other)
        | inr elsewhere ↦ kept index entry (omega arith) has own
      ]

      pub RefusedBelow-no : (before after : F) → step before held.value false after → RefusedBelow step owner slots (place + 1)
      RefusedBelow-no before after said index entry below has own = elim (cases_eq index place) [
        | inl same ↦ (before, after, subst (λ e. step before e.value false after) (here_is index entry has same) said)
        | inr elsewhere ↦ kept index entry (omega arith) has own
      ]

    pub RefusedBelow-yes : place < length slots → RefusedBelow step owner (set slots place None) (place + 1)
    RefusedBelow-yes within index entry below has own = elim (cases_eq index place) [
      | inl same ↦ absurd (not_none _ entry has (ap (λ k. get_or (set slots place None) k None) same ∙ get_or-set_same slots place None None within))
      | inr elsewhere ↦ kept index entry (omega arith) (sym (get_or-set_other slots place index None None elsewhere) ∙ has) own
    ]

    pub RefusedBelow-end : length slots ≤ place → (index : ℕ) (entry : Entry T) → get_or slots index None ≡ Some entry → entry.owner ≡ owner
        → (before : F) × (after : F) × step before entry.value false after
    RefusedBelow-end past index entry has own = elim (cases_lt index (length slots)) [
      | inl within ↦ kept index entry (omega arith) has own
      | inr beyond ↦ absurd (not_none _ entry has (get_or_past slots index None beyond))
    ]

  -- an entry of another owner stays in its slot
  abbrev pub SameOthers : ℕ → List (Option (Entry T)) → List (Option (Entry T)) → Type 0
  SameOthers owner old new =
      (index : ℕ) (entry : Entry T) → get_or old index None ≡ Some entry → entry.owner ≢ owner → get_or new index None ≡ Some entry

  -- also after one of the owner's goes
  pub SameOthers-freed : (owner place : ℕ) (old now : List (Option (Entry T))) → SameOthers owner old now
      → (held : Entry T) → get_or now place None ≡ Some held → (held.owner == owner) ≡ true → SameOthers owner old (set now place None)
  SameOthers-freed owner place old now same held is own index entry has other = elim (cases_eq index place) [
    | inl here ↦
        let one : held ≡ entry = same_one _ held entry (ap (λ k. get_or now k None) here ∙ is) (same index entry has other) in
        absurd (other (sym (ap (λ e. e.owner) one) ∙ is_same held.owner owner own))
    | inr elsewhere ↦ get_or-set_other now place index None None elsewhere ∙ same index entry has other
  ]

  -- the slots say it of the container
  pub KeepsOthers-of : (owner : ℕ) (old new : Contents T) → new.id ≡ old.id → SameOthers owner old.slots new.slots
      → (handle : ContainerHandle) (entry : Entry T) → entry_of old handle ≡ Some entry → entry.owner ≢ owner → entry_of new handle ≡ Some entry
  KeepsOthers-of owner old new id same handle entry has other =
      let was = entry_in_slot old handle entry has in
      same_entry old new handle id (same handle.index entry was other ∙ sym was) ∙ has
