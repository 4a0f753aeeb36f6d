-- Handles that were given keep their entries or lose them, where an entry is added, removed or recovered.
use Rattle.std.proofs.Common.{◌≡◌, ◌==◌, ◌+◌, ◌<◌, ◌≤◌, ℕ, Bool, true, false, List, [], ◌∷◌, Option, Some, None, ◌⊎◌, cond, length, get_or, set, refl, ap, sym, ◌∙◌, inl, inr, arith, length-set, get_or-set_other, get_or-set_same}
use Rattle.std.proofs.lemmas.Bool.{cases_eq, cases_lt}
use Rattle.std.proofs.lemmas.Bool.Decides.{nat_tests}
use Rattle.std.proofs.lemmas.List.{get_or_past}
use Rattle.iox_container.specs.declared.mpmc.container.container_handle.ContainerHandle.{ContainerHandle}
use Rattle.iox_container.specs.declared.mpmc.container.entries.Entry.{Entry}
use Rattle.iox_container.specs.Containers.{Contents, under_ticket}
use Rattle.iox_container.specs.Handles.{KeepsOrLoses}
use Rattle.iox_container.specs.Leaving.{without}

module _ {T : Type 0} where
  -- a slot has what it had, or nothing under the tickets below `next`
  abbrev KeepsOrLosesSlots : ℕ → List (Option (Entry T)) → List (Option (Entry T)) → Type 0
  KeepsOrLosesSlots next old new =
      (index : ℕ) → (get_or new index None ≡ get_or old index None)
      ⊎ ((ticket : ℕ) → ticket < next → under_ticket ticket (get_or new index None) ≡ None)

  of_past : (next index : ℕ) (slots : List (Option (Entry T))) → length slots ≤ index
      → (ticket : ℕ) → ticket < next → under_ticket ticket (get_or slots index None) ≡ None
  of_past next index slots past ticket below = ap (under_ticket ticket) (get_or_past slots index None past)

  -- one slot is set to something that has none of the tickets
  of_set : (next place : ℕ) (slot : Option (Entry T)) (old : List (Option (Entry T)))
      → ((ticket : ℕ) → ticket < next → under_ticket ticket slot ≡ None)
      → KeepsOrLosesSlots next old (set old place slot)
  of_set next place slot old none index = elim (cases_eq index place) [
    | inl same ↦ elim (cases_lt index (length old)) [
      | inl within ↦ inr (λ ticket below.
          let inside : place < length old = omega arith in
          ap (under_ticket ticket) (ap (λ k. get_or (set old place slot) k None) same
          ∙ get_or-set_same old place slot None inside) ∙ none ticket below)
      | inr past ↦ let size = length-set old place slot in inr (of_past next index (set old place slot) (omega arith))
    ]
    | inr other ↦ inl (get_or-set_other old place index slot None other)
  ]

  of_both : (next : ℕ) (a b c : List (Option (Entry T))) → KeepsOrLosesSlots next a b → KeepsOrLosesSlots next b c
      → KeepsOrLosesSlots next a c
  of_both next a b c first second index = elim (second index) [
    | inl same ↦ elim (first index) [
      | inl before ↦ inl (same ∙ before)
      | inr none ↦ inr (λ ticket below. ap (under_ticket ticket) same ∙ none ticket below)
    ]
    | inr none ↦ inr none
  ]

  of_none : (next : ℕ) (ticket : ℕ) → ticket < next → under_ticket {T = T} ticket None ≡ None
  of_none next ticket below = refl

  of_without : (next : ℕ) (items : List (ContainerHandle × Entry T)) (old : List (Option (Entry T)))
      → KeepsOrLosesSlots next old (without items old)
  of_without next [] old = λ index. inl refl
  of_without next (item ∷ items) old =
      of_both next old (set old item.0.index None) (without items (set old item.0.index None))
      (of_set next item.0.index None old (of_none next))
      (of_without next items (set old item.0.index None))

  of_ticket : (next ticket : ℕ) (value : T) (owner : ℕ) → ticket < next
      → under_ticket ticket (Some (record { value = value; owner = owner; ticket = next })) ≡ None
  of_ticket next ticket value owner below = differs (next == ticket) _ (grind (arith, nat_tests))
    where
      differs : (same : Bool) (slot : Option (Entry T)) → same ≡ false → cond same slot None ≡ None
      differs same slot not = rw not refl

  -- the slots say it of the container
  of_slots : (old new : Contents T) → new.id ≡ old.id → old.next_ticket ≤ new.next_ticket
      → KeepsOrLosesSlots old.next_ticket old.slots new.slots → KeepsOrLoses old new
  of_slots old new id more slots = record {
    given = λ handle given. let below = given.1 in (given.0 ∙ sym id, omega arith);
    entries = λ handle given. elim (slots handle.index) [
      | inl same ↦ inl (rw (id, same) refl)
      | inr none ↦ inr (rw (id) (hidden (handle.container_id == old.id) _ (none handle.ticket given.1)))
    ];
  }
    where
      hidden : (ours : Bool) (entry : Option (Entry T)) → entry ≡ None → cond ours entry None ≡ None
      hidden true entry is = is
      hidden false entry is = refl

  pub KeepsOrLoses-add : (old : Contents T) (value : T) (owner index : ℕ)
      → KeepsOrLoses old (record old {
        slots = set old.slots index (Some (record { value = value; owner = owner; ticket = old.next_ticket }));
        next_ticket = old.next_ticket + 1;
      })
  KeepsOrLoses-add old value owner index =
      of_slots old _ refl (omega arith)
      (of_set old.next_ticket index _ old.slots (λ ticket below. of_ticket old.next_ticket ticket value owner below))

  pub KeepsOrLoses-free : (old : Contents T) (index : ℕ) (locked : Bool)
      → KeepsOrLoses old (record old { slots = set old.slots index None; locked = locked })
  KeepsOrLoses-free old index locked =
      of_slots old _ refl (omega arith) (of_set old.next_ticket index None old.slots (of_none old.next_ticket))

  pub KeepsOrLoses-without : (old : Contents T) (items : List (ContainerHandle × Entry T)) (locked : Bool)
      → KeepsOrLoses old (record old { slots = without items old.slots; locked = locked })
  KeepsOrLoses-without old items locked =
      of_slots old _ refl (omega arith) (of_without old.next_ticket items old.slots)

  pub KeepsOrLoses-same : (old : Contents T) → KeepsOrLoses old old
  KeepsOrLoses-same old = record { given = λ handle given. given; entries = λ handle given. inl refl }
