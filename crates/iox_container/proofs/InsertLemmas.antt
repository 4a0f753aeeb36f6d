-- A container as a map from handles: an entry that comes, and one that goes.
use Rattle.std.proofs.Common.{◌≡◌, ◌≢◌, ◌==◌, ◌+◌, ◌<◌, ◌≤◌, ℕ, Bool, true, false, List, Option, Some, None, IsSome, cond, length, get_or, set, refl, ap, sym, subst, ◌∙◌, inl, inr, arith, length-set, get_or-set_other, get_or-set_same}
use Rattle.std.proofs.lemmas.Bool.{cases_eq, cases_lt}
use Rattle.std.proofs.lemmas.Bool.Decides.{nat_tests}
use Rattle.std.proofs.lemmas.List.{get_or_past}
use Rattle.iox_container.specs.declared.mpmc.container.container_handle.ContainerHandle.{ContainerHandle}
use Rattle.iox_container.specs.declared.mpmc.container.entries.Entry.{Entry}
use Rattle.iox_container.specs.Containers.{Contents, entry_of, handle_of, under_ticket}
use Rattle.iox_container.specs.Handles.{Inserts, Removes}

same_number : (n : ℕ) → (n == n) ≡ true
same_number n = grind (arith, nat_tests)

other_number : (a b : ℕ) → a ≢ b → (a == b) ≡ false
other_number a b differs = grind (arith, nat_tests)

number_is : (a b : ℕ) → (a == b) ≡ true → a ≡ b
number_is a b same = grind (arith, nat_tests)

abbrev handle_with : ℕ → ℕ → ℕ → ContainerHandle
handle_with id index ticket = record { container_id = id; index = index; ticket = ticket }

same_handle : (a b : ContainerHandle) → a.container_id ≡ b.container_id → a.index ≡ b.index → a.ticket ≡ b.ticket → a ≡ b
same_handle a b ids places tickets =
    let same : handle_with a.container_id a.index a.ticket ≡ handle_with b.container_id b.index b.ticket = rw (ids, places, tickets) refl in
    same

none_has : (T : Type 0) → IsSome {T = Entry T} None → ⊥
none_has T some = cc

module _ {T : Type 0} where
  pub some_is : (slot : Option (Entry T)) (entry : Entry T) → slot ≡ Some entry → IsSome slot
  some_is slot entry is = rw (is) refl

  hidden : (ours : Bool) (slot : Option (Entry T)) → slot ≡ None → cond ours slot None ≡ None
  hidden true slot is = is
  hidden false slot is = refl

  chosen : (same : Bool) (entry found : Entry T) → cond same (Some entry) None ≡ Some found → Some entry ≡ Some found
  chosen true entry found is = is
  chosen false entry found is = cc

  -- what a handle has, its slot has
  slot_is : (ours : Bool) (ticket : ℕ) (slot : Option (Entry T)) (found : Entry T)
      → cond ours (under_ticket ticket slot) None ≡ Some found → slot ≡ Some found
  slot_is false ticket slot found is = cc
  slot_is true ticket None found is = cc
  slot_is true ticket (Some entry) found is = chosen (entry.ticket == ticket) entry found is

  pub entry_in_slot : (contents : Contents T) (handle : ContainerHandle) (entry : Entry T)
      → entry_of contents handle ≡ Some entry → get_or contents.slots handle.index None ≡ Some entry
  entry_in_slot contents handle entry is = slot_is (handle.container_id == contents.id) handle.ticket _ entry is

  -- what a slot has, its handle has
  pub entry_is : (contents : Contents T) (index : ℕ) (entry : Entry T) → get_or contents.slots index None ≡ Some entry
      → (handle : ContainerHandle) → handle ≡ handle_of contents.id index entry → entry_of contents handle ≡ Some entry
  entry_is contents index entry has handle of =
      rw (of) (rw (same_number contents.id, has, same_number entry.ticket) refl)

  pub same_entry : (old new : Contents T) (handle : ContainerHandle) → new.id ≡ old.id
      → get_or new.slots handle.index None ≡ get_or old.slots handle.index None → entry_of new handle ≡ entry_of old handle
  same_entry old new handle id slot = rw (id, slot) refl

  chosen_some : (same : Bool) (entry : Entry T) → IsSome (cond same (Some entry) None) → same ≡ true
  chosen_some true entry some = refl
  chosen_some false entry some = absurd (none_has T some)

  -- a handle that has an entry is of this container, and has the entry's ticket
  parts : (ours : Bool) (ticket : ℕ) (slot : Option (Entry T)) → IsSome (cond ours (under_ticket ticket slot) None)
      → (ours ≡ true) × ((entry : Entry T) × (slot ≡ Some entry) × (entry.ticket ≡ ticket))
  parts false ticket slot some = absurd (none_has T some)
  parts true ticket None some = absurd (none_has T some)
  parts true ticket (Some entry) some =
      (refl, (entry, refl, number_is entry.ticket ticket (chosen_some (entry.ticket == ticket) entry some)))

  -- an entry shows under no other ticket
  other_ticket : (ticket : ℕ) (entry : Entry T) → entry.ticket ≢ ticket → under_ticket ticket (Some entry) ≡ None
  other_ticket ticket entry differs = rw (other_number entry.ticket ticket differs) refl

  module _ (old : Contents T) (value : T) (owner index : ℕ) (within : index < length old.slots)
      (free : get_or old.slots index None ≡ None) where
    abbrev added : Entry T
    added = record { value = value; owner = owner; ticket = old.next_ticket }

    abbrev after : Contents T
    after = record old { slots = set old.slots index (Some added); next_ticket = old.next_ticket + 1 }

    abbrev its_handle : ContainerHandle
    its_handle = handle_of old.id index added

    was_fresh : entry_of old its_handle ≡ None
    was_fresh = hidden (old.id == old.id) _ (ap (under_ticket old.next_ticket) free)

    is_there : entry_of after its_handle ≡ Some added
    is_there = entry_is after index added (get_or-set_same old.slots index (Some added) None within) its_handle refl

    leaves : (other : ContainerHandle) → other ≢ its_handle → entry_of after other ≡ entry_of old other
    leaves other differs = elim (cases_eq other.index index) [
      | inr elsewhere ↦ same_entry old after other refl (get_or-set_other old.slots index other.index (Some added) None elsewhere)
      | inl here ↦
          let slot : get_or after.slots other.index None ≡ Some added =
          ap (λ k. get_or after.slots k None) here ∙ get_or-set_same old.slots index (Some added) None within in
          let before : get_or old.slots other.index None ≡ None = ap (λ k. get_or old.slots k None) here ∙ free in
          let none : entry_of old other ≡ None = hidden (other.container_id == old.id) _ (ap (under_ticket other.ticket) before) in
          elim (cases_eq old.next_ticket other.ticket) [
            | inr older ↦ hidden (other.container_id == old.id) _ (ap (under_ticket other.ticket) slot ∙ other_ticket other.ticket added older) ∙ sym none
            | inl same ↦ elim (cases_eq other.container_id old.id) [
              | inl ours ↦ absurd (differs (same_handle other its_handle ours here (sym same)))
              | inr foreign ↦ rw (other_number other.container_id old.id foreign) refl
            ]
          ]
    ]

    pub Inserts-add : Inserts its_handle added old after
    Inserts-add = record {
      fresh = was_fresh;
      there = is_there;
      others = leaves;
      stay = λ other some. leaves other (λ same. none_has T (subst IsSome (ap (entry_of old) same ∙ was_fresh) some));
    }

  module _ (old : Contents T) (handle : ContainerHandle) (locked : Bool) (has : IsSome (entry_of old handle)) where
    abbrev freed : Contents T
    freed = record old { slots = set old.slots handle.index None; locked = locked }

    free_now : get_or (set old.slots handle.index None) handle.index None ≡ None
    free_now = elim (cases_lt handle.index (length old.slots)) [
      | inl within ↦ get_or-set_same old.slots handle.index None None within
      | inr past ↦ let size = length-set old.slots handle.index None in get_or_past (set old.slots handle.index None) handle.index None (omega arith)
    ]

    pub Removes-free : Removes handle old freed
    Removes-free = record {
      gone = hidden (handle.container_id == old.id) _ (ap (under_ticket handle.ticket) free_now);
      others = λ other differs. elim (cases_eq other.index handle.index) [
        | inr elsewhere ↦ same_entry old freed other refl (get_or-set_other old.slots handle.index other.index None None elsewhere)
        | inl here ↦
            let of = parts (handle.container_id == old.id) handle.ticket (get_or old.slots handle.index None) has in
            let now : get_or freed.slots other.index None ≡ None = ap (λ k. get_or freed.slots k None) here ∙ free_now in
            let none : entry_of freed other ≡ None = hidden (other.container_id == old.id) _ (ap (under_ticket other.ticket) now) in
            let slot : get_or old.slots other.index None ≡ Some of.1.0 = ap (λ k. get_or old.slots k None) here ∙ of.1.1 in
            elim (cases_eq handle.ticket other.ticket) [
              | inr older ↦ none ∙ sym (hidden (other.container_id == old.id) _ (ap (under_ticket other.ticket) slot
                  ∙ other_ticket other.ticket of.1.0 (λ same. older (sym of.1.2 ∙ same))))
              | inl same ↦ elim (cases_eq other.container_id old.id) [
                | inl ours ↦ absurd (differs (same_handle other handle (ours ∙ sym (number_is handle.container_id old.id of.0)) here (sym same)))
                | inr foreign ↦ rw (other_number other.container_id old.id foreign) refl
              ]
            ]
      ];
    }
