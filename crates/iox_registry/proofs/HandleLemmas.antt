-- Handles that were given keep their details or lose them, whatever call comes.
use Rattle.std.proofs.Common.{◌≡◌, ◌==◌, ◌+◌, ◌<◌, ◌≤◌, ◌⊎◌, ℕ, Bool, true, false, List, [], ◌∷◌, Option, Some, None, cond, length, get_or, map, set, refl, ap, sym, subst, ◌∙◌, inl, inr, arith, length-set, get_or-set_other, get_or-set_same}
use Rattle.std.proofs.lemmas.Bool.{cases_eq, cases_lt, ne_eqb}
use Rattle.std.proofs.lemmas.List.{get_or-map, get_or_past, length-map}
use Rattle.iox_types.specs.declared.identifiers.system_id.UniqueSystemId.{UniqueSystemId}
use Rattle.iox_registry.specs.Registers.{Adds, KeepsOrLoses, Registration, Registrations, Removes, details_of, is_own, recovered, registration_of, same_id, under_ticket, without_node}

module _ {D : Type 0} where
  -- a slot has what it had, or nothing under the tickets below `next`
  abbrev KeepsSlots : ℕ → List (Option (Registration D)) → List (Option (Registration D)) → Type 0
  KeepsSlots next old new =
      (i : ℕ) → (get_or new i None ≡ get_or old i None)
      ⊎ ((ticket : ℕ) → ticket < next → under_ticket ticket (get_or new i None) ≡ None)

  -- one slot is set to something that has none of the tickets
  of_set : (next place : ℕ) (slot : Option (Registration D)) (old : List (Option (Registration D)))
      → ((ticket : ℕ) → ticket < next → under_ticket ticket slot ≡ None) → KeepsSlots next old (set old place slot)
  of_set next place slot old none i = elim (cases_eq i place) [
    | inl same ↦ elim (cases_lt place (length old)) [
      | inl within ↦ inr (λ ticket below.
          ap (under_ticket ticket) (ap (λ k. get_or (set old place slot) k None) same
          ∙ get_or-set_same old place slot None within) ∙ none ticket below)
      | inr past ↦
          let size = length-set old place slot in
          inr (λ ticket below. ap (under_ticket ticket) (get_or_past (set old place slot) i None (omega arith)))
    ]
    | inr other ↦ inl (get_or-set_other old place i slot None other)
  ]

  of_map : (next : ℕ) (node : D → UniqueSystemId) (id : UniqueSystemId) (old : List (Option (Registration D)))
      → KeepsSlots next old (map (without_node node id) old)
  of_map next node id old i = elim (cases_lt i (length old)) [
    | inl within ↦ of_slot (get_or old i None) (get_or-map (without_node node id) old i None None within)
    | inr past ↦
        let size = length-map old (without_node node id) in
        inr (λ ticket below. ap (under_ticket ticket) (get_or_past (map (without_node node id) old) i None (omega arith)))
  ]
    where
      of_bool : (b : Bool) (a : Registration D) (now : Option (Registration D)) → now ≡ cond b None (Some a)
          → (now ≡ Some a) ⊎ ((ticket : ℕ) → ticket < next → under_ticket ticket now ≡ None)
      of_bool true a now is = inr (λ ticket below. ap (under_ticket ticket) is)
      of_bool false a now is = inl is

      of_slot : {now : Option (Registration D)} (slot : Option (Registration D)) → now ≡ without_node node id slot
          → (now ≡ slot) ⊎ ((ticket : ℕ) → ticket < next → under_ticket ticket now ≡ None)
      of_slot None is = inl is
      of_slot (Some a) is = of_bool (same_id (node a.details) id) a _ is

  -- the slots say it of the register
  of_slots : (old new : Registrations D) → new.service ≡ old.service → new.role ≡ old.role
      → old.used_tickets ≤ new.used_tickets → KeepsSlots old.used_tickets old.slots new.slots → KeepsOrLoses old new
  of_slots old new service role more slots = record {
    given = λ handle given. let below = given.2 in (given.0 ∙ sym service, given.1 ∙ sym role, omega arith);
    details = λ handle given. elim (slots handle.slot) [
      | inl same ↦ inl (rw (service, role, same) refl)
      | inr none ↦ inr (hidden (is_own new handle) _ (none handle.ticket given.2))
    ];
  }
    where
      hidden : (own : Bool) (details : Option D) → details ≡ None → cond own details None ≡ None
      hidden true details is = is
      hidden false details is = refl

  pub KeepsOrLoses-add : (details : D) (old : Registrations D) (slot : ℕ)
      → KeepsOrLoses old (record old {
        slots = set old.slots slot (Some (registration_of old.used_tickets details));
        used_tickets = old.used_tickets + 1;
      })
  KeepsOrLoses-add details old slot =
      of_slots old _ refl refl (omega arith)
      (of_set old.used_tickets slot _ old.slots (λ ticket below.
      other_ticket ticket (ne_eqb old.used_tickets ticket (λ same. omega arith))))
    where
      other_ticket : (ticket : ℕ) → (old.used_tickets == ticket) ≡ false
          → under_ticket ticket (Some (registration_of old.used_tickets details)) ≡ None
      other_ticket ticket differ = rw differ refl

  pub KeepsOrLoses-free : (old : Registrations D) (slot : ℕ) (locked : Bool)
      → KeepsOrLoses old (record old { slots = set old.slots slot None; locked = locked })
  KeepsOrLoses-free old slot locked =
      of_slots old _ refl refl (omega arith) (of_set old.used_tickets slot None old.slots (λ ticket below. refl))

  pub KeepsOrLoses-recovered : (node : D → UniqueSystemId) (id : UniqueSystemId) (old : Registrations D)
      → KeepsOrLoses old (recovered node id old)
  KeepsOrLoses-recovered node id old =
      of_slots old _ refl refl (omega arith) (of_map old.used_tickets node id old.slots)

  pub KeepsOrLoses-same : (old : Registrations D) → KeepsOrLoses old old
  KeepsOrLoses-same old = record { given = λ handle given. given; details = λ handle given. inl refl }
