-- Registers as callers see them: what refusals say, and what an addition leaves.
use Rattle.std.proofs.Common.{◌≡◌, ◌==◌, ◌&&◌, ◌+◌, ◌<◌, ◌≤◌, ℕ, zero, suc, Bool, true, false, List, [], ◌∷◌, Option, Some, None, IsSome, is_none, is_some, cond, length, get_or, map, replicate, set, refl, ap, sym, subst, ◌∙◌, inl, inr, arith, get_or-set_same, length-set}
use Rattle.std.specs.Option.{option_map}
use Rattle.std.proofs.lemmas.Bool.{and_from, and_parts, cases_lt, eq-eqb, eqb-true}
use Rattle.std.proofs.lemmas.List.{get_or_past}
use Rattle.iox_types.specs.declared.identifiers.system_id.UniqueSystemId.{UniqueSystemId}
use Rattle.iox_container.specs.declared.mpmc.container.container_handle.ContainerHandle.{ContainerHandle}
use Rattle.iox_registry.specs.declared.registered.Registered.{Registered}
use Rattle.iox_registry.specs.declared.roles.Role.{Role}
use Rattle.iox_registry.specs.declared.refusals.AddFailure.{AddFailure}
use Rattle.iox_registry.specs.declared.refusals.AddFailure.TheVariants.{Locked, Full}
use Rattle.iox_registry.specs.declared.refusals.ReleaseError.TheVariants.{Foreign, Spent}
use Rattle.iox_registry.specs.Registers.{Adds, HandleView, KeepsOrLoses, Registration, Registrations, Removes, add_refusal, details_of, is_own, left_with, listed, locked_after, most_tickets, registration_of, release_refusal, under_ticket}
use Rattle.iox_registry.specs.Standing.{IsEntryOf, handle_in, kept_in, shown, shown_slots}
use Rattle.iox_registry.proofs.HandleLemmas.{KeepsOrLoses-add, KeepsOrLoses-free}
use Rattle.iox_registry.proofs.IdLemmas.{same_role-is, same_role-of}

pub none_since : {A : Type 0} (o : Option A) → ((x : A) → o ≡ Some x → ⊥) → o ≡ None
none_since None not = refl
none_since (Some x) not = absurd (not x refl)

module _ {D : Type 0} where
  -- a register that refuses nothing is open, has a ticket left, and room
  pub open_parts : (register : Registrations D) → add_refusal register ≡ None
      → (register.locked ≡ false) × ((register.used_tickets == most_tickets) ≡ false)
      × ((length (listed register) == length register.slots) ≡ false)
  open_parts register none = parts _ _ _ none
    where
      parts : (a b c : Bool)
          → ◌≡◌ {A = Option AddFailure} (cond a (Some Locked) (cond b (Some Full) (cond c (Some Full) None))) None
          → (a ≡ false) × (b ≡ false) × (c ≡ false)
      parts true b c is = absurd (not_none is)
        where
          not_none : ◌≡◌ {A = Option AddFailure} (Some Locked) None → ⊥
          not_none same = cc
      parts false true c is = absurd (not_none is)
        where
          not_none : ◌≡◌ {A = Option AddFailure} (Some Full) None → ⊥
          not_none same = cc
      parts false false true is = absurd (not_none is)
        where
          not_none : ◌≡◌ {A = Option AddFailure} (Some Full) None → ⊥
          not_none same = cc
      parts false false false is = (refl, refl, refl)

  pub own_since : (register : Registrations D) (handle : HandleView) → handle.service ≡ register.service
      → handle.role ≡ register.role → is_own register handle ≡ true
  own_since register handle service role =
      and_from _ _ (eq-eqb _ _ service) (same_role-of handle.role register.role role)

  -- what was added stands under its handle
  pub details-added : (details : D) (old : Registrations D) (handle : HandleView) (new : Registrations D)
      → Adds details old handle new → details_of new handle ≡ Some details
  details-added details old handle new adds =
      rw (adds.left) (
      found (is_own old handle) (own_since old handle adds.service adds.role)
      (get_or-set_same old.slots handle.slot (Some (registration_of handle.ticket details)) None adds.within))
    where
      same : (t : ℕ) → under_ticket t (Some (registration_of t details)) ≡ Some details
      same t = rw (eq-eqb t t refl) refl

      found : (own : Bool) → own ≡ true
          → {slot : Option (Registration D)} → slot ≡ Some (registration_of handle.ticket details)
          → cond own (under_ticket handle.ticket slot) None ≡ Some details
      found own is at = rw (is, at) (same handle.ticket)

  pub KeepsOrLoses-Adds : (details : D) (old : Registrations D) (handle : HandleView) (new : Registrations D)
      → Adds details old handle new → KeepsOrLoses old new
  KeepsOrLoses-Adds details old handle new adds =
      rw (adds.left, adds.fresh) (KeepsOrLoses-add details old handle.slot)

  -- what is left, where the slots are told in another way
  pub left-is : (old : Registrations D) (slots told : List (Option (Registration D))) (locked : Bool)
      → locked ≡ locked_after old slots → slots ≡ told
      → record old { slots = slots; locked = locked } ≡ left_with old told
  left-is old slots told locked is same = rw (is, same) refl

  -- a handle of the register that tells nothing is spent
  pub spent : (register : Registrations D) (handle : HandleView) → is_own register handle ≡ true
      → is_some (details_of register handle) ≡ false → release_refusal register handle ≡ Some Spent
  spent register handle own none = of_bool _ _ own (of_option (details_of register handle) none)
    where
      of_option : (o : Option D) → is_some o ≡ false → is_none o ≡ true
      of_option None is = refl
      of_option (Some x) is = cc

      of_bool : (a b : Bool) → a ≡ true → b ≡ true → cond a (cond b (Some Spent) None) (Some Foreign) ≡ Some Spent
      of_bool a b one two = rw (one, two) refl

  -- an own handle has the service and the role of the register
  pub own-parts : (register : Registrations D) (handle : HandleView) → is_own register handle ≡ true
      → (handle.service ≡ register.service) × (handle.role ≡ register.role)
  own-parts register handle own =
      let parts = and_parts _ _ own in
      (eqb-true _ _ parts.0, same_role-is handle.role register.role parts.1)

  -- an own handle is told by what the container says of it
  pub handle-is : (register : Registrations D) (handle : HandleView) (service : ℕ) (role : Role) (ticket : ℕ) (entry : ContainerHandle)
      → handle_in service role ticket entry ≡ handle → IsEntryOf service ticket entry → is_own register handle ≡ true
      → (handle ≡ handle_in register.service register.role entry.ticket entry) × (entry.container_id ≡ register.service)
  handle-is register handle service role ticket entry view of_entry own =
      let parts = own-parts register handle own in
      let services : service ≡ register.service = ap (λ h. h.service) view ∙ parts.0 in
      let roles : role ≡ register.role = ap (λ h. h.role) view ∙ parts.1 in
      (sym view ∙ same services roles (sym of_entry.ticket), of_entry.service ∙ services)
    where
      same : {s s' t t' : ℕ} {r r' : Role} → s ≡ s' → r ≡ r' → t ≡ t' → handle_in s r t entry ≡ handle_in s' r' t' entry
      same one two three = rw (one, two, three) refl

  -- a handle whose registration went tells nothing
  pub details-removed : (handle : HandleView) (old new : Registrations D) → Removes handle old new → details_of new handle ≡ None
  details-removed handle old new removes =
      rw (removes.left) (hidden (is_own old handle) (emptied old.slots handle.slot))
    where
      emptied : (slots : List (Option (Registration D))) (i : ℕ) → get_or (set slots i None) i None ≡ None
      emptied slots i = elim (cases_lt i (length slots)) [
        | inl within ↦ get_or-set_same slots i None None within
        | inr past ↦ let size = length-set slots i None in get_or_past (set slots i None) i None (omega arith)
      ]

      hidden : (own : Bool) {slot : Option (Registration D)} → slot ≡ None → cond own (under_ticket {D = D} handle.ticket slot) None ≡ None
      hidden true at = ap (under_ticket handle.ticket) at
      hidden false at = refl

  pub KeepsOrLoses-Removes : (handle : HandleView) (old new : Registrations D) → Removes handle old new → KeepsOrLoses old new
  KeepsOrLoses-Removes handle old new removes = rw (removes.left) (KeepsOrLoses-free old handle.slot _)

  pub shown-new : (room : ℕ) → shown_slots {D = D} (replicate room None) ≡ replicate room None
  shown-new zero = refl
  shown-new (suc room) = ap (λ rest. None ∷ rest) (shown-new room)

-- what a slot has, told in another way, also past the end
pub get_or-told : {A B : Type 0} (f : A → B) (slots : List (Option A)) (i : ℕ)
    → get_or (map (option_map f) slots) i None ≡ option_map f (get_or slots i None)
get_or-told f [] i = refl
get_or-told f (slot ∷ slots) zero = refl
get_or-told f (slot ∷ slots) (suc i) = get_or-told f slots i
