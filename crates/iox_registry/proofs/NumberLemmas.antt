-- How many are listed before and after a call.
use Rattle.std.proofs.Common.{◌≡◌, ◌==◌, ◌&&◌, ◌+◌, ◌<◌, ◌≤◌, ◌↔◌, ℕ, zero, suc, Bool, true, false, List, [], ◌∷◌, Option, Some, None, is_some, cond, length, get_or, set, refl, ap, sym, subst, ◌∙◌, arith}
use Rattle.std.specs.Prelude.{nat_lt}
use Rattle.std.proofs.lemmas.Bool.{eq-eqb, eqb-true, lt-ltb}
use Rattle.iox_registry.specs.declared.roles.Role.TheVariants.{Node}
use Rattle.iox_registry.specs.Registers.{Adds, HandleView, Registration, Registrations, Removes, details_in, details_of, is_own, left_with, listed, locked_after, registration_of, same_role, under_ticket}
use Rattle.iox_registry.proofs.IdLemmas.{same_role-of}

module _ {D : Type 0} where
  one-more : (slots : List (Option (Registration D))) (i : ℕ) (r : Registration D) → i < length slots
      → get_or slots i None ≡ None → length (details_in (set slots i (Some r))) ≡ length (details_in slots) + 1
  one-more [] i r within free = absurd (not_below within)
    where
      not_below : i < 0 → ⊥
      not_below below = omega arith
  one-more (None ∷ slots) zero r within free = omega arith
  one-more (Some first ∷ slots) zero r within free = absurd (not_none free)
    where
      not_none : ◌≡◌ {A = Option (Registration D)} (Some first) None → ⊥
      not_none same = cc
  one-more (None ∷ slots) (suc i) r within free = one-more slots i r (omega arith) free
  one-more (Some first ∷ slots) (suc i) r within free = let rest = one-more slots i r (omega arith) free in omega arith

  one-less : (slots : List (Option (Registration D))) (i : ℕ) (r : Registration D) → get_or slots i None ≡ Some r
      → length (details_in (set slots i None)) + 1 ≡ length (details_in slots)
  one-less [] i r has = absurd (not_some has)
    where
      not_some : ◌≡◌ {A = Option (Registration D)} None (Some r) → ⊥
      not_some same = cc
  one-less (None ∷ slots) zero r has = absurd (not_some has)
    where
      not_some : ◌≡◌ {A = Option (Registration D)} None (Some r) → ⊥
      not_some same = cc
  one-less (Some first ∷ slots) zero r has = omega arith
  one-less (None ∷ slots) (suc i) r has = one-less slots i r has
  one-less (Some first ∷ slots) (suc i) r has = let rest = one-less slots i r has in omega arith

  pub listed-added : (details : D) (old : Registrations D) (handle : HandleView) (new : Registrations D)
      → Adds details old handle new → length (listed new) ≡ length (listed old) + 1
  listed-added details old handle new adds =
      ap (λ r. length (listed r)) adds.left
      ∙ one-more old.slots handle.slot (registration_of handle.ticket details) adds.within adds.free

  has-slot : (own : Bool) (ticket : ℕ) (slot : Option (Registration D)) → is_some (cond own (under_ticket ticket slot) None) ≡ true
      → (r : Registration D) × (slot ≡ Some r)
  has-slot own ticket (Some r) had = (r, refl)
  has-slot true ticket None had = absurd (not_some had)
    where
      not_some : is_some {T = D} None ≡ true → ⊥
      not_some is = cc
  has-slot false ticket None had = absurd (not_some had)
    where
      not_some : is_some {T = D} None ≡ true → ⊥
      not_some is = cc

  emptied : (handle : HandleView) (old new : Registrations D) → Removes handle old new
      → length (details_in (set old.slots handle.slot None)) + 1 ≡ length (listed old)
  emptied handle old new removes =
      let has = has-slot (is_own old handle) handle.ticket (get_or old.slots handle.slot None) removes.had in
      one-less old.slots handle.slot has.0 has.1

  pub listed-removed : (handle : HandleView) (old new : Registrations D) → Removes handle old new
      → length (listed new) + 1 ≡ length (listed old)
  listed-removed handle old new removes =
      ap (λ r. length (listed r) + 1) removes.left ∙ emptied handle old new removes

  -- a register of nodes is locked exactly if nothing is left
  pub locked-removed : (handle : HandleView) (old new : Registrations D) → Removes handle old new → old.role ≡ Node
      → new.locked ≡ (length (listed new) == 0)
  locked-removed handle old new removes role =
      let less = emptied handle old new removes in
      ap (λ r. r.locked) removes.left
      ∙ chosen _ _ old.locked (length (details_in (set old.slots handle.slot None)) == 0) (lt-ltb _ _ (smaller less)) (same_role-of old.role Node role)
      ∙ sym (ap (λ r. length (listed r) == 0) removes.left)
    where
      smaller : {n m : ℕ} → n + 1 ≡ m → n < m
      smaller is = omega arith

      chosen : (b x y z : Bool) → b ≡ true → x ≡ true → cond b (x && z) y ≡ z
      chosen b x y z one two = rw (one, two) refl

  pub ends-removed : (handle : HandleView) (old new : Registrations D) → Removes handle old new → old.role ≡ Node
      → (new.locked ≡ true) ↔ (length (listed new) ≡ 0)
  ends-removed handle old new removes role =
      let locked = locked-removed handle old new removes role in
      (λ is. eqb-true _ _ (sym locked ∙ is), λ none. locked ∙ eq-eqb _ _ none)
