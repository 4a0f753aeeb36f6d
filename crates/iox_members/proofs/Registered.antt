-- Registers: what a handle tells as another comes or goes, and what is listed then.
use Rattle.std.proofs.Common.{◌≡◌, ◌==◌, ℕ, zero, suc, Bool, true, false, List, [], ◌∷◌, Option, Some, None, cond, get_or, set, refl, ap, sym, subst, ◌∙◌, get_or-set_other}
use Rattle.std.specs.Prelude.{IsPermutation}
use Rattle.std.proofs.lemmas.List.Sorted.{IsPermutation-cons, IsPermutation-middle, IsPermutation-refl, IsPermutation-sym, IsPermutation-trans}
use Rattle.iox_registry.specs.Registers.{Adds, HandleView, Registration, Registrations, details_in, details_of, is_own, left_with, registration_of, under_ticket}

module _ {D : Type 0} where
  not_some : (d : D) → ◌≡◌ {A = Option D} None (Some d) → ⊥
  not_some d same = cc

  one_of : (a b : D) → ◌≡◌ {A = Option D} (Some a) (Some b) → a ≡ b
  one_of a b same = cc

  empty_slot : (r : Registration D) → ◌≡◌ {A = Option (Registration D)} None (Some r) → ⊥
  empty_slot r same = cc

  one_slot : (a b : Registration D) → ◌≡◌ {A = Option (Registration D)} (Some a) (Some b) → a ≡ b
  one_slot a b same = cc

  -- what a handle tells stands in its slot
  under : (ticket : ℕ) (slot : Option (Registration D)) (d : D) → under_ticket ticket slot ≡ Some d
      → (r : Registration D) × (slot ≡ Some r) × (r.details ≡ d)
  under ticket None d told = absurd (not_some d told)
  under ticket (Some r) d told = (r, refl, of_test (r.ticket == ticket) told)
    where
      of_test : (b : Bool) → cond b (Some r.details) None ≡ Some d → r.details ≡ d
      of_test true is = one_of r.details d is
      of_test false is = absurd (not_some d is)

  told_by : (own : Bool) (ticket : ℕ) (slot : Option (Registration D)) (d : D) → cond own (under_ticket ticket slot) None ≡ Some d
      → (r : Registration D) × (slot ≡ Some r) × (r.details ≡ d)
  told_by true ticket slot d told = under ticket slot d told
  told_by false ticket slot d told = absurd (not_some d told)

  pub told : (register : Registrations D) (handle : HandleView) (d : D) → details_of register handle ≡ Some d
      → (r : Registration D) × (get_or register.slots handle.slot None ≡ Some r) × (r.details ≡ d)
  told register handle d is = told_by (is_own register handle) handle.ticket (get_or register.slots handle.slot None) d is

  -- another slot changes nothing of it
  elsewhere : (own : Bool) (ticket : ℕ) (slots : List (Option (Registration D))) (i j : ℕ) (slot : Option (Registration D)) → (j ≡ i → ⊥)
      → cond own (under_ticket ticket (get_or (set slots i slot) j None)) None ≡ cond own (under_ticket ticket (get_or slots j None)) None
  elsewhere own ticket slots i j slot other = ap (λ s. cond own (under_ticket ticket s) None) (get_or-set_other slots i j slot None other)

  -- ---- one comes

  pub stays-added : (details : D) (old : Registrations D) (handle : HandleView) (new : Registrations D) → Adds details old handle new
      → (other : HandleView) (d : D) → details_of old other ≡ Some d → details_of new other ≡ Some d
  stays-added details old handle new adds other d is =
      ap (λ r. details_of r other) adds.left
      ∙ elsewhere (is_own old other) other.ticket old.slots handle.slot other.slot (Some (registration_of handle.ticket details)) apart ∙ is
    where
      apart : other.slot ≡ handle.slot → ⊥
      apart same =
          let has = told old other d is in
          empty_slot has.0 (sym adds.free ∙ ap (λ k. get_or old.slots k None) (sym same) ∙ has.1)

  -- ---- one goes

  -- what one handle tells stays as another's slot is emptied
  pub stays-removed : (old : Registrations D) (handle other : HandleView) (a b : D) → details_of old handle ≡ Some a → details_of old other ≡ Some b
      → (b ≡ a → ⊥) → details_of (left_with old (set old.slots handle.slot None)) other ≡ Some b
  stays-removed old handle other a b has is differ =
      elsewhere (is_own old other) other.ticket old.slots handle.slot other.slot None apart ∙ is
    where
      apart : other.slot ≡ handle.slot → ⊥
      apart same =
          let first = told old handle a has in
          let second = told old other b is in
          let one : second.0 ≡ first.0 = one_slot second.0 first.0 (sym second.1 ∙ ap (λ k. get_or old.slots k None) same ∙ first.1) in
          differ (sym second.2 ∙ ap (λ (r : Registration D). r.details) one ∙ first.2)

  -- ---- what is listed

  -- one is listed beside those that are once its slot is empty
  pub listed-beside : (slots : List (Option (Registration D))) (i : ℕ) (r : Registration D) → get_or slots i None ≡ Some r
      → IsPermutation (r.details ∷ details_in (set slots i None)) (details_in slots)
  listed-beside [] i r has = absurd (empty_slot r has)
  listed-beside (None ∷ slots) zero r has = absurd (empty_slot r has)
  listed-beside (Some first ∷ slots) zero r has =
      subst (λ (s : Registration D). IsPermutation (s.details ∷ details_in slots) (first.details ∷ details_in slots)) (one_slot first r has)
      (IsPermutation-refl (first.details ∷ details_in slots))
  listed-beside (None ∷ slots) (suc i) r has = listed-beside slots i r has
  listed-beside (Some first ∷ slots) (suc i) r has =
      let left : List D = details_in (set slots i None) in
      IsPermutation-trans (r.details ∷ first.details ∷ left) (first.details ∷ r.details ∷ left) (first.details ∷ details_in slots)
      (IsPermutation-sym _ _ (IsPermutation-middle (first.details ∷ []) r.details left))
      (IsPermutation-cons first.details _ _ (listed-beside slots i r has))
