-- What calls make of a register, one after another.
use Rattle.std.proofs.Common.{◌≡◌, ◌≢◌, ◌==◌, ◌&&◌, ◌+◌, ◌<◌, ◌≤◌, ◌⊎◌, ℕ, zero, suc, Bool, true, false, List, [], ◌∷◌, Option, Some, None, is_some, cond, length, get_or, map, replicate, set, refl, ap, sym, subst, ◌∙◌, inl, inr, arith}
use Rattle.std.specs.Prelude.{nat_lt}
use Rattle.std.proofs.lemmas.Bool.{and_parts, cases_Bool, eqb-true, ltb-false}
use Rattle.iox_types.specs.declared.identifiers.system_id.UniqueSystemId.{UniqueSystemId}
use Rattle.iox_registry.specs.declared.roles.Role.{Role}
use Rattle.iox_registry.specs.declared.roles.Role.TheVariants.{Node}
use Rattle.iox_registry.specs.Changes.{Changes, LeadsTo}
use Rattle.iox_registry.specs.Registers.{Adds, HandleView, KeepsOrLoses, Registration, Registrations, Removes, WasGiven, details_in, details_of, is_own, left_with, listed, locked_after, new_register, recovered, same_id, same_role, under_ticket, without_node}
use Rattle.iox_registry.proofs.HandleLemmas.{KeepsOrLoses-recovered}
use Rattle.iox_registry.proofs.IdLemmas.{same_id-not, same_id-of, same_role-is}
use Rattle.iox_registry.proofs.RecoveryLemmas.{recovered-none}
use Rattle.iox_registry.proofs.RegisterLemmas.{KeepsOrLoses-Adds, KeepsOrLoses-Removes, open_parts, own_since}

module _ {D : Type 0} (node : D → UniqueSystemId) where
  -- each call keeps handles or loses them
  pub KeepsOrLoses-change : (old new : Registrations D) → Changes node old new → KeepsOrLoses old new
  KeepsOrLoses-change old new (inl adds) = KeepsOrLoses-Adds adds.0 old adds.1 new adds.2
  KeepsOrLoses-change old new (inr (inl removes)) = KeepsOrLoses-Removes removes.0 old new removes.1
  KeepsOrLoses-change old new (inr (inr takes)) =
      subst (KeepsOrLoses old) (sym takes.1) (KeepsOrLoses-recovered node takes.0 old)

  -- what went is gone for good
  pub gone-for-good : (old : Registrations D) (later : List (Registrations D)) (last : Registrations D) (handle : HandleView)
      → LeadsTo node old later last → WasGiven old handle → details_of old handle ≡ None → details_of last handle ≡ None
  gone-for-good old [] last handle leads given gone = ap (λ r. details_of r handle) leads ∙ gone
  gone-for-good old (next ∷ later) last handle (change, leads) given gone =
      let kept = KeepsOrLoses-change old next change in
      gone-for-good next later last handle leads (kept.given handle given) (elim (kept.details handle given) [
        | inl same ↦ same ∙ gone
        | inr none ↦ none
      ])

  -- no more is listed once one slot is emptied
  fewer-set : (slots : List (Option (Registration D))) (i : ℕ)
      → length (details_in (set slots i None)) ≤ length (details_in slots)
  fewer-set [] i = omega arith
  fewer-set (None ∷ slots) zero = omega arith
  fewer-set (Some first ∷ slots) zero = omega arith
  fewer-set (None ∷ slots) (suc i) = fewer-set slots i
  fewer-set (Some first ∷ slots) (suc i) = let rest = fewer-set slots i in omega arith

  fewer-map : (id : UniqueSystemId) (slots : List (Option (Registration D)))
      → length (details_in (map (without_node node id) slots)) ≤ length (details_in slots)
  fewer-map id [] = omega arith
  fewer-map id (None ∷ slots) = fewer-map id slots
  fewer-map id (Some first ∷ slots) = of_bool (same_id (node first.details) id) (fewer-map id slots)
    where
      of_bool : (b : Bool) → length (details_in (map (without_node node id) slots)) ≤ length (details_in slots)
          → length (details_in (cond b None (Some first) ∷ map (without_node node id) slots))
          ≤ suc (length (details_in slots))
      of_bool true rest = omega arith
      of_bool false rest = omega arith

  -- where one is locked it is empty, and is one of nodes
  abbrev pub IsEnded : Registrations D → Type 0
  IsEnded register = register.locked ≡ true → (length (listed register) ≡ 0) × (register.role ≡ Node)

  ended-left : (old : Registrations D) (left : List (Option (Registration D)))
      → length (details_in left) ≤ length (listed old) → IsEnded old → IsEnded (left_with old left)
  ended-left old left few ended locked = elim (cases_Bool (nat_lt (length (details_in left)) (length (listed old)))) [
    | inl fewer ↦
        let parts = and_parts _ _ (chosen _ _ _ fewer locked) in
        (eqb-true _ _ parts.1, same_role-is old.role Node parts.0)
    | inr same ↦
        let was = ended (other _ _ _ same locked) in
        let none = was.0 in
        (omega arith, was.1)
  ]
    where
      chosen : (b x y : Bool) → b ≡ true → cond b x y ≡ true → x ≡ true
      chosen b x y is locked = sym (first b x y is) ∙ locked
        where
          first : (b x y : Bool) → b ≡ true → cond b x y ≡ x
          first b x y is = rw is refl

      other : (b x y : Bool) → b ≡ false → cond b x y ≡ true → y ≡ true
      other b x y is locked = sym (second b x y is) ∙ locked
        where
          second : (b x y : Bool) → b ≡ false → cond b x y ≡ y
          second b x y is = rw is refl

  ended-change : (old new : Registrations D) → Changes node old new → IsEnded old → IsEnded new
  ended-change old new (inl adds) ended = λ locked.
      absurd (both (open_parts old adds.2.allowed).0 (sym (ap (λ r. r.locked) adds.2.left) ∙ locked))
    where
      both : old.locked ≡ false → old.locked ≡ true → ⊥
      both no_more is_so = cc
  ended-change old new (inr (inl removes)) ended =
      subst IsEnded (sym removes.1.left) (ended-left old (set old.slots removes.0.slot None) (fewer-set old.slots removes.0.slot) ended)
  ended-change old new (inr (inr takes)) ended =
      subst IsEnded (sym takes.1) (ended-left old (map (without_node node takes.0) old.slots) (fewer-map takes.0 old.slots) ended)

  ended-later : (old : Registrations D) (later : List (Registrations D)) (last : Registrations D)
      → LeadsTo node old later last → IsEnded old → IsEnded last
  ended-later old [] last leads ended = subst IsEnded (sym leads) ended
  ended-later old (next ∷ later) last (change, leads) ended =
      ended-later next later last leads (ended-change old next change ended)

  pub ended-from-new : (service : ℕ) (role : Role) (limit : ℕ) (later : List (Registrations D)) (last : Registrations D)
      → LeadsTo node (new_register service role limit) later last → IsEnded last
  ended-from-new service role limit later last leads =
      ended-later (new_register service role limit) later last leads (λ locked. absurd (not_open locked))
    where
      not_open : ◌≡◌ {A = Bool} false true → ⊥
      not_open same = cc

  -- what a recovery leaves under a handle
  pub recovered-of : (id : UniqueSystemId) (old : Registrations D) (handle : HandleView) (details : D)
      → details_of old handle ≡ Some details
      → details_of (recovered node id old) handle ≡ cond (same_id (node details) id) None (Some details)
  recovered-of id old handle details told = of_own (is_own old handle) told
    where
      not_some : ◌≡◌ {A = Option D} None (Some details) → ⊥
      not_some same = cc

      under : (r : Registration D) → (r.ticket == handle.ticket) ≡ true → (b : Bool)
          → under_ticket handle.ticket (cond b None (Some r)) ≡ cond b None (Some r.details)
      under r hit true = refl
      under r hit false = rw hit refl

      picked : (r : Registration D) (t : Bool) → cond t (Some r.details) None ≡ Some details
          → (t ≡ true) × (r.details ≡ details)
      picked r true is = (refl, one_of is)
        where
          one_of : ◌≡◌ {A = Option D} (Some r.details) (Some details) → r.details ≡ details
          one_of same = cc
      picked r false is = absurd (not_some is)

      of_slot : (slots : List (Option (Registration D))) (i : ℕ)
          → under_ticket handle.ticket (get_or slots i None) ≡ Some details
          → under_ticket handle.ticket (get_or (map (without_node node id) slots) i None)
          ≡ cond (same_id (node details) id) None (Some details)
      of_slot [] i is = absurd (not_some is)
      of_slot (None ∷ slots) zero is = absurd (not_some is)
      of_slot (Some r ∷ slots) zero is =
          let here = picked r (r.ticket == handle.ticket) is in
          under r here.0 (same_id (node r.details) id)
          ∙ ap (λ d. cond (same_id (node d) id) None (Some d)) here.1
      of_slot (slot ∷ slots) (suc i) is = of_slot slots i is

      of_own : (own : Bool) → cond own (under_ticket handle.ticket (get_or old.slots handle.slot None)) None ≡ Some details
          → cond own (under_ticket handle.ticket (get_or (map (without_node node id) old.slots) handle.slot None)) None
          ≡ cond (same_id (node details) id) None (Some details)
      of_own true is = of_slot old.slots handle.slot is
      of_own false is = absurd (not_some is)

  -- where nothing is listed, no slot has anything
  nothing-under : (slots : List (Option (Registration D))) → details_in slots ≡ [] → (i ticket : ℕ)
      → under_ticket ticket (get_or slots i None) ≡ None
  nothing-under [] none i ticket = refl
  nothing-under (None ∷ slots) none zero ticket = refl
  nothing-under (None ∷ slots) none (suc i) ticket = nothing-under slots none i ticket
  nothing-under (Some r ∷ slots) none i ticket = absurd (not_nil none)
    where
      not_nil : r.details ∷ details_in slots ≡ [] → ⊥
      not_nil same = cc

  nothing-without : (id : UniqueSystemId) (slots : List (Option (Registration D))) → details_in slots ≡ []
      → map (without_node node id) slots ≡ slots
  nothing-without id [] none = refl
  nothing-without id (None ∷ slots) none = ap (λ rest. None ∷ rest) (nothing-without id slots none)
  nothing-without id (Some r ∷ slots) none = absurd (not_nil none)
    where
      not_nil : r.details ∷ details_in slots ≡ [] → ⊥
      not_nil same = cc

  pub stays-locked : (old next : Registrations D) → old.locked ≡ true → listed old ≡ [] → Changes node old next → next ≡ old
  stays-locked old next locked none (inl adds) = absurd (both (open_parts old adds.2.allowed).0 locked)
    where
      both : old.locked ≡ false → old.locked ≡ true → ⊥
      both no_more is_so = cc
  stays-locked old next locked none (inr (inl removes)) =
      absurd (not_some (sym (ap is_some (hidden (is_own old removes.0) (nothing-under old.slots none removes.0.slot removes.0.ticket))) ∙ removes.1.had))
    where
      not_some : is_some {T = D} None ≡ true → ⊥
      not_some is = cc

      hidden : (own : Bool) {found : Option D} → found ≡ None → cond own found None ≡ None
      hidden true is = is
      hidden false is = refl
  stays-locked old next locked none (inr (inr takes)) =
      takes.1 ∙ recovered-none node takes.0 old (nothing-without takes.0 old.slots none)

-- a handle that was given is the register's own
pub own-given : {D : Type 0} (register : Registrations D) (handle : HandleView) → WasGiven register handle → is_own register handle ≡ true
own-given register handle given = own_since register handle given.0 given.1

pub given-later : {D : Type 0} (node : D → UniqueSystemId) (old : Registrations D) (later : List (Registrations D))
    (last : Registrations D) (handle : HandleView) → LeadsTo node old later last → WasGiven old handle → WasGiven last handle
given-later node old [] last handle leads given = subst (λ r. WasGiven r handle) (sym leads) given
given-later node old (next ∷ later) last handle (change, leads) given =
    given-later node next later last handle leads ((KeepsOrLoses-change node old next change).given handle given)
