-- Who has something in slots, and who has it in the rest of them.
use Rattle.std.proofs.Common.{◌≡◌, ◌+◌, ℕ, zero, suc, List, [], ◌∷◌, Option, Some, None, get_or, length, refl, sym, subst, ◌∙◌, arith}
use Rattle.iox_types.specs.declared.identifiers.system_id.UniqueSystemId.{UniqueSystemId}
use Rattle.iox_registry.specs.declared.registered.Registered.{Registered}
use Rattle.iox_registry.specs.Registers.{details_in}
use Rattle.iox_registry.specs.Standing.{HasNoOwner, HasOwner, shown_slots}

module _ {D : Type 0} (node : D → UniqueSystemId) (id : UniqueSystemId) where
  one_of : (a b : Registered D) → ◌≡◌ {A = Option (Registered D)} (Some a) (Some b) → a ≡ b
  one_of a b same = cc

  not_some : (kept : Registered D) → ◌≡◌ {A = Option (Registered D)} None (Some kept) → ⊥
  not_some kept same = cc

  -- the first has it
  pub owner-first : (kept : Registered D) (later : List (Option (Registered D))) → node kept.details ≡ id
      → HasOwner node (Some kept ∷ later) id kept.owner
  owner-first kept later is = (zero, kept, refl, is, refl)

  -- one of the rest has it
  pub owner-later : (first : Option (Registered D)) (later : List (Option (Registered D))) (owner : ℕ) → HasOwner node later id owner
      → HasOwner node (first ∷ later) id owner
  owner-later first later owner (slot, kept, at, is, own) = (suc slot, kept, at, is, own)

  -- the first has nothing, and nobody of the rest has it
  pub none-first : (later : List (Option (Registered D))) → HasNoOwner node later id → HasNoOwner node (None ∷ later) id
  none-first later none zero kept has is = not_some kept has
  none-first later none (suc slot) kept has is = none slot kept has is

  -- the first is another's
  pub none-other : (other : Registered D) (later : List (Option (Registered D))) → (node other.details ≡ id → ⊥) → HasNoOwner node later id
      → HasNoOwner node (Some other ∷ later) id
  none-other other later not none zero kept has is = not (subst (λ (x : Registered D). node x.details ≡ id) (sym (one_of other kept has)) is)
  none-other other later not none (suc slot) kept has is = none slot kept has is

  -- where nothing is left nobody has it
  pub none-left : (slots : List (Option (Registered D))) → length (details_in (shown_slots slots)) ≡ 0 → HasNoOwner node slots id
  none-left [] empty = λ slot kept has is. not_some kept has
  none-left (None ∷ later) empty = none-first later (none-left later empty)
  none-left (Some other ∷ later) empty = absurd (omega (arith, empty))
