-- Types of messages are compatible or they are not.
use Rattle.std.proofs.Common.{ℕ, ◌≡◌, ◌≤◌, ◌∙◌, Bool, true, false, List, refl, sym, ap, true≢false, inl, inr}
use Rattle.std.specs.Prelude.{◌⊎◌, nat_eq}
use Rattle.std.proofs.Math.Dec.{eqb, leb}
use Rattle.std.proofs.lemmas.Bool.{eqb-true, eq-eqb, leb-true, le-leb}
use Rattle.std.specs.Cmp.Lexicographic.{nat_list_eq_equiv, pointwise, same_text}
use Rattle.iox_types.specs.Details.{Detail, IsCompatible}
use Rattle.iox_types.specs.Compatibility.{AreCompatible}
use Rattle.iox_types.specs.declared.type_detail.TypeVariant.{TypeVariant}
use Rattle.iox_types.specs.declared.type_detail.TypeVariant.TheVariants.{FixedSize, Dynamic}
use Rattle.iox_types.specs.declared.message_type_details.MessageTypeDetails.{MessageTypeDetails}

-- what a test tells holds or does not
by_test : {P : Type 0} (test : Bool) → (test ≡ true → P) → (P → test ≡ true) → P ⊎ (¬ P)
by_test true holds back = inl (holds refl)
by_test false holds back = inr (λ p. true≢false (sym (back p)))

-- so does what is told by two parts
by_parts : {A B P : Type 0} → (A → B → P) → (P → A) → (P → B) → A ⊎ (¬ A) → B ⊎ (¬ B) → P ⊎ (¬ P)
by_parts both first second (inl a) (inl b) = inl (both a b)
by_parts both first second (inl a) (inr fails) = inr (λ p. fails (second p))
by_parts both first second (inr fails) b = inr (λ p. fails (first p))

both : {A B : Type 0} → A ⊎ (¬ A) → B ⊎ (¬ B) → (A × B) ⊎ (¬ (A × B))
both a b = by_parts (λ x y. (x, y)) (λ p. p.0) (λ p. p.1) a b

same-variant : (a b : TypeVariant) → (a ≡ b) ⊎ (¬ (a ≡ b))
same-variant FixedSize FixedSize = inl refl
same-variant FixedSize Dynamic = inr (λ h. cc)
same-variant Dynamic FixedSize = inr (λ h. cc)
same-variant Dynamic Dynamic = inl refl

same-name : (a b : List ℕ) → (a ≡ b) ⊎ (¬ (a ≡ b))
same-name a b = by_test (pointwise nat_eq a b) (λ h. same_text a b (sym h))
    (λ h. sym (ap (pointwise nat_eq a) h) ∙ nat_list_eq_equiv.refl a)

same-number : (a b : ℕ) → (a ≡ b) ⊎ (¬ (a ≡ b))
same-number a b = by_test (eqb a b) (eqb-true a b) (eq-eqb a b)

no-more : (a b : ℕ) → (a ≤ b) ⊎ (¬ (a ≤ b))
no-more a b = by_test (leb a b) (leb-true a b) (le-leb a b)

-- types are compatible or not
compatible : (a b : Detail) → IsCompatible a b ⊎ (¬ IsCompatible a b)
compatible a b = by_parts
    (λ x y. record { variant = x.0; name = x.1; size = y.0; alignment = y.1 })
    (λ h. (h.variant, h.name)) (λ h. (h.size, h.alignment))
    (both (same-variant a.variant b.variant) (same-name a.name b.name))
    (both (same-number a.size b.size) (no-more a.alignment b.alignment))

-- so are messages
pub compatible_or_not : (a b : MessageTypeDetails) → AreCompatible a b ⊎ (¬ AreCompatible a b)
compatible_or_not a b = by_parts
    (λ x y. record { header = x.0; user_header = x.1; payload = y })
    (λ h. (h.header, h.user_header)) (λ h. h.payload)
    (both (compatible a.header b.header) (compatible a.user_header b.user_header))
    (compatible a.payload b.payload)
