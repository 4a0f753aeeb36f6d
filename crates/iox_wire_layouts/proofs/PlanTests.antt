-- What the tests of a plan tell.
use Rattle.std.specs.List.{All, list_any}
use Rattle.std.proofs.Common.{◌≡◌, ℕ, ◌*◌, ◌/◌, ◌%◌, ◌<◌, ◌≤◌, true, ◌==◌, ◌||◌, eq-eqb, eqb-true, leb, List, [], ◌∷◌, map, refl, ap, sym, arith}
use Rattle.std.proofs.lemmas.List.Elements.{All-cons, All-same, All-tail}
use Rattle.iox_model.specs.Maps.{has_number}
use Rattle.iox_types.specs.declared.message_type_details.MessageTypeDetails.{MessageTypeDetails}
use Rattle.iox_types.specs.Layouts.{message_bytes, message_size}
use Rattle.iox_types.specs.Places.{IsAlignedTo}
use Rattle.iox_types.proofs.LayoutLemmas.{aligned_place-ge}
use Rattle.iox_word_map.specs.MessageWords.{IsSlotFor}
use Rattle.iox_word_places.specs.declared.plan.PlanPort.{PlanPort}

-- a test among ports is one among their numbers
pub any_number : (n : ℕ) (ps : List PlanPort) → list_any (λ p. p.number == n) ps ≡ has_number n (map (λ p. p.number) ps)
any_number n [] = refl
any_number n (p ∷ ps) = ap (λ b. (p.number == n) || b) (any_number n ps)

-- whole words, by the rest of a division
pub whole_words : (s size : ℕ) → s ≡ size → ((s % 8 == 0) ≡ true → IsAlignedTo 8 size) × (IsAlignedTo 8 size → (s % 8 == 0) ≡ true)
whole_words s size e = (
  λ t. (size / 8, divides (eqb-true (s % 8) 0 t)),
  λ k. eq-eqb (s % 8) 0 (divided k.0 k.1),
)
  where
    divides : s % 8 ≡ 0 → size ≡ size / 8 * 8
    divides h = omega (arith, e, h)

    divided : (k : ℕ) → size ≡ k * 8 → s % 8 ≡ 0
    divided k h = omega (arith, e, h)

-- elements that have no room leave none for their message
pub too_long : (details : MessageTypeDetails) (longest size words : ℕ) → size ≡ details.payload.size → 0 < details.header.alignment
    → IsSlotFor details longest words → longest * size ≤ words * 8
too_long details longest size words e positive is =
    let rounded : message_bytes details longest ≤ message_size details longest =
    aligned_place-ge (message_bytes details longest) details.header.alignment positive in
    let same : longest * size ≡ longest * details.payload.size = ap (λ k. longest * k) e in
    let slot : message_size details longest ≡ 8 * words = is in
    omega arith

pub no_room : (X : Type 0) (a b : ℕ) → b < a → (X → a ≤ b) → (leb a b ≡ true → X) × (X → leb a b ≡ true)
no_room X a b low small = (λ t. absurd (over t), λ x. absurd (omega (arith, low, small x)))
  where
    over : leb a b ≡ true → ⊥
    over t = grind (arith, low, t)

-- if the first has its slots, all have exactly if the others have
pub slots_go_on : (P : PlanPort → Type 0) (first : PlanPort) (later rest all : List PlanPort) → rest ≡ first ∷ later → P first
    → (All P all → All P rest) → (All P rest → All P all) → (All P all → All P later) × (All P later → All P all)
slots_go_on P first later rest all split here down up = (
  λ each. All-tail P first later (All-same P (first ∷ later) rest (sym split) (down each)),
  λ each. up (All-same P rest (first ∷ later) split (All-cons P first later here each)),
)
