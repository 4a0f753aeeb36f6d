-- Parts of a stretch stand apart, each within what is around it.
use Rattle.std.proofs.Common.{◌≡◌, ℕ, ◌+◌, ◌≤◌, ◌⊎◌, true, ◌==◌, eqb-true, eq-eqb, List, [], ◌∷◌, length, refl, ◌∙◌, ap, sym, subst, inl, inr, true≢false, arith}
use Rattle.std.proofs.lemmas.Bool.{cases_Bool}
use Rattle.iox_model.specs.Maps.{has_number}
use Rattle.iox_steps.specs.Accesses.{AreApart}
use Rattle.iox_word_map.specs.Stretches.{Stretch, Plain, Divided, sum_of, sum_before, stretch_size, HasPath, part_at, place_at, PathsPart}

nothing_has : (k : ℕ) → has_number k [] ≡ true → ⊥
nothing_has k has = true≢false (sym has)

pub within_sum : (size : ℕ → ℕ) (k : ℕ) (names : List ℕ) → has_number k names ≡ true
    → sum_before size k names + size k ≤ sum_of size names
within_sum size k [] has = absurd (nothing_has k has)
within_sum size k (j ∷ js) has = elim (cases_Bool (j == k)) [
  | inl same ↦ (
      let e : size j ≡ size k = ap size (eqb-true j k same) in
      rw same (omega arith)
      )
  | inr other ↦ (
      let there : has_number k js ≡ true = rw other at has in
      let below : sum_before size k js + size k ≤ sum_of size js = within_sum size k js there in
      rw other (omega arith)
      )
]

-- of two parts one stands before the other
pub parts_in_turn : (size : ℕ → ℕ) (i j : ℕ) (names : List ℕ) → (i ≡ j → ⊥) → has_number i names ≡ true → has_number j names ≡ true
    → (sum_before size i names + size i ≤ sum_before size j names) ⊎ (sum_before size j names + size j ≤ sum_before size i names)
parts_in_turn size i j [] apart has has' = absurd (nothing_has i has)
parts_in_turn size i j (k ∷ ks) apart has has' = elim (cases_Bool (k == i)) [
  | inl first ↦ elim (cases_Bool (k == j)) [
    | inl same ↦ absurd (apart (sym (eqb-true k i first) ∙ eqb-true k j same))
    | inr other ↦ inl (let e : size k ≡ size i = ap size (eqb-true k i first) in rw (first, other) (omega arith))
  ]
  | inr later ↦ elim (cases_Bool (k == j)) [
    | inl first ↦ inr (let e : size k ≡ size j = ap size (eqb-true k j first) in rw (later, first) (omega arith))
    | inr other ↦ (
        let here : has_number i ks ≡ true = rw later at has in
        let there : has_number j ks ≡ true = rw other at has' in
        elim (parts_in_turn size i j ks apart here there) [
          | inl before ↦ inl (rw (later, other) (omega arith))
          | inr behind ↦ inr (rw (later, other) (omega arith))
        ]
        )
  ]
]

pub part_within : (t : Stretch) (path : List ℕ) → HasPath t path → place_at t path + stretch_size (part_at t path) ≤ stretch_size t
part_within t [] has = omega arith
part_within (Plain size) (k ∷ path) has = absurd has
part_within (Divided names part) (k ∷ path) has =
    let outer : sum_before (λ j. stretch_size (part j)) k names + stretch_size (part k) ≤ sum_of (λ j. stretch_size (part j)) names
    = within_sum (λ j. stretch_size (part j)) k names has.0 in
    let inner : place_at (part k) path + stretch_size (part_at (part k) path) ≤ stretch_size (part k) = part_within (part k) path has.1 in
    omega arith

-- Paths of which neither begins the other lead to parts that stand apart.
pub parts_apart : (t : Stretch) (p q : List ℕ) → HasPath t p → HasPath t q → PathsPart p q
    → AreApart (place_at t p) (stretch_size (part_at t p)) (place_at t q) (stretch_size (part_at t q))
parts_apart t [] q has has' parted = absurd parted
parts_apart t (i ∷ p) [] has has' parted = absurd parted
parts_apart (Plain size) (i ∷ p) (j ∷ q) has has' parted = absurd has
parts_apart (Divided names part) (i ∷ p) (j ∷ q) has has' (inl other) =
    let size : ℕ → ℕ = λ k. stretch_size (part k) in
    let here : place_at (part i) p + stretch_size (part_at (part i) p) ≤ stretch_size (part i) = part_within (part i) p has.1 in
    let there : place_at (part j) q + stretch_size (part_at (part j) q) ≤ stretch_size (part j) = part_within (part j) q has'.1 in
    elim (parts_in_turn (λ k. stretch_size (part k)) i j names other has.0 has'.0) [
      | inl before ↦ inl (omega arith)
      | inr behind ↦ inr (omega arith)
    ]
parts_apart (Divided names part) (i ∷ p) (j ∷ q) has has' (inr same) =
    subst (λ k. HasPath (part k) q
    → AreApart (sum_before (λ l. stretch_size (part l)) i names + place_at (part i) p) (stretch_size (part_at (part i) p))
    (sum_before (λ l. stretch_size (part l)) k names + place_at (part k) q) (stretch_size (part_at (part k) q))) same.0
    (λ there. elim (parts_apart (part i) p q has.1 there same.1) [
      | inl before ↦ inl (omega arith)
      | inr behind ↦ inr (omega arith)
    ]) has'.1

-- paths of one length are the same, or part somewhere
pub same_or_parted : (p q : List ℕ) → length p ≡ length q → (p ≡ q) ⊎ PathsPart p q
same_or_parted [] [] long = inl refl
same_or_parted [] (j ∷ q) long = absurd (omega arith)
same_or_parted (i ∷ p) [] long = absurd (omega arith)
same_or_parted (i ∷ p) (j ∷ q) long = elim (cases_Bool (i == j)) [
  | inl same ↦ elim (same_or_parted p q (omega arith)) [
    | inl rest ↦ inl (λ t. eqb-true i j same t ∷ rest t)
    | inr parted ↦ inr (inr (eqb-true i j same, parted))
  ]
  | inr other ↦ inr (inl (λ e. true≢false (sym (eq-eqb i j e) ∙ other)))
]
