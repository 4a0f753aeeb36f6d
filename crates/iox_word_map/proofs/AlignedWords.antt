-- Places that are aligned by bytes, counted in words of 8 bytes.
use Rattle.std.specs.Prelude.{zero, suc}
use Rattle.std.proofs.Common.{◌≡◌, ℕ, ◌+◌, ◌-◌, ◌*◌, ◌/◌, ◌^◌, ◌<◌, ◌≤◌, ◌⊎◌, max, refl, ap, sym, subst, ◌∙◌, inl, inr, arith}
use Rattle.std.specs.Int.{IsPowerOfTwo}
use Rattle.std.proofs.Math.Nat.{div-div-eq-div-mul, mul_assoc}
use Rattle.std.proofs.lemmas.Nat.{pow-add, pow_pos}
use Rattle.std.proofs.lemmas.Bool.{cases_lt}
use Rattle.iox_model.specs.Places.{IsAlignedTo, aligned_place}
use Rattle.iox_word_map.specs.MessageWords.{in_words}

-- what is below 8 keeps a whole word where it is
below_words : (x a : ℕ) → (a ≡ 1) ⊎ ((a ≡ 2) ⊎ (a ≡ 4)) → aligned_place (8 * x) a ≡ 8 * aligned_place x (in_words a)
below_words x a (inl e) = rw e (omega arith)
below_words x a (inr (inl e)) = rw e (omega arith)
below_words x a (inr (inr e)) = rw e (omega arith)

turned : (q b : ℕ) → q * (8 * b) ≡ 8 * (q * b)
turned q b =
    let a : q * (b * 8) ≡ q * b * 8 = sym (mul_assoc q b 8) in
    let e : 8 * b ≡ b * 8 = omega arith in
    ap (λ k. q * k) e ∙ a ∙ omega arith

times_words : (x b : ℕ) → 0 < b → aligned_place (8 * x) (8 * b) ≡ 8 * aligned_place x b
times_words x b positive =
    let inner : (8 * x + (8 * b - 1)) / 8 ≡ x + (b - 1) = omega arith in
    let outer : (8 * x + (8 * b - 1)) / (8 * b) ≡ (x + (b - 1)) / b =
    sym (div-div-eq-div-mul (8 * x + (8 * b - 1)) 8 b) ∙ ap (λ k. k / b) inner in
    ap (λ k. k * (8 * b)) outer ∙ turned ((x + (b - 1)) / b) b

whole_words : (x a b : ℕ) → 0 < b → a ≡ 8 * b → aligned_place (8 * x) a ≡ 8 * aligned_place x (in_words a)
whole_words x a b positive e =
    let same : in_words a ≡ b = (let d : a / 8 ≡ b = omega arith in grind (arith, d)) in
    ap (λ k. aligned_place (8 * x) k) e ∙ times_words x b positive ∙ ap (λ k. 8 * aligned_place x k) (sym same)

few : (k : ℕ) → k < 3 → (2 ^ k ≡ 1) ⊎ ((2 ^ k ≡ 2) ⊎ (2 ^ k ≡ 4))
few zero low = inl refl
few (suc zero) low = inr (inl refl)
few (suc (suc zero)) low = inr (inr refl)
few (suc (suc (suc k))) low = absurd (omega arith)

-- a whole word that is aligned is a whole word
pub aligned-words : (x a : ℕ) → IsPowerOfTwo a → aligned_place (8 * x) a ≡ 8 * aligned_place x (in_words a)
aligned-words x a h = elim (cases_lt h.0 3) [
  | inl less ↦ below_words x a (let P : ℕ → Type 0 = λ n. (n ≡ 1) ⊎ ((n ≡ 2) ⊎ (n ≡ 4)) in subst P (sym h.1) (few h.0 less))
  | inr more ↦ (
      let split : h.0 ≡ 3 + (h.0 - 3) = omega arith in
      let e : a ≡ 8 * 2 ^ (h.0 - 3) = h.1 ∙ ap (λ n. 2 ^ n) split ∙ pow-add 2 3 (h.0 - 3) in
      whole_words x a (2 ^ (h.0 - 3)) (pow_pos (h.0 - 3)) e
      )
]

pub in_words-positive : (a : ℕ) → 0 < in_words a
in_words-positive a = grind arith

-- a multiple of 8 is so many words
pub whole_of : (b : ℕ) → IsAlignedTo 8 b → b ≡ 8 * (b / 8)
whole_of b (k, e) = omega arith
