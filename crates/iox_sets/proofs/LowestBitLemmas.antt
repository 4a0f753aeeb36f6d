-- A number without its lowest bit that is set: what it has in common with the number before it.
use Rattle.std.proofs.Common.{◌≡◌, ◌≢◌, ◌-◌, ◌/◌, ◌%◌, ◌<◌, ℕ, zero, suc, bit_and, ap, sym, ◌∙◌, inl, inr, arith}
use Rattle.std.specs.Int.{bit_at}
use Rattle.std.proofs.lemmas.Bool.{cases_lt}
use Rattle.std.proofs.lemmas.Nat.Bits.{bit_at_lowest, bit_at-suc, bit_at-zero, bit_at_and}

-- the lowest bit of a number is clear in the one before it, and those above it are the same
record IsLess (n k : ℕ) : Type 0 where
  here : bit_at (n - 1) k ≡ 0
  above : (i : ℕ) → k < i → bit_at (n - 1) i ≡ bit_at n i

IsLess-lowest : (k n : ℕ) → bit_at n k ≡ 1 → ((i : ℕ) → i < k → bit_at n i ≡ 0) → IsLess n k
IsLess-lowest zero n is_set clear =
    let odd : n % 2 ≡ 1 = sym (bit_at_lowest n) ∙ is_set in
    let half : (n - 1) / 2 ≡ n / 2 = omega arith in
    record {
      here = bit_at_lowest (n - 1) ∙ omega arith;
      above = λ i past. elim i as (λ j. 0 < j → bit_at (n - 1) j ≡ bit_at n j) [
        | zero ↦ λ none. absurd (omega arith)
        | suc j ↦ λ some. bit_at-suc (n - 1) j ∙ ap (λ m. bit_at m j) half ∙ sym (bit_at-suc n j)
      ] past;
    }
IsLess-lowest (suc k) n is_set clear =
    let even : n % 2 ≡ 0 = sym (bit_at_lowest n) ∙ clear 0 (omega arith) in
    let up : bit_at (n / 2) k ≡ 1 = sym (bit_at-suc n k) ∙ is_set in
    let some : n / 2 ≢ 0 = λ none. (let no = bit_at-zero k in let one = ap (λ m. bit_at m k) (sym none) in absurd (omega arith)) in
    let half : (n - 1) / 2 ≡ n / 2 - 1 = omega arith in
    let rest = IsLess-lowest k (n / 2) up (λ i below. sym (bit_at-suc n i) ∙ clear (suc i) (omega arith)) in
    record {
      here = bit_at-suc (n - 1) k ∙ ap (λ m. bit_at m k) half ∙ rest.here;
      above = λ i past. elim i as (λ j. suc k < j → bit_at (n - 1) j ≡ bit_at n j) [
        | zero ↦ λ none. absurd (omega arith)
        | suc j ↦ λ more. bit_at-suc (n - 1) j ∙ ap (λ m. bit_at m j) half ∙ rest.above j (omega arith) ∙ sym (bit_at-suc n j)
      ] past;
    }

module _ (n k : ℕ) (is_set : bit_at n k ≡ 1) (clear : (i : ℕ) → i < k → bit_at n i ≡ 0) where
  pub bit_at_drop_same : bit_at (bit_and n (n - 1)) k ≡ 0
  bit_at_drop_same =
      let less = (IsLess-lowest k n is_set clear).here in
      let both = bit_at_and n (n - 1) k in
      omega arith

  pub bit_at_drop_other : (i : ℕ) → i ≢ k → bit_at (bit_and n (n - 1)) i ≡ bit_at n i
  bit_at_drop_other i other =
      let both = bit_at_and n (n - 1) i in
      elim (cases_lt i k) [
        | inl below ↦ (let none = clear i below in omega arith)
        | inr past ↦ (let same = (IsLess-lowest k n is_set clear).above i (omega arith) in omega arith)
      ]
