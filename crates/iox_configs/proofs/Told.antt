-- Numbers that can be told, and those that are too large for it.
use Rattle.std.proofs.Common.{ℕ, suc, zero, ◌≡◌, ◌*◌, ◌^◌, ◌≤◌, arith, refl, None, Some, mul_comm}
use Rattle.std.proofs.Math.Nat.{le-mul_of_pos_right}
use Rattle.std.proofs.lemmas.Bool.Decides.{nat_tests}
use Rattle.iox_types.specs.Layouts.{as_usize}

-- what can't be told is past every `usize`
past-told : (n : ℕ) → None ≡ as_usize n → 2 ^ 64 ≤ n
past-told n h = grind (arith, nat_tests)

untold-past : (n : ℕ) → 2 ^ 64 ≤ n → None ≡ as_usize n
untold-past n h = grind (arith, nat_tests)

zero-told : (n : ℕ) → n ≡ 0 → Some 0 ≡ as_usize n
zero-told n h = grind (arith, nat_tests)

-- a product with a number that can't be told
pub untold-product : (m n : ℕ) → None ≡ as_usize m → (Some 0 ≡ as_usize n → ⊥) → None ≡ as_usize (m * n)
untold-product m n past some = elim n as (λ k. n ≡ k → None ≡ as_usize (m * n)) [
  | zero ↦ λ e. absurd (some (zero-told n e))
  | suc k ↦ λ e. untold-past (m * n)
      (let bound : m ≤ m * n = le-mul_of_pos_right m (omega arith) in
      let large : 2 ^ 64 ≤ m = past-told m past in omega arith)
] refl

pub product-untold : (m n : ℕ) → None ≡ as_usize n → (Some 0 ≡ as_usize m → ⊥) → None ≡ as_usize (m * n)
product-untold m n past some = rw (mul_comm m n) (untold-product n m past some)
