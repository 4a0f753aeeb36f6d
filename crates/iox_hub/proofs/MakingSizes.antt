-- Numbers that fit `usize`, and those that are too large for it.
use Rattle.std.specs.Prelude.{ℕ, zero, suc, ◌≡◌, ◌<◌, ◌≤◌, ◌*◌, ◌^◌, Bool, true, false, if◌then◌else◌, nat_le, nat_lt, None, Some, refl}
use Rattle.std.proofs.Common.{sym, arith, mul_comm}
use Rattle.std.proofs.Math.Nat.{le-mul_of_pos_right}
use Rattle.std.proofs.lemmas.Bool.Decides.{nat_tests}
use Rattle.std.proofs.lemmas.Option.{none-some, same_Some}
use Rattle.iox_types.specs.Layouts.{as_usize}

-- what does not fit is past every `usize`
pub past_all : (n : ℕ) → None ≡ as_usize n → 2 ^ 64 ≤ n
past_all n h = grind (arith, nat_tests)

past_is_none : (n : ℕ) → 2 ^ 64 ≤ n → None ≡ as_usize n
past_is_none n h = grind (arith, nat_tests)

zero_fits : (n : ℕ) → n ≡ 0 → Some 0 ≡ as_usize n
zero_fits n h = grind (arith, nat_tests)

-- a product with a number that does not fit
pub untold_product : (m n : ℕ) → None ≡ as_usize m → (Some 0 ≡ as_usize n → ⊥) → None ≡ as_usize (m * n)
untold_product m n past some = elim n as (λ k. n ≡ k → None ≡ as_usize (m * n)) [
  | zero ↦ λ e. absurd (some (zero_fits n e))
  | suc k ↦ λ e. past_is_none (m * n)
      (let bound : m ≤ m * n = le-mul_of_pos_right m (omega arith) in
      let large : 2 ^ 64 ≤ m = past_all m past in omega arith)
] refl

pub product_untold : (m n : ℕ) → None ≡ as_usize n → (Some 0 ≡ as_usize m → ⊥) → None ≡ as_usize (m * n)
product_untold m n past some = rw (mul_comm m n) (untold_product n m past some)

-- a number that fits, and no other, is told
pub fits_is : (n k : ℕ) → Some k ≡ as_usize n → n ≡ k
fits_is n k = step (nat_lt n (2 ^ 64))
  where
    step : (b : Bool) → Some k ≡ (if b then Some n else None) → n ≡ k
    step true e = same_Some n k (sym e)
    step false e = absurd (none-some k (sym e))

pub fits_below : (n k : ℕ) → Some k ≡ as_usize n → nat_le (2 ^ 64) n ≡ false
fits_below n k e = grind (arith, nat_tests)

pub past_above : (n : ℕ) → None ≡ as_usize n → nat_le (2 ^ 64) n ≡ true
past_above n e = grind (arith, nat_tests)

pub itself_fits : (n : ℕ) → n < 2 ^ 64 → Some n ≡ as_usize n
itself_fits n low = grind (arith, nat_tests)
