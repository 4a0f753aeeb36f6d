-- A power of two is known by its bits.
use Rattle.std.proofs.Common.{◌≡◌, ℕ, ◌+◌, ◌*◌, ◌^◌, true, arith, refl, ap, ◌∙◌, eq-eqb}
use Rattle.std.specs.Prelude.{count_ones}
use Rattle.std.specs.Int.{IsPowerOfTwo, is_power_of_two}
use Rattle.std.proofs.Math.Pow.{pow_pos}
use lib.Count.{ones, ones_cat}

bits_of_one : ones 1 + ones 0 ≡ 1
unfolding ones
bits_of_one = refl

bits_of_power : (k : ℕ) → count_ones (2 ^ k) ≡ 1
bits_of_power k =
    let same : 2 ^ k ≡ 1 * 2 ^ k + 0 = omega arith in
    ap count_ones same ∙ ones_cat k 1 0 (pow_pos k) ∙ bits_of_one

-- the test says so
pub power_is_told : (n : ℕ) → IsPowerOfTwo n → is_power_of_two n ≡ true
power_is_told n power = eq-eqb (count_ones n) 1 (ap count_ones power.1 ∙ bits_of_power power.0)
