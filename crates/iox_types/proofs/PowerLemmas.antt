-- A number of which one bit is set is a power of two.
use Rattle.std.proofs.Common.{ℕ, zero, suc, ◌≡◌, ◌+◌, ◌*◌, ◌/◌, ◌%◌, ◌^◌, ◌≤◌, ◌⊎◌, true, arith, inl, inr, sym, refl, ◌∙◌, pow-suc}
use Rattle.std.specs.Prelude.{count_ones}
use Rattle.std.specs.Int.{IsPowerOfTwo, is_power_of_two}
use Rattle.std.proofs.lemmas.Nat.{zero_from_ones}
use Rattle.std.proofs.lemmas.Bool.Decides.{nat_tests}
use lib.Count.{ones, ones_step}

last_bit : (n : ℕ) → (n % 2 ≡ 0) ⊎ (n % 2 ≡ 1)
last_bit n = elim (n % 2) as (λ r. n % 2 ≡ r → (n % 2 ≡ 0) ⊎
    (n % 2 ≡ 1)) [ zero ↦ λ e. inl e | suc r ↦ λ e. inr (omega arith) ] refl

doubled : (n : ℕ) → n % 2 ≡ 0 → IsPowerOfTwo (n / 2) → IsPowerOfTwo n
doubled n even half =
    let twice : n ≡ 2 ^ half.0 * 2 = let e = half.1 in omega arith in
    (suc half.0, twice ∙ sym (pow-suc 2 half.0))

none_of_zero : (n : ℕ) → n ≡ 0 → count_ones n ≡ 0
unfolding ones
none_of_zero n e = rw e refl

half_below : (d n : ℕ) → n ≤ suc d → n / 2 + n / 2 ≡ n → n / 2 ≤ d
half_below d n h e = omega arith

power_of_ones : (d n : ℕ) → n ≤ d → count_ones n ≡ 1 → IsPowerOfTwo n
power_of_ones zero n h one = let s = ones_step n in absurd (omega (arith, none_of_zero n (omega arith)))
power_of_ones (suc d) n h one =
    let s = ones_step n in
    elim (last_bit n) [
      | inl even ↦ doubled n even (power_of_ones d (n / 2) (half_below d n h (omega arith)) (omega arith))
      | inr odd ↦ let none : n / 2 ≡ 0 = zero_from_ones (n / 2) (omega arith) in (0, omega arith)
    ]

-- where the test says so
pub IsPowerOfTwo-test : (n : ℕ) → is_power_of_two n ≡ true → IsPowerOfTwo n
IsPowerOfTwo-test n h = power_of_ones n n (omega arith) (grind (arith, nat_tests))
