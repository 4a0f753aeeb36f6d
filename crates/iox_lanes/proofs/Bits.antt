-- One bit of a word is set, or cleared.
use Rattle.std.proofs.Common.{◌≡◌, ◌≢◌, ◌*◌, ◌%◌, ◌<◌, ◌^◌, ℕ, bit_and, bit_or, w64}
use Rattle.std.proofs.lemmas.Nat.Bits.{bit_at_clear_other, bit_at_clear_same, bit_at_set_other, bit_at_set_same}
use Rattle.std.specs.Int.{bit_at, bit_not}

pub set_here : (n k : ℕ) → k < 64 → bit_at (bit_or n (1 * 2 ^ k % 2 ^ 64)) k ≡ 1
set_here n k h = bit_at_set_same w64 n k h

pub set_other : (n k : ℕ) → k < 64 → (i : ℕ) → i ≢ k → bit_at (bit_or n (1 * 2 ^ k % 2 ^ 64)) i ≡ bit_at n i
set_other n k h i ne = bit_at_set_other w64 n k h i ne

pub clear_here : (n k : ℕ) → k < 64 → bit_at (bit_and n (bit_not w64 (1 * 2 ^ k % 2 ^ 64))) k ≡ 0
clear_here n k h = bit_at_clear_same w64 n k h

pub clear_other : (n k : ℕ) → k < 64 → (i : ℕ) → i < 64 → i ≢ k → bit_at (bit_and n (bit_not w64 (1 * 2 ^ k % 2 ^ 64))) i ≡ bit_at n i
clear_other n k h i below ne = bit_at_clear_other w64 n k h i below ne

pub ruleset set = (set_here, set_other)

pub ruleset clear = (clear_here, clear_other)
