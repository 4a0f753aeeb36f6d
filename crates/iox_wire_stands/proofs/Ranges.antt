-- Lists as a wire opens: all slots of a pool, words that are all 0, and ways that differ.
use Rattle.std.specs.Prelude.{◌<◌, nat_lt, ◌&&◌, replicate, slice_index}
use Rattle.std.specs.List.{range_with_len}
use Rattle.std.proofs.Common.{◌≡◌, ℕ, ◌+◌, Bool, true, false, zero, suc, List, [], ◌∷◌, refl, inl, inr, arith}
use Rattle.iox_model.specs.declared.way.Way.{Way}
use Rattle.iox_model.specs.Maps.{AreDistinctWays, AreDistinct, has_number, has_way}
use Rattle.iox_laws.proofs.WeaveLedger.Lists.{IsAmong, NoRepeats, among-number, no_repeats-distinct, number-among, way-among}
use Rattle.iox_laws.proofs.WeaveLedger.Ranges.{range-apart, range-has}
use Rattle.iox_laws.proofs.WeaveLedger.Truths.{false_if}

pub and_true : (b : Bool) → b ≡ (b && true)
and_true true = refl
and_true false = refl

-- ---- ranges

range_below : (a n k : ℕ) → IsAmong k (range_with_len a n) → k < a + n
range_below a zero k among = absurd among
range_below a (suc n) k (inl is) = omega (arith, is)
range_below a (suc n) k (inr later) = (let below = range_below (a + 1) n k later in omega (arith, below))

is_lt : (k n : ℕ) → k < n → nat_lt k n ≡ true
is_lt k n e = grind (arith)

lt_is : (k n : ℕ) → nat_lt k n ≡ true → k < n
lt_is k n e = grind (arith)

-- the slots of a pool are those below its size
pub range_number : (k n : ℕ) → has_number k (range_with_len 0 n) ≡ nat_lt k n
range_number k n = by_case (nat_lt k n) refl
  where
    by_case : (b : Bool) → nat_lt k n ≡ b → has_number k (range_with_len 0 n) ≡ b
    by_case true e =
        let low : k < n = lt_is k n e in
        among-number k (range_with_len 0 n) (range-has 0 n k (omega arith) (omega (arith, low)))
    by_case false e =
        false_if (has_number k (range_with_len 0 n)) (λ has. off e (range_below 0 n k (number-among k (range_with_len 0 n) has)))
      where
        off : nat_lt k n ≡ false → k < 0 + n → ⊥
        off e low = grind (arith)

pub range_distinct : (n : ℕ) → AreDistinct (range_with_len 0 n)
range_distinct n = no_repeats-distinct (range_with_len 0 n) (range-apart 0 n)

-- ---- zeros

pub zero_word : (n k : ℕ) → slice_index (replicate n 0) k ≡ 0
zero_word zero k = refl
zero_word (suc n) zero = refl
zero_word (suc n) (suc k) = zero_word n k

-- ---- ways

pub apart_ways : (ws : List Way) → NoRepeats ws → AreDistinctWays ws
apart_ways [] apart = tt
apart_ways (w ∷ ws) apart = (false_if (has_way w ws) (λ has. apart.0 (way-among w ws has)), apart_ways ws apart.1)
