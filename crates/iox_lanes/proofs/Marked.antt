-- The mark of a lane, in the first word or past it.
use Rattle.std.proofs.Common.{◌≡◌, ◌<◌, ◌≤◌, ◌+◌, ◌-◌, ◌^◌, ℕ, zero, suc, true, false, w64, refl, ap, ◌∙◌, inl, inr, arith}
use Rattle.std.proofs.lemmas.Bool.{cases_lt, lt-ltb, ltb-true}
use Rattle.std.proofs.lemmas.Nat.Bits.{bit_at-suc, bit_at-trailing_zeros, bit_at-zero}
use Rattle.std.specs.Int.{bit_at, trailing_zeros}
use Rattle.std.specs.Prelude.{Bool, if◌then◌else◌, nat_lt}
use Rattle.iox_lanes.specs.Marks.{FarState, HasNone, HasNoneFar, MarksState, NoneIsFar, has_far, has_mark, is_set}

pub near_mark : (m : MarksState) (k : ℕ) → k < 63 → has_mark m k ≡ is_set (bit_at m.near k)
near_mark m k h = ap (λ (b : Bool). if b then is_set (bit_at m.near k) else has_far m.far (k - 63)) (lt-ltb k 63 h)

pub far_mark : (m : MarksState) (k : ℕ) → 63 ≤ k → has_mark m k ≡ has_far m.far (k - 63)
far_mark m k h = over (nat_lt k 63) refl
  where
    over : (b : Bool) → nat_lt k 63 ≡ b → (if b then is_set (bit_at m.near k) else has_far m.far (k - 63)) ≡ has_far m.far (k - 63)
    over true e = let below = ltb-true k 63 e in absurd (omega (arith, below, h))
    over false e = refl

one_alone : (k : ℕ) → bit_at 1 (suc k) ≡ 0
one_alone k = bit_at-suc 1 k ∙ bit_at-zero k

-- where the word is the first mark alone, no other is set
pub others_unset : (near : ℕ) (far : FarState) → NoneIsFar near far → near ≡ 1
    → (k : ℕ) → 0 < k → has_mark (record { near = near; far = far }) k ≡ false
others_unset near far none is zero h = absurd (omega (arith, h))
others_unset near far none is (suc k) h = elim (cases_lt (suc k) 63) [
  | inl below ↦
      near_mark (record { near = near; far = far }) (suc k) below
      ∙ ap is_set (ap (λ (n : ℕ). bit_at n (suc k)) is ∙ one_alone k)
  | inr past ↦
      far_mark (record { near = near; far = far }) (suc k) past
      ∙ none (ap (λ (n : ℕ). bit_at n 63) is ∙ one_alone 62) (suc k - 63)
]

module _ (near : ℕ) (far : FarState) (some : 0 < near) (fits : near < 2 ^ 64) where
  abbrev pub m : MarksState
  m = record { near = near; far = far }

  -- below the lowest mark of the word none is set
  pub none_below_lowest : (k : ℕ) → k < 63 → k < trailing_zeros w64 near → has_mark m k ≡ false
  none_below_lowest k h below = near_mark m k h ∙ ap is_set ((bit_at-trailing_zeros w64 near some fits).2 k below)

  pub lowest_is_set : trailing_zeros w64 near < 63 → has_mark m (trailing_zeros w64 near) ≡ true
  lowest_is_set h = near_mark m (trailing_zeros w64 near) h ∙ ap is_set (bit_at-trailing_zeros w64 near some fits).1

  -- where that is the last, the lanes past the word tell
  pub none_below_far : 63 ≤ trailing_zeros w64 near → (lane : ℕ) → ((k : ℕ) → k < lane → has_far far k ≡ false)
      → (k : ℕ) → k < lane + 63 → has_mark m k ≡ false
  none_below_far last lane none k h = elim (cases_lt k 63) [
    | inl below ↦ none_below_lowest k below (omega (arith, below, last))
    | inr past ↦ far_mark m k past ∙ none (k - 63) (omega (arith, h, past))
  ]

  pub none_set : 63 ≤ trailing_zeros w64 near → HasNoneFar far → HasNone m
  none_set last none k = elim (cases_lt k 63) [
    | inl below ↦ none_below_lowest k below (omega (arith, below, last))
    | inr past ↦ far_mark m k past ∙ none (k - 63)
  ]

-- no mark is in a word that is 0
pub none_in_zero : (far : FarState) → HasNoneFar far → HasNone (record { near = 0; far = far })
none_in_zero far none k = elim (cases_lt k 63) [
  | inl below ↦ near_mark (record { near = 0; far = far }) k below ∙ ap is_set (bit_at-zero k)
  | inr past ↦ far_mark (record { near = 0; far = far }) k past ∙ none (k - 63)
]
