-- The counted bits that were set: none, or the lowest and the rest.
use Rattle.std.proofs.Common.{◌≡◌, ◌≢◌, ◌+◌, ◌<◌, ℕ, zero, suc, List, [], ◌∷◌, Some, None, length, get_or, set, replicate, slice_get, refl, ap, sym, ◌∙◌, inl, inr, arith}
use Rattle.std.proofs.lemmas.Bool.{cases_lt}
use Rattle.iox_sets.specs.declared.mpmc.counting_bit_set.bit_state.BitState.{BitState}
use Rattle.iox_sets.specs.CountingBitSets.{bit_states, bit_states_from, count_of, no_counts}
use Rattle.iox_sets.specs.Words.{IsFirstUsed, IsUnusedFrom}

-- where no bit was set, there are none
bit_states_from-none : (id : ℕ) (counts : List ℕ) → ((k : ℕ) → k < length counts → get_or counts k 0 ≡ 0)
    → bit_states_from id counts ≡ []
bit_states_from-none id [] zeros = refl
bit_states_from-none id (zero ∷ counts) zeros =
    bit_states_from-none (suc id) counts (λ k below. zeros (suc k) (omega arith))
bit_states_from-none id (suc n ∷ counts) zeros = absurd (let is = zeros 0 (omega arith) in omega arith)

-- the lowest that was set comes first, and then those that are left without it
bit_states_from-first : (id : ℕ) (counts : List ℕ) (k : ℕ) → get_or counts k 0 ≢ 0
    → ((j : ℕ) → j < k → get_or counts j 0 ≡ 0)
    → bit_states_from id counts ≡ record { bit = id + k; count = get_or counts k 0 } ∷ bit_states_from id (set counts k 0)
bit_states_from-first id [] k used zeros = absurd (used refl)
bit_states_from-first id (zero ∷ counts) zero used zeros = absurd (used refl)
bit_states_from-first id (suc n ∷ counts) zero used zeros =
    ap (λ (b : ℕ). record { bit = b; count = suc n } ∷ bit_states_from (suc id) counts) (omega arith)
bit_states_from-first id (suc n ∷ counts) (suc k) used zeros = absurd (let is = zeros 0 (omega arith) in omega arith)
bit_states_from-first id (zero ∷ counts) (suc k) used zeros =
    bit_states_from-first (suc id) counts k used (λ j below. zeros (suc j) (omega arith))
    ∙ ap (λ (b : ℕ). record { bit = b; count = get_or counts k 0 } ∷ bit_states_from (suc id) (set counts k 0)) (omega arith)

-- where there are none, each count is 0
bit_states_from-nil : (id : ℕ) (counts : List ℕ) → bit_states_from id counts ≡ [] → counts ≡ replicate (length counts) 0
bit_states_from-nil id [] none = refl
bit_states_from-nil id (zero ∷ counts) none = ap (λ rest. 0 ∷ rest) (bit_states_from-nil (suc id) counts none)
bit_states_from-nil id (suc n ∷ counts) none = cc

-- the first is a bit whose count is not 0, and no bit before it has one
first_from : (id : ℕ) (counts : List ℕ) (state : BitState) → slice_get (bit_states_from id counts) 0 ≡ Some state
    → (k : ℕ) × (state ≡ record { bit = id + k; count = get_or counts k 0 }) × (get_or counts k 0 ≢ 0) × ((j : ℕ) → j < k → get_or counts j 0 ≡ 0)
first_from id [] state is = cc
first_from id (suc n ∷ counts) state is =
    (0, some_same _ _ is ∙ ap (λ (b : ℕ). record { bit = b; count = suc n }) (omega arith), (λ e. omega arith), λ j below. absurd (omega arith))
  where
    some_same : (a b : BitState) → Some a ≡ Some b → b ≡ a
    some_same a b same = cc
first_from id (zero ∷ counts) state is =
    let rest = first_from (suc id) counts state is in (
      suc rest.0,
      rest.1 ∙ ap (λ (b : ℕ). record { bit = b; count = get_or counts rest.0 0 }) (omega arith),
      rest.2,
      λ j below. elim j as (λ n. n < suc rest.0 → get_or (0 ∷ counts) n 0 ≡ 0) [
        | zero ↦ λ _. refl
        | suc n ↦ λ before. rest.3 n (omega arith)
      ] below,
    )

module _ (counts : List ℕ) (state : BitState) (is : slice_get (bit_states counts) 0 ≡ Some state) where
  pub zeros_before_first : (j : ℕ) → j < state.bit → get_or counts j 0 ≡ 0
  zeros_before_first j below =
      let found = first_from 0 counts state is in
      let at = ap (λ s. s.bit) found.1 in
      found.3 j (omega arith)

  pub bit_states-cons : bit_states counts ≡ state ∷ bit_states (set counts state.bit 0)
  bit_states-cons =
      let found = first_from 0 counts state is in
      let at : state.bit ≡ found.0 = (let e = ap (λ s. s.bit) found.1 in omega arith) in
      bit_states_from-first 0 counts found.0 found.2 found.3
      ∙ ap (λ s. s ∷ bit_states (set counts found.0 0)) (sym found.1)
      ∙ ap (λ b. state ∷ bit_states (set counts b 0)) (sym at)

pub bit_states-nil : (counts : List ℕ) → slice_get (bit_states counts) 0 ≡ None → bit_states counts ≡ []
bit_states-nil counts none = nil (bit_states counts) none
  where
    nil : (states : List BitState) → slice_get states 0 ≡ None → states ≡ []
    nil [] none = refl
    nil (state ∷ states) none = cc

pub no_counts-nil : (counts : List ℕ) → slice_get (bit_states counts) 0 ≡ None → counts ≡ no_counts (length counts)
no_counts-nil counts none = bit_states_from-nil 0 counts (bit_states-nil counts none)

module _ (counts : List ℕ) (from : ℕ) (zeros : (id : ℕ) → id < from → count_of counts id ≡ 0) where
  pub first-unused : IsUnusedFrom counts from → slice_get (bit_states counts) 0 ≡ None
  first-unused unused =
      ap (λ states. slice_get states 0) (bit_states_from-none 0 counts (λ k below. elim (cases_lt k from) [
        | inl before ↦ zeros k before
        | inr after ↦ unused k after below
      ]))

  pub first-used : (place : ℕ) → IsFirstUsed counts from place
      → slice_get (bit_states counts) 0 ≡ Some (record { bit = place; count = count_of counts place })
  first-used place first =
      ap (λ states. slice_get states 0) (bit_states_from-first 0 counts place first.used (λ k below. elim (cases_lt k from) [
        | inl before ↦ zeros k before
        | inr after ↦ first.unused k after below
      ])) ∙ ap (λ (b : ℕ). Some (record { bit = b; count = count_of counts place })) (omega arith)
