-- The numbers of the bits that are set: none, or the lowest and the rest.
use Rattle.std.proofs.Common.{◌≡◌, ◌+◌, ◌<◌, ℕ, zero, suc, Bool, true, false, List, [], ◌∷◌, Some, None, length, get_or, set, replicate, slice_get, refl, ap, ◌∙◌, arith}
use Rattle.std.proofs.lemmas.Bool.{false≢true, true≢false}
use Rattle.iox_sets.specs.BitSets.{lowest, no_bits, set_bits, set_bits_from, without_bit}

-- where no bit is set, there are no numbers
pub set_bits_from-none : (id : ℕ) (bits : List Bool) → ((k : ℕ) → k < length bits → get_or bits k false ≡ false)
    → set_bits_from id bits ≡ []
set_bits_from-none id [] clear = refl
set_bits_from-none id (true ∷ bits) clear = absurd (true≢false (clear 0 (omega arith)))
set_bits_from-none id (false ∷ bits) clear =
    set_bits_from-none (suc id) bits (λ k below. clear (suc k) (omega arith))

-- the lowest bit that is set comes first, and then those that are left without it
pub set_bits_from-lowest : (id : ℕ) (bits : List Bool) (k : ℕ) → get_or bits k false ≡ true
    → ((j : ℕ) → j < k → get_or bits j false ≡ false)
    → set_bits_from id bits ≡ (id + k) ∷ set_bits_from id (set bits k false)
set_bits_from-lowest id [] k is_set clear = absurd (false≢true is_set)
set_bits_from-lowest id (true ∷ bits) zero is_set clear =
    ap (λ (n : ℕ). n ∷ set_bits_from (suc id) bits) (omega arith)
set_bits_from-lowest id (true ∷ bits) (suc k) is_set clear = absurd (true≢false (clear 0 (omega arith)))
set_bits_from-lowest id (false ∷ bits) zero is_set clear = absurd (false≢true is_set)
set_bits_from-lowest id (false ∷ bits) (suc k) is_set clear =
    set_bits_from-lowest (suc id) bits k is_set (λ j below. clear (suc j) (omega arith))
    ∙ ap (λ (n : ℕ). n ∷ set_bits_from (suc id) (set bits k false)) (omega arith)

-- where there are no numbers, no bit is set
set_bits_from-nil : (id : ℕ) (bits : List Bool) → set_bits_from id bits ≡ [] → bits ≡ replicate (length bits) false
set_bits_from-nil id [] none = refl
set_bits_from-nil id (true ∷ bits) none = cc
set_bits_from-nil id (false ∷ bits) none = ap (λ rest. false ∷ rest) (set_bits_from-nil (suc id) bits none)

pub set_bits-none : (bits : List Bool) → ((k : ℕ) → k < length bits → get_or bits k false ≡ false) → set_bits bits ≡ []
set_bits-none = set_bits_from-none 0

pub set_bits-lowest : (bits : List Bool) (k : ℕ) → get_or bits k false ≡ true
    → ((j : ℕ) → j < k → get_or bits j false ≡ false) → set_bits bits ≡ k ∷ set_bits (without_bit bits k)
set_bits-lowest bits k is_set clear =
    set_bits_from-lowest 0 bits k is_set clear ∙ ap (λ (n : ℕ). n ∷ set_bits (without_bit bits k)) (omega arith)

pub set_bits-nil : (bits : List Bool) → lowest bits ≡ None → set_bits bits ≡ []
set_bits-nil bits none = nil (set_bits bits) none
  where
    nil : (ids : List ℕ) → slice_get ids 0 ≡ None → ids ≡ []
    nil [] none = refl
    nil (id ∷ ids) none = cc

pub no_bits-lowest : (bits : List Bool) → lowest bits ≡ None → bits ≡ no_bits (length bits)
no_bits-lowest bits none = set_bits_from-nil 0 bits (set_bits-nil bits none)

-- the lowest number is that of a bit that is set, and no bit before it is
lowest_from : (id : ℕ) (bits : List Bool) (found : ℕ) → slice_get (set_bits_from id bits) 0 ≡ Some found
    → (k : ℕ) × (found ≡ id + k) × (get_or bits k false ≡ true) × ((j : ℕ) → j < k → get_or bits j false ≡ false)
lowest_from id [] found is = cc
lowest_from id (true ∷ bits) found is = (0, cc_at id found is, refl, λ j below. absurd (omega arith))
  where
    cc_at : (a b : ℕ) → Some a ≡ Some b → b ≡ a + 0
    cc_at a b same = let equal : a ≡ b = cc in omega arith
lowest_from id (false ∷ bits) found is =
    let rest = lowest_from (suc id) bits found is in (
      suc rest.0,
      (let at = rest.1 in omega arith),
      rest.2,
      λ j below. elim j as (λ n. n < suc rest.0 → get_or (false ∷ bits) n false ≡ false) [
        | zero ↦ λ _. refl
        | suc n ↦ λ before. rest.3 n (omega arith)
      ] below,
    )

module _ (bits : List Bool) (id : ℕ) (is : lowest bits ≡ Some id) where
  pub lowest-set : get_or bits id false ≡ true
  lowest-set =
      let found = lowest_from 0 bits id is in
      let at : id ≡ found.0 = (let sum = found.1 in omega arith) in
      ap (λ n. get_or bits n false) at ∙ found.2

  pub lowest-clear : (j : ℕ) → j < id → get_or bits j false ≡ false
  lowest-clear j below = let found = lowest_from 0 bits id is in found.3 j (let at = found.1 in omega arith)

  pub set_bits-cons : set_bits bits ≡ id ∷ set_bits (without_bit bits id)
  set_bits-cons = set_bits-lowest bits id lowest-set lowest-clear
