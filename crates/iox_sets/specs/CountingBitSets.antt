-- A set of counted bits, as its callers see it: how often each bit was set, from bit 0 on.
use Rattle.std.specs.Prelude.{◌+◌, ◌-◌, ◌^◌, ℕ, zero, suc, List, [], ◌∷◌, replicate, slice_index, slice_set}
use Rattle.iox_sets.specs.declared.mpmc.counting_bit_set.bit_state.BitState.{BitState}

-- the greatest count of a bit
abbrev pub max_count : ℕ
max_count = 2 ^ 64 - 1

-- no bit was set
abbrev pub no_counts : ℕ → List ℕ
no_counts capacity = replicate capacity 0

-- how often a bit was set
abbrev pub count_of : List ℕ → ℕ → ℕ
count_of counts id = slice_index counts id

-- the counts once this bit was set once more; the others are unchanged
abbrev pub with_one_more : List ℕ → ℕ → List ℕ
with_one_more counts id = slice_set counts id (count_of counts id + 1)

-- the bits that were set, ascending, each with its count, where the first bit has the number `id`
abbrev pub bit_states_from : ℕ → List ℕ → List BitState
bit_states_from id [] = []
bit_states_from id (zero ∷ counts) = bit_states_from (suc id) counts
bit_states_from id (suc n ∷ counts) =
    record { bit = id; count = suc n } ∷ bit_states_from (suc id) counts

-- the bits that were set, ascending, each with its count
abbrev pub bit_states : List ℕ → List BitState
bit_states counts = bit_states_from 0 counts
