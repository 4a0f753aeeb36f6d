-- How bits lie in words, 64 in each, lowest first.
use Rattle.std.specs.Prelude.{◌≡◌, ◌==◌, ◌+◌, ◌*◌, ◌/◌, ◌%◌, ◌<◌, ◌≤◌, ℕ, Bool, true, List, [], ◌∷◌, ◌++◌, length, map, slice_index}
use Rattle.std.specs.Int.{bit_at}
use Rattle.std.specs.List.{range_with_len}
use Rattle.iox_sets.specs.BitSets.{set_bits_from}

-- whether a bit is set in the words
abbrev pub bit_in : List ℕ → ℕ → Bool
bit_in words id = bit_at (slice_index words (id / 64)) (id % 64) == 1

-- the first `capacity` bits of the words
abbrev pub bits_in : List ℕ → ℕ → List Bool
bits_in words capacity = map (bit_in words) (range_with_len 0 capacity)

-- the words have room for the bits, and none is set past them
pub record IsWholeSet (words : List ℕ) (capacity : ℕ) : Type 0 where
  pub room : capacity ≤ length words * 64
  pub inside : (id : ℕ) → bit_in words id ≡ true → id < capacity

-- the bits of one word
unfoldable pub bits_of : ℕ → List Bool
bits_of word = bits_in (word ∷ []) 64

-- the numbers of the bits that are set in the word at a place, ascending
abbrev pub numbers_in : ℕ → ℕ → List ℕ
numbers_in place word = set_bits_from (place * 64) (bits_of word)

-- the same of words, of which the first stands at that place
abbrev pub numbers_from : ℕ → List ℕ → List ℕ
numbers_from place [] = []
numbers_from place (word ∷ words) = numbers_in place word ++ numbers_from (place + 1) words
