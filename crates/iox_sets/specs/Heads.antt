-- How the head of a set of indices is packed into a word.
use Rattle.std.specs.Prelude.{◌+◌, ◌*◌, ◌/◌, ◌%◌, ◌^◌, ℕ}
use Rattle.iox_sets.specs.declared.mpmc.unique_index_set.head_details.HeadDetails.{HeadDetails}

-- the head in the highest 24 bits, how often it changed in the next 16, and how many are held in the lowest 24
abbrev pub word_of : HeadDetails → ℕ
word_of details = details.head * 2 ^ 40 + details.aba * 2 ^ 24 + details.borrowed_indices

-- what such a word has
abbrev pub details_of : ℕ → HeadDetails
details_of word = record {
  head = word / 2 ^ 40;
  aba = word / 2 ^ 24 % 2 ^ 16;
  borrowed_indices = word % 2 ^ 24;
}
