-- Words that are 0, and the first that is not.
use Rattle.std.specs.Prelude.{◌≡◌, ◌≢◌, ◌<◌, ◌≤◌, ℕ, List, length, slice_index}

-- the first word that is not 0, from the place `from` on
pub record IsFirstUsed (words : List ℕ) (from place : ℕ) : Type 0 where
  pub within : place < length words
  pub used : slice_index words place ≢ 0
  pub unused : (before : ℕ) → from ≤ before → before < place → slice_index words before ≡ 0

-- each word is 0, from the place `from` on
abbrev pub IsUnusedFrom : List ℕ → ℕ → Type 0
IsUnusedFrom words from = (place : ℕ) → from ≤ place → place < length words → slice_index words place ≡ 0
