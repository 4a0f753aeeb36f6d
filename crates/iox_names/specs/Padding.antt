-- How the bytes of a text lie in memory: at the front of a whole array, zeros behind them.
use Rattle.std.specs.Prelude.{ℕ, ◌≡◌, ◌-◌, ◌≤◌, ◌++◌, List, length, take, IsTrue, replicate}
use Rattle.iox_words.specs.WordLists.{is_text}

-- a text with zeros behind it
abbrev pub padded : ℕ → List ℕ → List ℕ
padded max text = text ++ replicate (max - length text) 0

-- the first len bytes are the text, and all behind them are zeros
pub record HoldsText (max : ℕ) (bytes : List ℕ) (len : ℕ) : Type 0 where
  pub sized : length bytes ≡ max
  pub within : len ≤ max
  pub padding : bytes ≡ padded max (take len bytes)
  pub text : IsTrue (is_text (take len bytes))
