-- Only for proofs of this crate: where the first line of some bytes ends.
use Rattle.std.specs.Prelude.{◌≡◌, ℕ, false, All, List, ◌∷◌, ◌++◌}
use Rattle.iox_script.specs.Lines.{is_line_feed}

-- no byte ends a line
abbrev pub HasNoLineFeed : List ℕ → Type 0
HasNoLineFeed bytes = All (λ byte. is_line_feed byte ≡ false) bytes

-- the bytes are a line, its line feed and the rest
abbrev pub IsCut : (bytes line rest : List ℕ) → Type 0
IsCut bytes line rest = HasNoLineFeed line × (bytes ≡ line ++ 10 ∷ rest)
