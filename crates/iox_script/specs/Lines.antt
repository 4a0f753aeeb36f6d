-- The lines of a script, and the words of a line.
use Rattle.std.specs.Prelude.{ℕ, ◌-◌, ◌==◌, Bool, List, [], ◌∷◌, ◌++◌, length, take}
use Rattle.std.specs.List.{slice_split, after_last}

-- the byte that ends a line
abbrev pub is_line_feed : ℕ → Bool
is_line_feed byte = byte == 10

-- the byte between two words
abbrev pub is_space : ℕ → Bool
is_space byte = byte == 32

-- the script cut at each line feed
abbrev pub pieces_of : List ℕ → List (List ℕ)
pieces_of script = slice_split is_line_feed script

-- the lines that a line feed ends: each piece but the last
abbrev pub ended_lines : List ℕ → List (List ℕ)
ended_lines script = take (length (pieces_of script) - 1) (pieces_of script)

-- what stands behind the last line feed
abbrev pub rest_of : List ℕ → List ℕ
rest_of script = after_last is_line_feed script

-- a rest is a line if it is not empty
abbrev pub line_of_rest : List ℕ → List (List ℕ)
line_of_rest [] = []
line_of_rest (byte ∷ bytes) = (byte ∷ bytes) ∷ []

-- the lines of a script
abbrev pub lines_of : List ℕ → List (List ℕ)
lines_of script = ended_lines script ++ line_of_rest (rest_of script)

-- the words of a line: exactly one space stands between two of them
abbrev pub words_of : List ℕ → List (List ℕ)
words_of line = slice_split is_space line
