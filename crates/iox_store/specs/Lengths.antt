-- How many elements a payload may have.
use Rattle.std.specs.Prelude.{ℕ, Bool, ◌||◌, ◌==◌}

-- where a payload has one element, no other number of them
abbrev pub is_count : Bool → ℕ → Bool
is_count many elements = many || (elements == 1)
