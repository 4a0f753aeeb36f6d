-- How many elements the words of a payload are.
use Rattle.std.specs.Prelude.{ℕ, Bool, ◌/◌, ◌%◌, ◌==◌, if◌then◌else◌, List, length, Option, Some, None}
use Rattle.iox_model.specs.Settings.{Shape}

-- no words are so many elements of no width: none where any number may be there, and else one
abbrev pub elements_of_nothing : (many : Bool) → (words : ℕ) → Option ℕ
elements_of_nothing many words = if words == 0 then Some (if many then 0 else 1) else None

-- so many words are so many elements of that width; None for no whole number of them
abbrev pub elements_in : (many : Bool) → (width words : ℕ) → Option ℕ
elements_in many width words =
    if width == 0 then elements_of_nothing many words
    else (if words % width == 0 then Some (words / width) else None)

-- of messages of that shape
abbrev pub whole_elements : Shape → List ℕ → Option ℕ
whole_elements x words = elements_in x.many x.width (length words)
