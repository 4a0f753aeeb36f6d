-- Lists of any values: which values are in a list, and which come in its order.
use Rattle.std.specs.Prelude.{◌≡◌, List, [], ◌∷◌, ⊤, ◌⊎◌}

-- the value is in the list
abbrev pub IsOneOf : {A : Type 0} → A → List A → Type 0
IsOneOf a [] = ⊥
IsOneOf a (x ∷ xs) = (a ≡ x) ⊎ IsOneOf a xs

-- these are values of the list, in its order; it may have others in between
abbrev pub GivesThese : {A : Type 0} → List A → List A → Type 0
GivesThese [] [] = ⊤
GivesThese [] (x ∷ xs) = ⊥
GivesThese (y ∷ ys) [] = ⊤
GivesThese (y ∷ ys) (x ∷ xs) = ((x ≡ y) × GivesThese ys xs) ⊎ GivesThese ys (x ∷ xs)
