-- How a set and a list of keys are stored: in the first of 64 places.
use Rattle.std.specs.Prelude.{ℕ, ◌≡◌, ◌≤◌, ◌+◌, IsTrue, List, [], ◌∷◌, length, take, if◌then◌else◌}
use Rattle.iox_names.specs.Pairs.{is_before}
use Rattle.iox_names.specs.declared.attribute.Attribute.{Attribute}
use Rattle.iox_attributes.specs.Sets.{is_sorted, max_pairs}

-- the first len places are a set
pub record HoldsSet (places : List Attribute) (len : ℕ) : Type 0 where
  pub sized : length places ≡ max_pairs
  pub within : len ≤ max_pairs
  pub sorted : IsTrue (is_sorted (take len places))

-- the first len places are keys
pub record HoldsKeys (places : List (List ℕ)) (len : ℕ) : Type 0 where
  pub sized : length places ≡ max_pairs
  pub within : len ≤ max_pairs

-- the place at which a pair is inserted
abbrev pub place_of : Attribute → List Attribute → ℕ
place_of pair [] = 0
place_of pair (first ∷ rest) = if is_before pair first then 0 else 1 + place_of pair rest
