-- A set of attributes is one sorted list, in which a pair stands as often as it was added.
use Rattle.std.specs.Prelude.{ℕ, ◌+◌, ◌&&◌, Bool, true, not, List, [], ◌∷◌, map, if◌then◌else◌}
use Rattle.std.specs.Cmp.Lexicographic.{pointwise}
use Rattle.std.specs.List.{filter, list_all}
use Rattle.iox_names.specs.Texts.{text_eq}
use Rattle.iox_names.specs.Pairs.{is_before, pair_eq}
use Rattle.iox_names.specs.declared.attribute.Attribute.{Attribute}

-- how many pairs a set has at most
abbrev pub max_pairs : ℕ
max_pairs = 64

-- no pair is less than one that stands before it
abbrev pub is_sorted : List Attribute → Bool
is_sorted [] = true
is_sorted (first ∷ rest) = list_all (λ later. not (is_before later first)) rest && is_sorted rest

-- two sets are equal if they hold the same pairs
abbrev pub set_eq : List Attribute → List Attribute → Bool
set_eq = pointwise pair_eq

-- the set with one pair more, which stands before the first that is greater
abbrev pub with_pair : Attribute → List Attribute → List Attribute
with_pair pair [] = pair ∷ []
with_pair pair (first ∷ rest) =
    if is_before pair first then pair ∷ first ∷ rest else first ∷ with_pair pair rest

-- the set to which these pairs were added
abbrev pub set_of : List Attribute → List Attribute
set_of [] = []
set_of (pair ∷ pairs) = with_pair pair (set_of pairs)

-- how often a pair stands in a list
abbrev pub count : Attribute → List Attribute → ℕ
count pair [] = 0
count pair (first ∷ rest) = (if pair_eq first pair then 1 else 0) + count pair rest

-- the values of a key, in their order
abbrev pub values_of : List ℕ → List Attribute → List (List ℕ)
values_of key set = map (λ it. it.value) (filter (λ it. text_eq it.key key) set)
