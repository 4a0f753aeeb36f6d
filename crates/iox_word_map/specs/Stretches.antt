-- Stretches of words that are divided into named parts, and those into parts again. A path names a
-- part by the names of the parts around it, the outermost first.
use Rattle.std.specs.Prelude.{◌≡◌, ℕ, ◌+◌, ◌⊎◌, true, if◌then◌else◌, ◌==◌, List, [], ◌∷◌}
use Rattle.iox_model.specs.Maps.{has_number}

-- a stretch of words: so many words, or parts one after another, each with a name
pub data Stretch : Type 0 where
  Plain : (size : ℕ) → Stretch
  Divided : (names : List ℕ) (part : ℕ → Stretch) → Stretch

-- the sizes of all parts together
abbrev pub sum_of : (ℕ → ℕ) → List ℕ → ℕ
sum_of size [] = 0
sum_of size (k ∷ ks) = size k + sum_of size ks

-- the sizes of the parts before the one of that name
abbrev pub sum_before : (ℕ → ℕ) → ℕ → List ℕ → ℕ
sum_before size k [] = 0
sum_before size k (j ∷ js) = if j == k then 0 else size j + sum_before size k js

-- how many words it has
abbrev pub stretch_size : Stretch → ℕ
stretch_size (Plain size) = size
stretch_size (Divided names part) = sum_of (λ k. stretch_size (part k)) names

-- the path leads to a part
abbrev pub HasPath : Stretch → List ℕ → Type 0
HasPath t [] = Unit {0}
HasPath (Plain size) (k ∷ path) = ⊥
HasPath (Divided names part) (k ∷ path) = (has_number k names ≡ true) × HasPath (part k) path

-- the part to which the path leads
abbrev pub part_at : Stretch → List ℕ → Stretch
part_at t [] = t
part_at (Plain size) (k ∷ path) = Plain 0
part_at (Divided names part) (k ∷ path) = part_at (part k) path

-- how many words stand before that part
abbrev pub place_at : Stretch → List ℕ → ℕ
place_at t [] = 0
place_at (Plain size) (k ∷ path) = 0
place_at (Divided names part) (k ∷ path) =
    sum_before (λ j. stretch_size (part j)) k names + place_at (part k) path

-- neither path begins the other
abbrev pub PathsPart : List ℕ → List ℕ → Type 0
PathsPart [] q = ⊥
PathsPart (i ∷ p) [] = ⊥
PathsPart (i ∷ p) (j ∷ q) = (i ≡ j → ⊥) ⊎ ((i ≡ j) × PathsPart p q)
