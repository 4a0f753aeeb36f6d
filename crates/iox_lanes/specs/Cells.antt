-- A ring of cells, and the places that lie in it.
use Rattle.std.specs.Prelude.{◌≤◌, ◌<◌, ◌+◌, ◌-◌, ℕ, List, [], ◌∷◌, ◌++◌, drop, length}
use Rattle.iox_queues.specs.Rings.{items_from}

-- how many places there is room for, and the places that lie there, oldest first
pub record CellsState : Type 0 where
  pub capacity : ℕ
  pub places : List ℕ

-- none lies there
abbrev pub no_places : ℕ → CellsState
no_places capacity = record { capacity = capacity; places = [] }

-- one more lies there, behind all others
abbrev pub with_last : CellsState → ℕ → CellsState
with_last c k = record c { places = c.places ++ k ∷ [] }

-- the oldest lies there no more
abbrev pub without_front : CellsState → CellsState
without_front c = record c { places = drop 1 c.places }

-- ---- only for proofs of this crate

-- the places that lie in `count` cells from the first on, around the end
abbrev pub cells_of : List ℕ → ℕ → ℕ → CellsState
cells_of cells first count =
    record { capacity = length cells; places = items_from first count cells }

-- the first is one of the cells, or 0 where there are none
abbrev pub AreWithin : List ℕ → ℕ → ℕ → Type 0
AreWithin cells first count =
    (count ≤ length cells) × (first < length cells + (1 - length cells))
