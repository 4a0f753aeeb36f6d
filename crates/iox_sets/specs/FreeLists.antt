-- How the free indices stand in a list of places: the next one last.
use Rattle.std.specs.Prelude.{◌≡◌, ◌≢◌, ◌<◌, ◌≤◌, ℕ, List, Bool, true, false, AllPairs, IsTrue, length}
use Rattle.std.specs.Prelude.{reverse, slice_index, take}
use Rattle.iox_sets.specs.IndexSets.{IndexSet, max_capacity}

-- the free indices, the next one first
abbrev pub free_in_places : List ℕ → ℕ → Bool → List ℕ
-- of an open set those of the first `free` places, from the last of them down
free_in_places places free false = reverse (take free places)
-- of a locked set those of all places
free_in_places places free true = reverse places

-- the set of indices that the places, the number of free ones and the lock make up
abbrev pub set_in_places : List ℕ → ℕ → Bool → IndexSet
set_in_places places free locked =
    record { capacity = length places; free = free_in_places places free locked; locked = locked }

-- each free index is below the capacity, and is listed once
pub record IsFreeList (capacity : ℕ) (free : List ℕ) : Type 0 where
  pub below : (k : ℕ) → k < length free → slice_index free k < capacity
  pub distinct : AllPairs (λ index other. index ≢ other) free

-- what holds at all times of the places of a set of indices
pub record AreIndexPlaces (places : List ℕ) (free : ℕ) (locked : Bool) : Type 0 where
  pub some : 0 < length places
  pub few : length places ≤ max_capacity
  pub fits : free ≤ length places
  -- a locked set has no index to give
  pub none : IsTrue locked → free ≡ 0
  pub once : IsFreeList (length places) (free_in_places places free locked)
