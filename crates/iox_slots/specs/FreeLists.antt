-- How a pool lists its free slots.
use Rattle.std.specs.Prelude.{◌≡◌, ◌≤◌, ℕ, Bool, false, if◌then◌else◌, Option, List, length, nat_lt, slice_get, count_by}
use Rattle.std.specs.Option.{option_map_or}
use Rattle.iox_tables.specs.HubStates.Tables.{SlotState, PoolState, slots_of, is_free}
use Rattle.iox_tables.specs.HubBooks.Counts.{how_often}

-- 1 if nobody has the slot, else 0
abbrev pub one_if_free : SlotState → ℕ
one_if_free s = if is_free s then 1 else 0

-- 1 if there is such a slot and nobody has it, else 0
abbrev pub freedom : List SlotState → ℕ → ℕ
freedom slots k = option_map_or one_if_free (slice_get slots k) 0

-- Each free slot is listed once, no other is, and there is memory to list them all.
pub record IsFreeList (slots : List SlotState) (free : List ℕ) (capacity : ℕ) : Type 0 where
  pub listed : (k : ℕ) → how_often k free ≡ freedom slots k
  pub counted : length free ≡ count_by is_free slots
  pub fits : length slots ≤ capacity

-- each number below n is in the list once, and no other
pub record AreNumbersBelow (n : ℕ) (ks : List ℕ) : Type 0 where
  pub once : (k : ℕ) → how_often k ks ≡ (if nat_lt k n then 1 else 0)
  pub counted : length ks ≡ n

-- whether the pool in this place has a slot of that number that nobody has
abbrev pub has_free_slot : List (Option PoolState) → ℕ → ℕ → Bool
has_free_slot pools place k = option_map_or is_free (slice_get (slots_of pools place) k) false
