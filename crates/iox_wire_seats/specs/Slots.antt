-- A desk that lent nothing yet, and the slots of a desk that are free.
use Rattle.std.specs.Prelude.{◌≡◌, ◌<◌, ◌≤◌, ◌==◌, ℕ, List, [], ◌∷◌, length, replicate, slice_index}
use Rattle.iox_model.specs.Maps.{AreDistinct}
use Rattle.std.specs.List.{count_by, range_with_len}
use Rattle.iox_wire_locals.specs.declared.table.Desk.{Desk}

-- as many slots are free as have no use, and there is room for all of them
pub record AreFreeSlots (uses free : List ℕ) (capacity : ℕ) : Type 0 where
  pub count : length free ≡ count_by (λ n. n == 0) uses
  pub room : length uses ≤ capacity

-- the slot is there, and has no use
abbrev pub IsUnused : List ℕ → ℕ → Type 0
IsUnused uses slot = (slot < length uses) × (slice_index uses slot ≡ 0)

-- each of these slots is unused
abbrev pub AreUnused : (uses free : List ℕ) → Type 0
AreUnused uses [] = Unit {0}
AreUnused uses (slot ∷ free) = IsUnused uses slot × AreUnused uses free

-- what is free is unused, and stands once
abbrev pub MayBePicked : (uses free : List ℕ) → Type 0
MayBePicked uses free = AreUnused uses free × AreDistinct free

-- there is a serial for each slot
abbrev pub HasSerials : (serials uses : List ℕ) → Type 0
HasSerials serials uses = length serials ≡ length uses

-- there is room for as many lanes as there are slots
abbrev pub HasRoomForLanes : List ℕ → ℕ → Type 0
HasRoomForLanes uses capacity = length uses ≤ capacity

-- a port that lent nothing yet, with so many slots and lanes, and no ways to send on
abbrev pub new_desk : (port pool lanes : ℕ) → Desk
new_desk port pool lanes = record {
  port = port;
  loans = 0;
  serials = replicate pool 0;
  uses = replicate pool 0;
  free = range_with_len 0 pool;
  free_lanes = range_with_len 0 lanes;
  recorded = [];
}
