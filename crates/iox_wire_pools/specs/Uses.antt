-- How often each slot of a port is in use: that is what its desk counts.
use Rattle.std.specs.Prelude.{◌≡◌, ℕ, ◌+◌, ◌<◌, ◌≤◌, ◌&&◌, if◌then◌else◌, ◌==◌, nat_lt, List, [], ◌∷◌, map, find, length, slice_index, Some}
use Rattle.iox_model.specs.Maps.{has_number, AreDistinctWays, AreDistinct}
use Rattle.iox_wire_locals.specs.declared.seat.Seat.{Seat}
use Rattle.iox_wire_locals.specs.declared.table.Desk.{Desk}
use Rattle.iox_wire_locals.specs.Tables.{Setting}
use Rattle.iox_wire_laws.specs.WireHolding.SlotsKnown.{IsPortOfSeat}
use Rattle.iox_wire_laws.specs.WireKeeping.UsedSlots.{slots_used}

-- how often the number is in the list
abbrev pub how_often : ℕ → List ℕ → ℕ
how_often n [] = 0
how_often n (k ∷ ks) = (if k == n then 1 else 0) + how_often n ks

-- how often the slot is in use: by the port's call, by its own handles, and on ways where its
-- message is outstanding
abbrev pub uses_of : Seat → (port slot : ℕ) → ℕ
uses_of x port slot = how_often slot (slots_used x port)

-- The desk counts these uses of each slot of its pool. The free slots are those without a use, each
-- listed once.
pub record CountsUses (pool : ℕ) (uses : ℕ → ℕ) (d : Desk) : Type 0 where
  pub words : length d.uses ≡ pool
  pub told : (slot : ℕ) → slot < pool → slice_index d.uses slot ≡ uses slot
  pub within : (slot : ℕ) → pool ≤ slot → uses slot ≡ 0
  pub free_once : AreDistinct d.free
  pub free : (slot : ℕ) → has_number slot d.free ≡ (nat_lt slot pool && (uses slot == 0))

-- The port has a desk, with one record for each way, which counts how often each slot is in use.
pub record UsesAreCounted (x : Seat) (port pool : ℕ) : Type 0 where
  pub desk : Desk
  pub there : find (λ d. d.port == port) x.desks ≡ Some desk
  pub ways : AreDistinctWays (map (λ r. r.way) desk.recorded)
  pub counts : CountsUses pool (uses_of x port) desk

-- So it is at each port of the node.
abbrev pub AllUsesAreCounted : Setting → Seat → Type 0
AllUsesAreCounted p x =
    (port : ℕ) → IsPortOfSeat p x port → UsesAreCounted x port (p.port port).pool
