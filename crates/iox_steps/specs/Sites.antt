-- The words of a queue: the write position, the read position, and then the cells.
use Rattle.std.specs.Prelude.{ℕ, Bool, ◌+◌, ◌-◌, ◌%◌, ◌^◌, nat_le, min, max}
use Rattle.iox_steps.specs.declared.site.QueueKind.{QueueKind}
use Rattle.iox_steps.specs.declared.site.QueueKind.TheVariants.{Index, Overflowing}
use Rattle.iox_steps.specs.declared.site.Site.{Site}

-- how many cells a queue of this kind and capacity has: an overflowing one has one more than may
-- wait
abbrev pub cells_of : QueueKind → ℕ → ℕ
cells_of Index capacity = capacity
cells_of Overflowing capacity = capacity + 1

-- how many cells there are
abbrev pub cells : Site → ℕ
cells site = cells_of site.kind site.capacity

-- how many words there are
abbrev pub size : Site → ℕ
size site = 2 + cells site

-- where the value of a position stands; with no cell, where the first would
abbrev pub cell_at : Site → ℕ → ℕ
cell_at site position = site.base + 2 + position % max 1 (cells site)

-- the last position, which is never passed
abbrev pub last_position : ℕ
last_position = 2 ^ 64 - 1

-- the position after this one, where there is one
abbrev pub position_after : ℕ → ℕ
position_after position = min (position + 1) last_position

-- as many values as may wait stand from the read position to the write position
abbrev pub is_full : Site → ℕ → ℕ → Bool
is_full site read write = nat_le site.capacity (write - read)

-- no value stands from the read position to the write position
abbrev pub is_empty : Site → ℕ → ℕ → Bool
is_empty site read write = nat_le write read
