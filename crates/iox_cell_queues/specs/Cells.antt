-- The words of a queue of values of several words: the write position, the read position, and the
-- cells.
use Rattle.std.specs.Prelude.{ℕ, Bool, ◌+◌, ◌*◌, ◌-◌, ◌%◌, ◌==◌, ◌||◌, nat_le, max}
use Rattle.iox_cell_queues.specs.declared.site.CellSite.{CellSite}

-- how many words there are
abbrev pub size : CellSite → ℕ
size site = 2 + site.capacity * site.width

-- where the first word of a position's value stands
abbrev pub cell_at : CellSite → ℕ → ℕ
cell_at site position = site.base + 2 + (position % max 1 site.capacity) * site.width

-- as many values as may wait stand from the read position to the write position
abbrev pub is_full : CellSite → ℕ → ℕ → Bool
is_full site read write = nat_le site.capacity (write - read)

-- no value stands from the read position to the write position; where there is no cell, none ever
-- does
abbrev pub is_empty : CellSite → ℕ → ℕ → Bool
is_empty site read write = nat_le write read || (site.capacity == 0)
