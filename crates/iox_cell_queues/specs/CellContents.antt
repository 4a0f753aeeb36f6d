-- The values that wait in the words of a queue of values.
use Rattle.std.specs.Prelude.{ℕ, zero, suc, ◌+◌, ◌-◌, ◌++◌, List, [], take, drop, slice_index}
use Rattle.std.specs.Option.{option_to_list}
use Rattle.iox_words.specs.declared.word_list.Words.{Ghosts}
use Rattle.iox_cell_queues.specs.declared.site.CellSite.{CellSite}
use Rattle.iox_cell_queues.specs.Cells.{cell_at}

-- the words of the cell of a position
abbrev pub cell_words : CellSite → List ℕ → ℕ → List ℕ
cell_words site list position = take site.width (drop (cell_at site position) list)

-- the write position, as the words hold it
abbrev pub write : CellSite → List ℕ → ℕ
write site list = slice_index list site.base

-- the read position, as the words hold it
abbrev pub read : CellSite → List ℕ → ℕ
read site list = slice_index list (site.base + 1)

-- `W` has the words of the values
module _ {A : Type 0} (W : Ghosts A) (site : CellSite) (list : List ℕ) where
  -- the values of so many positions, from one on
  abbrev pub values_from : ℕ → ℕ → List A
  values_from position zero = []
  values_from position (suc count) =
      option_to_list (W.of_words (cell_words site list position))
      ++ values_from (position + 1) count

  -- the values from the read position to the write position
  abbrev pub values : List A
  values = values_from (read site list) (write site list - read site list)
