-- The values that wait in the words of a queue.
use Rattle.std.specs.Prelude.{ℕ, zero, suc, ◌+◌, ◌-◌, List, [], ◌∷◌, slice_index}
use Rattle.iox_steps.specs.declared.site.Site.{Site}
use Rattle.iox_steps.specs.Sites.{cell_at}

module _ (site : Site) (words : List ℕ) where
  -- the values of so many positions, from one on
  abbrev pub values_from : ℕ → ℕ → List ℕ
  values_from position zero = []
  values_from position (suc count) =
      slice_index words (cell_at site position) ∷ values_from (position + 1) count

  -- the write position, as the words hold it
  abbrev pub write : ℕ
  write = slice_index words site.base

  -- the read position, as the words hold it
  abbrev pub read : ℕ
  read = slice_index words (site.base + 1)

  -- the values from the read position to the write position
  abbrev pub values : List ℕ
  values = values_from read (write - read)
