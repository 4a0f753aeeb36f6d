-- Words of cells: which are the same and which are not.
use Rattle.std.proofs.Common.{◌≢◌, ℕ, ◌+◌, ◌*◌, ◌%◌, ◌<◌, ◌≤◌, max, inl, inr, arith}
use Rattle.std.proofs.Math.Nat.{mul-le-mul_left}
use Rattle.std.proofs.lemmas.Bool.{cases_lt}
use Rattle.std.proofs.lemmas.Nat.{mod_below}
use Rattle.iox_steps.specs.Accesses.{IsPlace}
use Rattle.iox_steps.proofs.Places.{mod_apart}
use Rattle.iox_cell_queues.specs.declared.site.CellSite.{CellSite}
use Rattle.iox_cell_queues.specs.Cells.{cell_at}

-- words of two different cells are different
cells_apart : (width m n i j : ℕ) → m < n → i < width → m * width + i < n * width
cells_apart width m n i j less inside =
    let more = mul-le-mul_left width less in
    omega (arith, more)

-- words of two positions less than one round apart
pub words_apart : (site : CellSite) (a b i j : ℕ) → a < b → b < a + site.capacity → i < site.width → j < site.width → cell_at site a + i ≢ cell_at site b + j
words_apart site a b i j less near first second same =
    let n = max 1 site.capacity in
    let other = mod_apart n a b less (omega arith) in
    elim (cases_lt (a % n) (b % n)) [
      | inl up ↦ omega (arith, cells_apart site.width (a % n) (b % n) i j up first)
      | inr down ↦ (
          let under : b % n < a % n = omega (arith, other) in
          omega (arith, cells_apart site.width (b % n) (a % n) j i under second)
          )
    ]

-- a word of a cell is one of the queue's words
pub word_site : (site : CellSite) (position i : ℕ) → 0 < site.capacity → i < site.width
    → IsPlace (site.base + 2) (site.capacity * site.width) (cell_at site position + i)
word_site site position i some inside =
    let below = mod_below position (max 1 site.capacity) (omega arith) in
    let under = cells_apart site.width (position % max 1 site.capacity) site.capacity i 0 (omega arith) inside in
    (omega arith, omega (arith, under))

-- a cell ends within the queue's words
pub cell_end : (site : CellSite) (position : ℕ) → 0 < site.capacity → cell_at site position + site.width ≤ site.base + 2 + site.capacity * site.width
cell_end site position some =
    let below = mod_below position (max 1 site.capacity) (omega arith) in
    let under : position % max 1 site.capacity < site.capacity = omega arith in
    let more = mul-le-mul_left site.width under in
    omega (arith, more)
