-- Places of words and of cells: which are the same and which are not.
use Rattle.std.proofs.Common.{◌≡◌, ◌≢◌, ◌⊎◌, ℕ, ◌+◌, ◌/◌, ◌%◌, ◌<◌, ◌≤◌, max, inl, inr, arith, refl, ap, eqb, eq-eqb}
use Rattle.std.proofs.Math.Nat.{div-add-mod, mul-le-mul_left}
use Rattle.std.proofs.lemmas.Bool.{cases_lt, cases_Bool, eqb-true}
use Rattle.std.proofs.lemmas.Nat.{mod_below}
use Rattle.iox_steps.specs.declared.site.QueueKind.{QueueKind}
use Rattle.iox_steps.specs.declared.site.QueueKind.TheVariants.{Index, Overflowing}
use Rattle.iox_steps.specs.declared.site.Site.{Site}
use Rattle.iox_steps.specs.Accesses.{put, IsPlace}
use Rattle.iox_steps.specs.Sites.{cells_of, cells, cell_at}

pub put-same : (word : ℕ → ℕ) (place value : ℕ) → put word place value place ≡ value
put-same word place value = rw (eq-eqb place place refl) refl

pub put-other : (word : ℕ → ℕ) (place value at : ℕ) → at ≢ place → put word place value at ≡ word at
put-other word place value at other = elim (cases_Bool (eqb at place)) [
  | inl same ↦ absurd (other (eqb-true _ _ same))
  | inr apart ↦ rw apart refl
]

-- two positions less than one round apart stand in two cells
pub mod_apart : (n a b : ℕ) → a < b → b < a + n → a % n ≢ b % n
mod_apart n a b less near same = elim (cases_lt (a / n) (b / n)) [
  | inl up ↦ (
      let least : a / n + 1 ≤ b / n = omega arith in
      omega (arith, div-add-mod a n, div-add-mod b n, mul-le-mul_left n least)
      )
  | inr down ↦ omega (arith, div-add-mod a n, div-add-mod b n, mul-le-mul_left n down)
]

pub cases_kind : (kind : QueueKind) → (kind ≡ Index) ⊎ (kind ≡ Overflowing)
cases_kind Index = inl refl
cases_kind Overflowing = inr refl

-- there are cells for as many values as may wait
capacity_of-cells_of : (kind : QueueKind) (capacity : ℕ) → capacity ≤ cells_of kind capacity
capacity_of-cells_of Index capacity = omega arith
capacity_of-cells_of Overflowing capacity = omega arith

pub capacity-cells : (site : Site) → site.capacity ≤ cells site
capacity-cells site = capacity_of-cells_of site.kind site.capacity

-- and one more where a push may overflow
pub cells-overflowing : (site : Site) → site.kind ≡ Overflowing → cells site ≡ site.capacity + 1
cells-overflowing site kind = ap (λ k. cells_of k site.capacity) kind

-- a cell is one of the queue's words
pub cell_place : (site : Site) (position : ℕ) → 0 < cells site → IsPlace (site.base + 2) (cells site) (cell_at site position)
cell_place site position some = let below = mod_below position (max 1 (cells site)) (omega arith) in (omega arith, omega arith)
