-- What lies in a ring of cells: its oldest, and what is there after a push and a pop.
use Rattle.std.proofs.Common.{◌≡◌, ◌+◌, ◌-◌, ◌%◌, ◌<◌, ◌≤◌, ℕ, List, Some, None, length, get_or, slice_set, ap, ap₂, sym, ◌∙◌, inl, inr, arith, length-set}
use Rattle.std.proofs.lemmas.Option.{slice_get_past, slice_get_read}
use Rattle.std.specs.Prelude.{slice_get}
use Rattle.iox_queues.specs.Rings.{items_from}
use Rattle.iox_queues.proofs.RingLemmas.{get_or-items_from, items_from-end, items_from-pop, items_from-push, length-items_from, mod_wraps_once}
use Rattle.iox_lanes.specs.Cells.{AreWithin, cells_of, with_last, without_front}

module _ (cells : List ℕ) (first count : ℕ) (within : AreWithin cells first count) where
  -- as many lie there as are counted
  pub as_many : length (items_from first count cells) ≡ count
  as_many = length-items_from first count cells (omega (arith, within)) (omega (arith, within))

  -- the place of a rank lies so many cells on, around the end
  pub at_rank : (rank cell k : ℕ) → rank < count → cell ≡ (first + rank) % length cells → k ≡ get_or cells cell k
      → Some k ≡ slice_get (items_from first count cells) rank
  at_rank rank cell k below at is =
      sym (slice_get_read (items_from first count cells) count rank k (sym as_many) below
      (is ∙ ap (λ (i : ℕ). get_or cells i k) at
      ∙ sym (get_or-items_from first count cells (omega (arith, within)) (omega (arith, within)) rank k below)))

  -- past the last lies none
  pub past_last : (rank : ℕ) → count ≤ rank → None ≡ slice_get (items_from first count cells) rank
  past_last rank h =
      let many = as_many in
      sym (slice_get_past (items_from first count cells) rank (omega (arith, many, h)))

  -- one more lies behind the others
  pub pushed : (cell value : ℕ) → count < length cells → cell ≡ (first + count) % length cells
      → cells_of (slice_set cells cell value) first (count + 1) ≡ with_last (cells_of cells first count) value
  pushed cell value room at =
      ap₂ (λ (n : ℕ) (places : List ℕ). record { capacity = n; places = places })
      (length-set cells cell value)
      (items_from-push first count cell cells value (omega (arith, within)) room at)

  -- the oldest lies there no more
  pub popped : (next : ℕ) → 0 < count → next ≡ (first + 1) % length cells
      → cells_of cells next (count - 1) ≡ without_front (cells_of cells first count)
  popped next some at =
      ap (λ (places : List ℕ). record { capacity = length cells; places = places })
      (same ∙ items_from-pop first count cells (omega (arith, within, some)) (omega (arith, within)) some)
    where
      same : items_from next (count - 1) cells ≡ items_from (first + 1) (count - 1) cells
      same =
          elim (mod_wraps_once (length cells) (first + 1) (omega (arith, within, some))) [
            | inl inside ↦ ap (λ (s : ℕ). items_from s (count - 1) cells) (at ∙ inside.1)
            | inr past ↦
                let begin : next ≡ 0 = omega (arith, at, past, within, some) in
                let end : length cells ≡ first + 1 = omega (arith, past, within, some) in
                ap (λ (s : ℕ). items_from s (count - 1) cells) begin
                ∙ sym (items_from-end (count - 1) cells (omega (arith, within)))
                ∙ ap (λ (s : ℕ). items_from s (count - 1) cells) end
          ]

pub ruleset in_cells = (as_many, at_rank, past_last, pushed, popped)
