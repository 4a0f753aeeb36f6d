-- The queue that lies in a ring, after a push, after a pop and where the end is called the begin.
use Rattle.std.proofs.Common.{◌≡◌, ◌+◌, ◌-◌, ◌<◌, ◌∙◌, ℕ, List, length, set, ap, ap₂, arith, inl, inr, length-set, sym}
use Rattle.iox_queues.specs.BoundedQueues.{with_pushed, without_first}
use Rattle.iox_queues.specs.Rings.{AreWithin, StartsAsBefore, count_at, items_from, pushed_at, queue_at}
use Rattle.iox_queues.specs.declared.places.Places.{Places}
use Rattle.iox_queues.proofs.RingLemmas.{items_from-end, items_from-pop, items_from-push, mod_wraps_once}

module _ {A : Type 0} (cells : List A) (p : Places) (within : AreWithin (length cells) p) where
  pub queue_at-push : (value : A) → p.free < p.free_end
      → queue_at (set cells p.free value) (record p { free = p.free + 1 }) ≡ with_pushed (queue_at cells p) value
  queue_at-push value below =
      let count : p.ahead + (p.free + 1) - p.oldest ≡ count_at p + 1 = omega (arith, within) in
      let pushed : p.before + (p.free + 1) ≡ pushed_at p + 1 = omega arith in
      let wraps = mod_wraps_once (length cells) (p.oldest + count_at p) (omega (arith, within, below)) in
      rw (count, pushed) (
      ap₂ (λ (n : ℕ) (items : List A). record { capacity = n; waiting = items; pushed = pushed_at p + 1 })
      (length-set cells p.free value)
      (items_from-push p.oldest (count_at p) p.free cells value
      (omega (arith, within)) (omega (arith, within, below)) (grind (arith, wraps, within, below))))

  pub queue_at-pop : p.oldest < p.filled_end
      → queue_at cells (record p { oldest = p.oldest + 1 }) ≡ without_first (queue_at cells p)
  queue_at-pop below =
      let count : p.ahead + p.free - (p.oldest + 1) ≡ count_at p - 1 = omega arith in
      rw count (
      ap (λ (items : List A). record { capacity = length cells; waiting = items; pushed = pushed_at p })
      (items_from-pop p.oldest (count_at p) cells
      (omega (arith, within, below)) (omega (arith, within)) (omega (arith, within, below))))

-- at places that start as before
module _ {A : Type 0} (cells : List A) (old new : Places) (within : AreWithin (length cells) old) where
  items_from-starts : StartsAsBefore (length cells) old new
      → items_from new.oldest (count_at old) cells ≡ items_from old.oldest (count_at old) cells
  items_from-starts (inl same) = ap (λ start. items_from start (count_at old) cells) same
  items_from-starts (inr moved) =
      ap (λ start. items_from start (count_at old) cells) moved.1
      ∙ sym (items_from-end (count_at old) cells (omega (arith, within)))
      ∙ ap (λ start. items_from start (count_at old) cells) (sym moved.0)

  pub queue_at-starts : StartsAsBefore (length cells) old new
      → count_at new ≡ count_at old → pushed_at new ≡ pushed_at old → queue_at cells new ≡ queue_at cells old
  queue_at-starts starts count pushed =
      rw (count, pushed) (
      ap (λ (items : List A). record { capacity = length cells; waiting = items; pushed = pushed_at old })
      (items_from-starts starts))
