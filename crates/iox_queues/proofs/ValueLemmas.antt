-- The values of cells that all have one, after a push and after a pop.
use Rattle.std.proofs.Common.{◌≡◌, ◌+◌, ◌≤◌, ◌++◌, ◌∷◌, ◌∙◌, [], Bool, List, true, false, length, drop, refl, ap, arith, length-append}
use Rattle.std.specs.Prelude.{Option, None, Some}
use Rattle.std.specs.Bool.{OnFalse, OnTrue}
use Rattle.std.specs.Option.{option_flatten}
use Rattle.std.proofs.lemmas.List.Elements.{filter_map-append}
use Rattle.iox_queues.specs.BoundedQueues.{BoundedQueueOf, first, with_pushed, without_first}
use Rattle.iox_queues.specs.Rings.{AreFilled, queue_of_values, values}

length-values-le : {A : Type 0} (cells : List (Option A)) → length (values cells) ≤ length cells
length-values-le [] = omega arith
length-values-le (None ∷ cells) = omega (arith, length-values-le cells)
length-values-le (Some value ∷ cells) = omega (arith, length-values-le cells)

pub values-push : {A : Type 0} (cells : List (Option A)) (value : A)
    → values (cells ++ Some value ∷ []) ≡ values cells ++ value ∷ []
values-push cells value = filter_map-append (λ cell. cell) cells (Some value ∷ [])

pub AreFilled-push : {A : Type 0} (cells : List (Option A)) (value : A)
    → AreFilled cells → AreFilled (cells ++ Some value ∷ [])
AreFilled-push cells value filled =
    rw values-push (simp length-append (omega (arith, filled)))

pub first-values : {A : Type 0} (cells : List (Option A)) → AreFilled cells
    → option_flatten (first cells) ≡ first (values cells)
first-values [] filled = refl
first-values (None ∷ cells) filled = absurd (omega (arith, filled, length-values-le cells))
first-values (Some value ∷ cells) filled = refl

pub values-pop : {A : Type 0} (cells : List (Option A)) → AreFilled cells
    → values (drop 1 cells) ≡ drop 1 (values cells)
values-pop [] filled = refl
values-pop (None ∷ cells) filled = absurd (omega (arith, filled, length-values-le cells))
values-pop (Some value ∷ cells) filled = refl

pub AreFilled-pop : {A : Type 0} (cells : List (Option A)) → AreFilled cells → AreFilled (drop 1 cells)
AreFilled-pop [] filled = refl
AreFilled-pop (None ∷ cells) filled = absurd (omega (arith, filled, length-values-le cells))
AreFilled-pop (Some value ∷ cells) filled = omega (arith, filled)

pub queue_of_values-push : {A : Type 0} (queue : BoundedQueueOf (Option A)) (value : A)
    → queue_of_values (with_pushed queue (Some value)) ≡ with_pushed (queue_of_values queue) value
queue_of_values-push {A} queue value =
    ap (λ (waiting : List A). record { capacity = queue.capacity; waiting = waiting; pushed = queue.pushed + 1 })
    (values-push queue.waiting value)

pub queue_of_values-pop : {A : Type 0} (queue : BoundedQueueOf (Option A)) → AreFilled queue.waiting
    → queue_of_values (without_first queue) ≡ without_first (queue_of_values queue)
queue_of_values-pop {A} queue filled =
    ap (λ (waiting : List A). record { capacity = queue.capacity; waiting = waiting; pushed = queue.pushed })
    (values-pop queue.waiting filled)

-- after a push, which was taken or refused
module _ {A : Type 0} (old new : BoundedQueueOf (Option A)) (value : A) where
  pub AreFilled-after : (taken : Bool) → OnTrue taken (new ≡ with_pushed old (Some value))
      → OnFalse taken (new ≡ old) → AreFilled old.waiting → AreFilled new.waiting
  AreFilled-after true is _ filled = rw is (AreFilled-push old.waiting value filled)
  AreFilled-after false _ is filled = rw is filled

  pub capacity-after : (taken : Bool) → OnTrue taken (new ≡ with_pushed old (Some value))
      → OnFalse taken (new ≡ old) → new.capacity ≡ old.capacity
  capacity-after true is _ = ap (λ (queue : BoundedQueueOf (Option A)). queue.capacity) is
  capacity-after false _ is = ap (λ (queue : BoundedQueueOf (Option A)). queue.capacity) is

  pub queue_of_values-after : (taken : Bool) → OnTrue taken (new ≡ with_pushed old (Some value))
      → OnTrue taken (queue_of_values new ≡ with_pushed (queue_of_values old) value)
  queue_of_values-after true is =
      ap (λ (queue : BoundedQueueOf (Option A)). queue_of_values queue) is ∙ queue_of_values-push old value
  queue_of_values-after false _ = tt
