-- A queue of values after any calls of its two parties.
use Rattle.std.specs.Prelude.{◌≡◌, ℕ, ◌+◌, ◌≤◌, ◌++◌, List, [], length, slice_index, Option}
use Rattle.iox_cell_queues.specs.declared.site.CellSite.{CellSite}
use Rattle.iox_cell_queues.specs.declared.event.CellEvent.{CellEvent}
use Rattle.iox_cell_queues.specs.declared.side.CellPushing.{CellPushing}
use Rattle.iox_cell_queues.specs.declared.side.CellPopping.{CellPopping}
use Rattle.iox_cell_queues.specs.Cells.{size}
use Rattle.iox_cell_queues.specs.CellFits.{Fits}
use Rattle.iox_cell_queues.specs.CellEventLists.{Follows, published, departed}

-- The words and parties of a queue after any calls on it, whole or stopped, and the events since it
-- was empty.
pub record AfterCalls {A : Type 0} {width : ℕ} (words : A → List ℕ) (of_words : List ℕ → Option A)
    (site : CellSite) (list : List ℕ) (pushes : CellPushing A) (pops : CellPopping width)
    (events : List (CellEvent A)) : Type 0 where
  -- the write position at first, when the queue was empty
  pub first : ℕ
  -- the values that wait now, oldest first
  pub waiting : List A
  -- the published values are, in order, those handed out and then those that wait
  pub order : published events ≡ departed events ++ waiting
  pub bounded : length waiting ≤ site.capacity
  -- each event was true of what waited when it came
  pub run : Follows site (record { write = first; waiting = [] }) events
      (record { write = slice_index list site.base; waiting = waiting })
  -- the words of the queue are among the words
  pub room : site.base + size site ≤ length list
  pub fits : Fits words of_words site (λ at. slice_index list at) waiting pushes pops
