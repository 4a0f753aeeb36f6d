-- The queue of values that words hold while no call is under way.
use Rattle.std.specs.Prelude.{ℕ, ◌+◌, ◌^◌, ◌<◌, ◌≤◌, List, length, slice_index}
use Rattle.iox_words.specs.declared.word_list.Words.{Ghosts}
use Rattle.iox_queues.specs.BoundedQueues.{BoundedQueueOf}
use Rattle.iox_cell_queues.specs.declared.site.CellSite.{CellSite}
use Rattle.iox_cell_queues.specs.Cells.{size}
pub use Rattle.iox_cell_queues.specs.CellContents.{cell_words, write, read, values_from, values}
use Rattle.iox_cell_queues.specs.CellFits.{Ring}
use Rattle.iox_cell_queues.specs.CellEventLists.{CellQueueState}

-- `W` has the words of the values
module _ {A : Type 0} (W : Ghosts A) (site : CellSite) (list : List ℕ) where
  -- the plain queue that the words hold
  abbrev pub queue_at : BoundedQueueOf A
  queue_at = record {
    capacity = site.capacity;
    waiting = values W site list;
    pushed = write site list;
  }

  -- the queue that the words hold, as a list
  abbrev pub state_at : CellQueueState A
  state_at = record { write = write site list; waiting = values W site list }

  -- the words hold a queue at this site, its values whole, and no call is under way
  abbrev pub HoldsQueue : Type 0
  HoldsQueue = (site.base + size site ≤ length list) × (write site list < 2 ^ 64)
      × Ring W.words W.of_words site (λ at. slice_index list at) (values W site list)
