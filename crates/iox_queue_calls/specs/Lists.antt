-- The queue that words hold while no call is under way.
use Rattle.std.specs.Prelude.{ℕ, ◌+◌, ◌≤◌, List, [], length}
use Rattle.iox_queues.specs.BoundedQueues.{BoundedQueue}
use Rattle.iox_steps.specs.declared.site.Site.{Site}
use Rattle.iox_steps.specs.declared.side.Pushing.TheVariants as pushing
use Rattle.iox_steps.specs.declared.side.Popping.TheVariants as popping
use Rattle.iox_steps.specs.Sites.{size}
use Rattle.iox_steps.specs.EventLists.{QueueState}
pub use Rattle.iox_steps.specs.Contents.{values_from, write, read, values}
use Rattle.iox_queue_steps.specs.declared.queue.Side.TheVariants.{Pusher, Popper}
use Rattle.iox_queue_steps.specs.Machines.{SidesShow}

module _ (site : Site) (words : List ℕ) where
  -- the plain queue that the words hold
  abbrev pub queue_at : BoundedQueue
  queue_at = record {
    capacity = site.capacity;
    waiting = values site words;
    pushed = write site words;
  }

  -- the queue that the words hold, as a list with nothing in hand
  abbrev pub state_at : QueueState
  state_at = record { write = write site words; waiting = values site words; hand = [] }

  -- the words are those of a queue at this site whose parties are both at rest
  abbrev pub HoldsQueue : Type 0
  HoldsQueue = (site.base + size site ≤ length words)
      × SidesShow site words (Pusher pushing.AtRest) (Popper popping.AtRest) state_at
