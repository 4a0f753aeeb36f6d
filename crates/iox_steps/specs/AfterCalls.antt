-- A queue after any calls of its two parties.
use Rattle.std.specs.Prelude.{◌≡◌, ℕ, ◌+◌, ◌≤◌, ◌++◌, List, [], length, slice_index}
use Rattle.iox_steps.specs.declared.site.Site.{Site}
use Rattle.iox_steps.specs.declared.push.Push.TheVariants as push
use Rattle.iox_steps.specs.declared.side.Pushing.{Pushing}
use Rattle.iox_steps.specs.declared.side.Pushing.TheVariants as pushing
use Rattle.iox_steps.specs.declared.side.Popping.{Popping}
use Rattle.iox_steps.specs.declared.side.QueueEvent.{QueueEvent}
use Rattle.iox_steps.specs.Sites.{size}
use Rattle.iox_steps.specs.Fits.{Fits}
use Rattle.iox_steps.specs.EventLists.{Follows, published, departed}

-- how many values may wait: one more than the capacity only while a push has yet to evict the
-- oldest
abbrev pub most_waiting : Site → Pushing → ℕ
most_waiting site (pushing.Pushes (push.Evicts read)) = site.capacity + 1
most_waiting site pushes = site.capacity

-- The words and parties of a queue after any calls on it, whole or stopped, and the events since it
-- was empty.
pub record AfterCalls (site : Site) (words : List ℕ) (pushes : Pushing) (pops : Popping)
    (events : List QueueEvent) : Type 0 where
  -- the write position at first, when the queue was empty
  pub first : ℕ
  -- the values that wait now, oldest first
  pub waiting : List ℕ
  -- what was pushed out, and its pusher did not learn yet: one value or none
  pub hand : List ℕ
  -- the published values are, in order, those that left and then those that wait
  pub order : published events ≡ departed [] events ++ waiting
  pub bounded : length waiting ≤ most_waiting site pushes
  -- each event was true of what waited when it came
  pub run : Follows site (record { write = first; waiting = []; hand = [] }) events
      (record { write = slice_index words site.base; waiting = waiting; hand = hand })
  -- the words of the queue are among the words
  pub room : site.base + size site ≤ length words
  pub fits : Fits site (λ place. slice_index words place) waiting hand pushes pops
