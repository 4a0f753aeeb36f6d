-- How a stored party keeps where it is: a name, and the numbers kept with it. Only for proofs of
-- this crate.
use Rattle.std.specs.Prelude.{◌≡◌, ℕ, ◌+◌, ◌^◌, ◌<◌, Bool}
use Rattle.iox_steps.specs.declared.site.Site.{Site}
use Rattle.iox_steps.specs.declared.push.Push.TheVariants as push
use Rattle.iox_steps.specs.declared.push.FullLook.TheVariants as full_look
use Rattle.iox_steps.specs.declared.pop.Pop.TheVariants as pop
use Rattle.iox_steps.specs.declared.pop.EmptyLook.TheVariants as empty_look
use Rattle.iox_steps.specs.declared.side.Pushing.{Pushing}
use Rattle.iox_steps.specs.declared.side.Pushing.TheVariants as pushing
use Rattle.iox_steps.specs.declared.side.Popping.{Popping}
use Rattle.iox_steps.specs.declared.side.Popping.TheVariants as popping
use Rattle.iox_steps.specs.Sites.{cells, size, cell_at}
use Rattle.iox_steps.specs.Pushes.{full_at}
use Rattle.iox_queue_steps.specs.declared.stored.cell.Cursor.{Cursor}
use Rattle.iox_queue_steps.specs.declared.stored.pusher.PushAt.{PushAt}
use Rattle.iox_queue_steps.specs.declared.stored.pusher.PushAt.TheVariants as push_at
use Rattle.iox_queue_steps.specs.declared.stored.popper.PopAt.{PopAt}
use Rattle.iox_queue_steps.specs.declared.stored.popper.PopAt.TheVariants as pop_at

-- the pushing party that a stored name and its numbers stand for
abbrev pub pushing_of : PushAt → ℕ → ℕ → Bool → ℕ → ℕ → ℕ → Pushing
pushing_of push_at.Rest value position full read cell old = pushing.AtRest
pushing_of push_at.LoadsWrite value position full read cell old = pushing.Pushes (push.LoadsWrite value)
pushing_of push_at.LoadsRead value position full read cell old =
    pushing.Pushes (push.LoadsRead value position)
pushing_of push_at.StoresCell value position full read cell old =
    pushing.Pushes (push.StoresCell value cell position (full_at full read))
pushing_of push_at.StoresWrite value position full read cell old =
    pushing.Pushes (push.StoresWrite value position (full_at full read))
pushing_of push_at.Evicts value position full read cell old = pushing.Pushes (push.Evicts read)
pushing_of push_at.TakesOld value position full read cell old = pushing.Pushes (push.TakesOld old)
pushing_of push_at.LookLoadsWrite value position full read cell old = pushing.Looks full_look.LoadsWrite
pushing_of push_at.LookLoadsRead value position full read cell old =
    pushing.Looks (full_look.LoadsRead position)

-- the popping party that a stored name and its numbers stand for
abbrev pub popping_of : PopAt → ℕ → ℕ → ℕ → Popping
popping_of pop_at.Rest position value cell = popping.AtRest
popping_of pop_at.LoadsRead position value cell = popping.Pops pop.LoadsRead
popping_of pop_at.LoadsWrite position value cell = popping.Pops (pop.LoadsWrite position)
popping_of pop_at.LoadsCell position value cell = popping.Pops (pop.LoadsCell position cell)
popping_of pop_at.Takes position value cell = popping.Pops (pop.Takes position value)
popping_of pop_at.LookLoadsRead position value cell = popping.Looks empty_look.LoadsRead
popping_of pop_at.LookLoadsWrite position value cell = popping.Looks (empty_look.LoadsWrite position)

-- the party is in a push that has yet to publish its value
abbrev pub IsPublishing : Pushing → Type 0
IsPublishing (pushing.Pushes (push.LoadsWrite value)) = Unit {0}
IsPublishing (pushing.Pushes (push.LoadsRead value write)) = Unit {0}
IsPublishing (pushing.Pushes (push.StoresCell value cell next full)) = Unit {0}
IsPublishing (pushing.Pushes (push.StoresWrite value next full)) = Unit {0}
IsPublishing party = ⊥

-- the party is in a push that published its value and now pushes the oldest out
abbrev pub IsEvicting : Pushing → Type 0
IsEvicting (pushing.Pushes (push.Evicts read)) = Unit {0}
IsEvicting (pushing.Pushes (push.TakesOld cell)) = Unit {0}
IsEvicting party = ⊥

-- the party is in a pop
abbrev pub IsPop : Popping → Type 0
IsPop (popping.Pops place) = Unit {0}
IsPop party = ⊥

-- the queue is in memory, and these are the cell of a position and the place of the last cell
pub record KnowsCell (site : Site) (cursor : Cursor) : Type 0 where
  pub memory : site.base + size site < 2 ^ 64
  pub end : cursor.last ≡ site.base + 1 + cells site
  pub stands : cursor.cell ≡ cell_at site cursor.next
