-- The list that a queue's words hold is the one that its cells show.
use Rattle.std.proofs.Common.{◌≡◌, ℕ, List, [], get_or, refl, sym}
use Rattle.iox_steps.specs.declared.site.Site.{Site}
use Rattle.iox_steps.specs.declared.side.Pushing.TheVariants as pushing
use Rattle.iox_steps.specs.declared.side.Popping.TheVariants as popping
use Rattle.iox_steps.specs.Contents.{values}
use Rattle.iox_steps.specs.EventLists.{QueueState}
use Rattle.iox_steps.proofs.ContentLemmas.{waiting_are_values}
use Rattle.iox_queue_steps.specs.declared.queue.Side.TheVariants.{Pusher, Popper}
use Rattle.iox_queue_steps.specs.Machines.{SidesShow}
use Rattle.iox_queue_calls.specs.Lists.{state_at}

module _ (site : Site) (words : List ℕ) where
  -- the list that waits
  pub waiting_is_values : (state : QueueState) → SidesShow site words (Pusher pushing.AtRest) (Popper popping.AtRest) state → state ≡ state_at site words
  waiting_is_values state shows =
      let waiting : state.waiting ≡ values site words = waiting_are_values site words state.waiting shows.1.ring in
      let hand : state.hand ≡ [] = shows.1.push.0 in
      let write : state.write ≡ get_or words site.base 0 = sym shows.0 in
      rw (← waiting, ← hand, ← write) refl
