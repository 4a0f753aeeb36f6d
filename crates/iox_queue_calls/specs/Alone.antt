-- A call whose accesses come one after another to its end, with no other party's access between
-- them.
use Rattle.std.specs.Prelude.{◌≡◌, ℕ, zero, suc, ◌≤◌, List, slice_index}
use Rattle.iox_steps.specs.declared.site.Site.{Site}
use Rattle.iox_steps.specs.declared.side.QueueReply.{QueueReply}
use Rattle.iox_steps.specs.Accesses.{IsWithin, seen_by, words_after}
use Rattle.iox_steps.specs.Answers.{OnProgress}
use Rattle.iox_steps.specs.Sites.{size}
use Rattle.iox_steps.specs.declared.push.Push.TheVariants as push
use Rattle.iox_steps.specs.declared.push.FullLook.TheVariants as full_look
use Rattle.iox_steps.specs.declared.pop.Pop.TheVariants as pop
use Rattle.iox_steps.specs.declared.pop.EmptyLook.TheVariants as empty_look
use Rattle.iox_steps.specs.declared.side.Pushing.TheVariants as pushing
use Rattle.iox_steps.specs.declared.side.Popping.TheVariants as popping
use Rattle.iox_queue_steps.specs.declared.queue.Side.{Side}
use Rattle.iox_queue_steps.specs.declared.queue.Side.TheVariants.{Pusher, Popper}
use Rattle.iox_queue_steps.specs.Queues.{side_access, side_after, side_progress}

-- the call makes this many accesses, all within the queue, and ends with this reply and these words
abbrev pub EndsAfter : ℕ → Site → List ℕ → Side → QueueReply → List ℕ → Type 0
EndsAfter zero site words side reply after = ⊥
EndsAfter (suc more) site words side reply after =
    let access = side_access site side in
    let seen = seen_by access (λ place. slice_index words place) in
    let left = words_after access words in
    IsWithin site.base (size site) access × OnProgress (side_progress site side seen)
    (EndsAfter more site left (side_after site side seen) reply after)
    (λ answer. (more ≡ zero) × (reply ≡ answer) × (after ≡ left))

-- the call ends after at most `most` accesses
pub record EndsWithin (most : ℕ) (site : Site) (words : List ℕ) (side : Side) : Type 0 where
  pub accesses : ℕ
  pub reply : QueueReply
  pub after : List ℕ
  pub few : accesses ≤ most
  pub ends : EndsAfter accesses site words side reply after

-- the call can end only with this reply and these words
abbrev pub IsEndOf : Site → List ℕ → Side → QueueReply → List ℕ → Type 0
IsEndOf site words side result new = (accesses : ℕ) → (reply : QueueReply) → (after : List ℕ)
    → EndsAfter accesses site words side reply after → (result ≡ reply) × (new ≡ after)

-- the pushing party once it began to push this value
abbrev pub pusher : ℕ → Side
pusher value = Pusher (pushing.Pushes (push.LoadsWrite value))

-- the pushing party once it began a look at fullness
abbrev pub full_looker : Side
full_looker = Pusher (pushing.Looks full_look.LoadsWrite)

-- the popping party once it began a pop
abbrev pub popper : Side
popper = Popper (popping.Pops pop.LoadsRead)

-- the popping party once it began a look at emptiness
abbrev pub empty_looker : Side
empty_looker = Popper (popping.Looks empty_look.LoadsRead)
