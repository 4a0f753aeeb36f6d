-- What changes in a stretch elsewhere leaves a queue as it is.
use Rattle.std.proofs.Common.{◌≡◌, ℕ, ◌+◌, ◌<◌, ◌≤◌, ◌⊎◌, inl, inr, [], length, get_or, sym, ap, subst, arith, Option}
use Rattle.iox_queues.specs.BoundedQueues.{BoundedQueue}
use Rattle.iox_steps.specs.declared.site.QueueKind.{QueueKind}
use Rattle.iox_steps.specs.declared.side.QueueReply.{QueueReply}
use Rattle.iox_steps.specs.declared.side.Pushing.TheVariants as pushing
use Rattle.iox_steps.specs.declared.side.Popping.TheVariants as popping
use Rattle.iox_steps.specs.Accesses.{AreApart, IsPlace}
use Rattle.iox_steps.specs.Sites.{size}
use Rattle.iox_steps.specs.EventLists.{QueueState}
use Rattle.iox_steps.proofs.Frames.{apart_sym, fits_apart}
use Rattle.iox_queue_calls.specs.Lists.{values, state_at}
use Rattle.iox_queue_calls.specs.Calls.{Pushes, Pops}
use Rattle.iox_queue_calls.specs.Apart.{StretchLeavesQueues}
use Rattle.iox_queue_calls.proofs.ValueLemmas.{waiting_is_values}
use Rattle.iox_queue_calls.proofs.AloneLemmas.{ShowsAtRest}
use Rattle.iox_queue_calls.proofs.PushChains.{queue}

-- a place of a queue is outside a stretch that stands apart
outside_of : (base extent base' size' at : ℕ) → AreApart base extent base' size' → IsPlace base' size' at
    → (at < base) ⊎ (base + extent ≤ at)
outside_of base extent base' size' at (inl before) place = inr (omega (arith, place.0))
outside_of base extent base' size' at (inr behind) place = inl (omega (arith, place.1))

pub stretch_leaves_queues : StretchLeavesQueues
stretch_leaves_queues base extent site words after apart keeps held =
    let other = apart_sym base extent site.base (size site) apart in
    let fits = fits_apart site (λ place. get_or words place 0) (λ place. get_or after place 0) (values site words) [] pushing.AtRest popping.AtRest
    base extent keeps.1 other held.1.1 in
    let room : site.base + size site ≤ length after = rw keeps.0 held.0 in
    let write = keeps.1 site.base (outside_of base extent site.base (size site) site.base apart (omega arith, omega arith)) in
    let shows : ShowsAtRest site after (state_at site words) = (write, fits) in
    let leaves = waiting_is_values site after (state_at site words) shows in (
      (room, subst (λ (l : QueueState). ShowsAtRest site after l) leaves shows),
      ap (λ (l : QueueState). queue site l.write l.waiting) (sym leaves),
    )

-- a queue that stays as a push left it
pub pushes_still : (kind : QueueKind) (old mid new : BoundedQueue) (value : ℕ) (reply : QueueReply) → new ≡ mid
    → Pushes kind old value reply mid → Pushes kind old value reply new
pushes_still kind old mid new value reply stays pushes = subst (λ (q : BoundedQueue). Pushes kind old value reply q) (sym stays) pushes

-- a queue that was the same before a pop
pub pops_still : (old mid new : BoundedQueue) (out : Option ℕ) → mid ≡ old → Pops mid out new → Pops old out new
pops_still old mid new out stays pops = subst (λ (q : BoundedQueue). Pops q out new) stays pops
