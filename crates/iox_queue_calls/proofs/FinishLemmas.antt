-- How far a call that is played alone has come.
use Rattle.std.proofs.Common.{◌≡◌, ℕ, zero, suc, ◌+◌, ◌≤◌, List, length, get_or, sym, arith}
use Rattle.iox_steps.specs.declared.access.Access.{Access}
use Rattle.iox_steps.specs.declared.access.Progress.{Progress}
use Rattle.iox_steps.specs.declared.access.Progress.TheVariants.{Going, Done}
use Rattle.iox_steps.specs.declared.site.Site.{Site}
use Rattle.iox_steps.specs.declared.side.QueueReply.{QueueReply}
use Rattle.iox_steps.specs.Accesses.{IsWithin, seen_by, words_after}
use Rattle.iox_steps.specs.Sites.{size}
use Rattle.iox_steps.proofs.AccessLemmas.{within_wider}
use Rattle.iox_queue_steps.specs.declared.queue.Side.{Side}
use Rattle.iox_queue_steps.specs.Queues.{side_access, side_after, side_progress}
use Rattle.iox_queue_calls.specs.Alone.{EndsAfter}

module _ (site : Site) (total : ℕ) where
  -- after so many accesses of a call of `total`, it ends after the rest
  abbrev pub IsLeft : ℕ → List ℕ → Side → QueueReply → List ℕ → Type 0
  IsLeft made words side reply after = (more : ℕ) × ((total ≡ made + more) × EndsAfter more site words side reply after)

  pub none_made : (words : List ℕ) (side : Side) (reply : QueueReply) (after : List ℕ) → EndsAfter total site words side reply after
      → IsLeft 0 words side reply after
  none_made words side reply after ends = (total, (omega arith, ends))

  within_by : (more : ℕ) (words : List ℕ) (side : Side) (reply : QueueReply) (after : List ℕ) → EndsAfter more site words side reply after
      → IsWithin site.base (size site) (side_access site side)
  within_by zero words side reply after ends = absurd ends
  within_by (suc more) words side reply after ends = ends.0

  pub is_within : (made : ℕ) (words : List ℕ) (side : Side) (reply : QueueReply) (after : List ℕ) (access : Access)
      → site.base + size site ≤ length words → access ≡ side_access site side
      → IsLeft made words side reply after → IsWithin 0 (length words) access
  is_within made words side reply after access room asked left =
      rw asked (within_wider (side_access site side) site.base (size site) 0 (length words) (omega arith) (omega arith)
      (within_by left.0 words side reply after left.1.1))

  made_all : (made more : ℕ) (words : List ℕ) (side : Side) (reply : QueueReply) (after : List ℕ) → total ≡ made + more → total ≤ made
      → EndsAfter more site words side reply after → ⊥
  made_all made zero words side reply after counts few ends = ends
  made_all made (suc more) words side reply after counts few ends = omega arith

  pub all_made : (made : ℕ) (words : List ℕ) (side : Side) (reply : QueueReply) (after : List ℕ) → total ≤ made → IsLeft made words side reply after → ⊥
  all_made made words side reply after few left = made_all made left.0 words side reply after left.1.0 few left.1.1

  -- one access
  module _ (made : ℕ) (words words' : List ℕ) (side side' : Side) (reply : QueueReply) (after : List ℕ) (access : Access) (seen : ℕ)
      (answer : Progress QueueReply)
      (asked : access ≡ side_access site side) (found : seen ≡ seen_by access (λ place. get_or words place 0))
      (become : words' ≡ words_after access words)
      (led : side' ≡ side_after site side seen) (said : answer ≡ side_progress site side seen) where
    goes_by : (more : ℕ) → side_progress site side (seen_by (side_access site side) (λ place. get_or words place 0)) ≡ Going → total ≡ made + more
        → EndsAfter more site words side reply after
        → IsLeft (made + 1) (words_after (side_access site side) words)
        (side_after site side (seen_by (side_access site side) (λ place. get_or words place 0))) reply after
    goes_by zero going counts ends = absurd ends
    goes_by (suc more) going counts ends = (more, (omega arith, rw going at ends.1))

    pub one_more_made : answer ≡ Going → IsLeft made words side reply after → IsLeft (made + 1) words' side' reply after
    one_more_made going left =
        let goes : side_progress site side (seen_by (side_access site side) (λ place. get_or words place 0)) ≡ Going = rw (said, found, asked) at going in
        rw (become, led, found, asked) (goes_by left.0 goes left.1.0 left.1.1)

    ends_by : (more : ℕ) (reply' : QueueReply) → side_progress site side (seen_by (side_access site side) (λ place. get_or words place 0)) ≡ Done reply'
        → EndsAfter more site words side reply after
        → (reply' ≡ reply) × (words_after (side_access site side) words ≡ after)
    ends_by zero reply' done ends = absurd ends
    ends_by (suc more) reply' done ends = let is = rw done at ends.1 in (sym is.1, sym is.2)

    pub last_made : (reply' : QueueReply) → answer ≡ Done reply' → IsLeft made words side reply after → (reply' ≡ reply) × (words' ≡ after)
    last_made reply' done left =
        let ends : side_progress site side (seen_by (side_access site side) (λ place. get_or words place 0)) ≡ Done reply' =
        rw (said, found, asked) at done in
        rw (become, asked) (ends_by left.0 reply' ends left.1.1)
