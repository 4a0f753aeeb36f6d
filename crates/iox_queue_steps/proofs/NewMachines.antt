-- Two parties at rest at an empty queue are the parties of a queue that was played on.
use Rattle.std.proofs.Common.{◌≡◌, ℕ, ◌+◌, ◌^◌, ◌<◌, ◌≤◌, List, [], length, slice_index, refl}
use Rattle.iox_steps.specs.declared.site.QueueKind.TheVariants.{Overflowing}
use Rattle.iox_steps.specs.declared.site.Site.{Site}
use Rattle.iox_steps.specs.Sites.{size}
use Rattle.iox_steps.proofs.AfterCalls.{played_empty}
use Rattle.iox_queue_steps.specs.Queues.{PartyView, PartiesAfterCalls, at_rest_at}

pub new_parties_played : (site : Site) (words : List ℕ) (parties : List PartyView) → parties ≡ at_rest_at site → (site.kind ≡ Overflowing → 0 < site.capacity)
    → site.base + size site ≤ length words
    → slice_index words site.base ≡ slice_index words (site.base + 1) → slice_index words site.base < 2 ^ 64 → PartiesAfterCalls words parties []
new_parties_played site words parties rest some room empty position = rw rest (refl, played_empty site words some room empty position)
