-- Whatever the call comes to from its beginning, it still comes to from here, with so many accesses fewer.
use Rattle.std.proofs.Common.{ℕ, ◌+◌, ◌≤◌, List, length}
use Rattle.iox_steps.specs.declared.side.QueueReply.{QueueReply}
use Rattle.iox_steps.specs.Sites.{size}
use Rattle.iox_queue_calls.specs.Alone.{EndsAfter}
use Rattle.iox_queue_calls.proofs.FinishLemmas.{IsLeft}
use Rattle.iox_queue_calls.proofs.whole.finish.Given as goal

abbrev pub invariant-loop-step : goal.invariant-loop-step
invariant-loop-step l = (l.fn.site.base + size l.fn.site ≤ length l.words.items)
    × ((total : ℕ) (reply : QueueReply)
    (after : List ℕ) → EndsAfter total l.fn.site l.fn.words.items l.fn.side reply after → IsLeft l.fn.site total l.step l.words.items l.party reply after)
