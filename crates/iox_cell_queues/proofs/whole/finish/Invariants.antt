-- Whatever the call comes to from its beginning, it still comes to from here, with so many accesses fewer.
use Rattle.std.proofs.Common.{◌≡◌, ℕ, ◌+◌, ◌≤◌, List, length}
use Rattle.iox_cell_queues.specs.declared.event.CellReply.{CellReply}
use Rattle.iox_cell_queues.specs.Cells.{size}
use Rattle.iox_cell_queues.specs.Alone.{EndsAfter}
use Rattle.iox_cell_queues.proofs.FinishLemmas.{IsLeft}
use Rattle.iox_cell_queues.proofs.whole.finish.Given as goal

abbrev pub invariant-loop-step : goal.invariant-loop-step
invariant-loop-step g l = (l.party.site ≡ l.fn.party.site) × (l.fn.party.site.base + size l.fn.party.site ≤ length l.words.items)
    × ((total : ℕ) (reply : CellReply g.row.T.Denot) (after : List ℕ) → EndsAfter g.T.Words total l.fn.party.site l.fn.words.items l.fn.party.side reply after → IsLeft g.T.Words l.fn.party.site total l.step l.words.items l.party.side reply after)
