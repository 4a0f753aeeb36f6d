-- The words have the queue before each call.
use Rattle.iox_queue_calls.specs.Lists.{HoldsQueue}
use Rattle.iox_rows_steps.proofs.queue_calls.goes.Given as goal

abbrev pub invariant-loop-row : goal.invariant-loop-row
invariant-loop-row g l = HoldsQueue l.fn.site l.words.items
