use Rattle.std.proofs.Common.{◌≤◌}
use Rattle.std.specs.Vec.{vec_capacity}
use Rattle.iox_slots.specs.FreeLists.{AreNumbersBelow}
use Rattle.iox_slots.proofs.pool.numbers.Given as goal

-- the numbers below k, with memory for all
abbrev pub invariant-loop-k : goal.invariant-loop-k
invariant-loop-k l = AreNumbersBelow l.k l.numbers.items × (l.fn.count ≤ vec_capacity l.numbers)
