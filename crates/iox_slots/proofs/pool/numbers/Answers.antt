use Rattle.std.proofs.Common.{◌+◌, arith, subst, sym}
use Rattle.iox_slots.specs.FreeLists.{AreNumbersBelow}
use Rattle.iox_slots.proofs.FreeListLemmas.{one_more_number}
use Rattle.iox_slots.proofs.pool.numbers.Goals as goal

pub loop-k-preserved : goal.loop-k-preserved
loop-k-preserved c = (
  subst (AreNumbersBelow (c.loop-k.k + 1)) (sym c.push_reserved.ensures.items) (one_more_number c.loop-k.k c.loop-k.numbers.items c.loop-k.invariant.0),
  omega (arith, c.loop-k.invariant.1, c.push_reserved.ensures.capacity),
)
