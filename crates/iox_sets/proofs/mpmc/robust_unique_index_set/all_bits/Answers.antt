use Rattle.std.proofs.Common.{arith}
use Rattle.iox_sets.proofs.OwnedLemmas.{all_set}
use Rattle.iox_sets.proofs.mpmc.robust_unique_index_set.all_bits.Goals as goal

pub returns : goal.returns
returns c = all_set c.loop-id.bits c.args.count c.loop-id.invariant.size (λ id below. c.loop-id.invariant.set id (omega arith))
