use Rattle.std.proofs.Common.{arith}
use Rattle.iox_sets.proofs.RangeLemmas.{range_with_len-push}
use Rattle.std.proofs.lemmas.Grind.{common_steps}
use Rattle.iox_sets.proofs.mpmc.unique_index_set.indices.Goals as goal

pub loop-index-preserved : goal.loop-index-preserved
loop-index-preserved c = grind (arith, common_steps, range_with_len-push)
