use Rattle.std.proofs.Common.{arith}
use Rattle.iox_store.proofs.FillLemmas.{copies-more}
use Rattle.iox_store.proofs.cell.Cell.fill.Goals as goal

pub loop-preserved : goal.loop-preserved
loop-preserved g c = grind (arith, copies-more)
