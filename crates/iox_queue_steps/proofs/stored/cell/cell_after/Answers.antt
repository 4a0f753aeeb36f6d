use Rattle.std.proofs.Common.{rules}
use Rattle.iox_queue_steps.proofs.CellLemmas.{cell_after-inside, cell_after-around}
use Rattle.iox_queue_steps.proofs.stored.cell.cell_after.Goals as goal

pub returns-then-cell-last : goal.returns-then-cell-last
returns-then-cell-last c = cell_after-inside c.args.site c.args.last c.args.position c.args.cell c.requires (search rules)

pub returns-else-cell-last : goal.returns-else-cell-last
returns-else-cell-last c = cell_after-around c.args.site c.args.last c.args.position c.args.cell c.requires (search rules)
