use Rattle.std.proofs.Common.{rules}
use Rattle.iox_queue_steps.proofs.CellLemmas.{cell_ahead-inside, cell_ahead-around}
use Rattle.iox_queue_steps.proofs.stored.cell.cell_ahead.Goals as goal

pub returns-then-ahead-behind : goal.returns-then-ahead-behind
returns-then-ahead-behind c = cell_ahead-inside c.args.site c.args.cursor c.args.ahead c.requires.knows c.requires.some c.requires.round (search rules)

pub returns-else-ahead-behind : goal.returns-else-ahead-behind
returns-else-ahead-behind c = cell_ahead-around c.args.site c.args.cursor c.args.ahead c.requires.knows c.requires.some c.requires.round (search rules)
