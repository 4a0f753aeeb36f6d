use Rattle.std.proofs.Common.{◌<◌, length}
use Rattle.iox_run.proofs.RunReads.{Running}
use Rattle.iox_run.proofs.run.run.Given as goal

abbrev pub invariant-reads : goal.invariant-reads
invariant-reads g l = (0 < length l.chunk) × Running (g.R.Read.remaining l.fn.reader) (g.R.Read.remaining l.reader) (g.W.Write.contents l.fn.writer) (g.W.Write.contents l.writer) l.room l.player

abbrev pub decreases-reads : goal.decreases-reads
decreases-reads g l = l.room
