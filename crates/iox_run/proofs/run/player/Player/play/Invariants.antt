use Rattle.std.proofs.Common.{length}
use Rattle.iox_run.proofs.RunPlaying.{Playing}
use Rattle.iox_run.proofs.run.player.Player.play.Given as goal

abbrev pub invariant-pieces : goal.invariant-pieces
invariant-pieces g l = Playing (g.W.Write.contents l.fn.writer) (g.W.Write.contents l.writer) l.bytes l.rest l.fn.self l.self

abbrev pub decreases-pieces : goal.decreases-pieces
decreases-pieces g l = length l.rest
