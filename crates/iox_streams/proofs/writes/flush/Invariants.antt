use Rattle.std.specs.Io.KnownBytes.{Keeps}
use Rattle.iox_streams.proofs.writes.flush.Given as goal

abbrev pub invariant-flushes : goal.invariant-flushes
invariant-flushes g l = Keeps (g.W.Write.contents l.fn.writer) (g.W.Write.contents l.writer)
