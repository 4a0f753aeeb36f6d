use Rattle.std.proofs.Common.{◌≡◌}
use Rattle.iox_store.specs.Stored.{copies, emptied}
use Rattle.iox_store.proofs.cell.Cell.fill.Given as goal

-- so many copies are filled
abbrev pub invariant-loop : goal.invariant-loop
invariant-loop g l =
    l.self ≡ record (emptied l.fn.self) {
      filled = l.counter;
      payload = copies (g.E.Words.words l.value) l.counter;
    }
