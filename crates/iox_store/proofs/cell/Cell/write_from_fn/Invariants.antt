use Rattle.std.proofs.Common.{◌≡◌, List, flat_map, length}
use Rattle.iox_store.specs.Answering.{GivesInTurn}
use Rattle.iox_store.proofs.cell.Cell.write_from_fn.Given as goal

-- for so many indices the closure is asked
abbrev pub invariant-loop-index : goal.invariant-loop-index
invariant-loop-index g l = record {
  callable : goal.F-IsAlwaysCallable g l.f;
  values : List g.row.E.Denot;
  answered : GivesInTurn (goal.F-step g) l.fn.f 0 values l.f;
  count : length values ≡ l.index;
  left : l.self ≡ record (l.fn.self) {
    filled = l.index;
    payload = flat_map g.E.Words.words values;
  };
}
