use Rattle.std.proofs.Common.{◌≡◌, length}
use Rattle.iox_control_releasing.proofs.Walks.{Cuts}
use Rattle.iox_control_releasing.proofs.cutting.cut_all.Given as goal

abbrev pub invariant-loop-at : goal.invariant-loop-at
invariant-loop-at l = record {
  cuts : Cuts l.sender l.initial.control l.control l.at;
  size : length l.initial.control.tables.ports ≡ l.at-end;
}
