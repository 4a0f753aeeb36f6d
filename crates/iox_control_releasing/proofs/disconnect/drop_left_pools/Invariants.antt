use Rattle.std.proofs.Common.{◌≡◌, length}
use Rattle.iox_control.specs.Controls.{IsControl}
use Rattle.iox_control_releasing.proofs.Sweeping.{Sweeps}
use Rattle.iox_control_releasing.proofs.disconnect.drop_left_pools.Given as goal

abbrev pub invariant-loop-place : goal.invariant-loop-place
invariant-loop-place l = record {
  sweeps : Sweeps l.initial.control l.control l.place;
  order : IsControl l.control;
  size : length l.control.tables.pools ≡ l.place-end;
}
