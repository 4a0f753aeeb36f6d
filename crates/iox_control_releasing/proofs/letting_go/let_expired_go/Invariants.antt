use Rattle.std.proofs.Common.{◌≡◌, length}
use Rattle.iox_tables.specs.HubBooks.Counts.{in_pipe, lane_count, total}
use Rattle.iox_control.specs.Controls.{with_pools}
use Rattle.iox_control_releasing.proofs.Settling.{Settles}
use Rattle.iox_control_releasing.proofs.letting_go.let_expired_go.Given as goal

-- those on the pipes that are out are let go, and the others are left
abbrev pub invariant-loop-pipe : goal.invariant-loop-pipe
invariant-loop-pipe l = record {
  same : l.control ≡ with_pools l.initial.control l.control.tables.pools;
  settles : Settles l.initial.control.tables.pools l.control.tables.pools
      (λ pool k. total (in_pipe (lane_count pool k)) l.initial.expired.pipes) (λ pool k. total (in_pipe (lane_count pool k)) l.expired.pipes);
}

abbrev pub decreases-loop-pipe : goal.decreases-loop-pipe
decreases-loop-pipe l = length l.expired.pipes
