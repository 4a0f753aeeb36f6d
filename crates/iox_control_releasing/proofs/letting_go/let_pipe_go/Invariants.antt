use Rattle.std.proofs.Common.{◌≡◌, length}
use Rattle.iox_tables.specs.HubBooks.Counts.{in_pipe, lane_count}
use Rattle.iox_control.specs.Controls.{with_pools}
use Rattle.iox_control_releasing.proofs.Settling.{Settles}
use Rattle.iox_control_releasing.proofs.letting_go.let_pipe_go.Given as goal

-- those on the lanes that are out are let go, and the others are left
abbrev pub invariant-loop-lane : goal.invariant-loop-lane
invariant-loop-lane l = record {
  same : l.control ≡ with_pools l.initial.control l.control.tables.pools;
  settles : Settles l.initial.control.tables.pools l.control.tables.pools
      (λ pool k. in_pipe (lane_count pool k) l.initial.pipe) (λ pool k. in_pipe (lane_count pool k) l.pipe);
}

abbrev pub decreases-loop-lane : goal.decreases-loop-lane
decreases-loop-lane l = length l.pipe.lanes
