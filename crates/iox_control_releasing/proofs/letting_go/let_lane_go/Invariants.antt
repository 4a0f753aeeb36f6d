use Rattle.std.proofs.Common.{◌≡◌, length}
use Rattle.iox_lanes.specs.Lanes.{places}
use Rattle.iox_tables.specs.HubBooks.Counts.{lane_count}
use Rattle.iox_control.specs.Controls.{with_pools}
use Rattle.iox_control_releasing.proofs.Settling.{Settles}
use Rattle.iox_control_releasing.proofs.letting_go.let_lane_go.Given as goal

-- those that are off the lane are let go, and the others are left
abbrev pub invariant-loop-slot : goal.invariant-loop-slot
invariant-loop-slot l = record {
  pool : l.lane.pool ≡ l.pool;
  same : l.control ≡ with_pools l.initial.control l.control.tables.pools;
  settles : Settles l.initial.control.tables.pools l.control.tables.pools
      (λ pool k. lane_count pool k l.initial.lane) (λ pool k. lane_count pool k l.lane);
}

abbrev pub decreases-loop-slot : goal.decreases-loop-slot
decreases-loop-slot l = length (places l.lane)
