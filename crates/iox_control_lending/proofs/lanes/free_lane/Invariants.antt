use Rattle.std.proofs.Common.{◌≡◌, ◌-◌, find, not}
use Rattle.std.specs.List.{range_with_len}
use Rattle.iox_tables.specs.HubLoans.Counts.{is_lane_taken}
use Rattle.iox_control_lending.proofs.lanes.free_lane.Given as goal

abbrev pub invariant-loop-lane : goal.invariant-loop-lane
invariant-loop-lane l =
    find (λ lane. not (is_lane_taken l.control.tables l.client lane)) (range_with_len 0 l.size)
    ≡ find (λ lane. not (is_lane_taken l.control.tables l.client lane)) (range_with_len l.lane (l.size - l.lane))
