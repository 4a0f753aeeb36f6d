use Rattle.std.proofs.Common.{◌≡◌, replicate}
use Rattle.iox_lanes.specs.Lanes.{empty_lane}
use Rattle.iox_lanes.proofs.pipe.new_lanes.Given as goal

-- so many lanes are made
abbrev pub invariant-loop : goal.invariant-loop
invariant-loop l = l.lanes.items ≡ replicate l.counter (empty_lane l.pool l.buffer l.limit)
