use Rattle.std.proofs.Common.{◌≡◌, ◌≤◌, ◌==◌, filter, length, take}
use Rattle.iox_lanes.proofs.lane.Lane.returned_times.Given as goal

-- those of the first so many are counted
abbrev pub invariant-loop-rank : goal.invariant-loop-rank
invariant-loop-rank l = record {
  counted : l.times ≡ length (filter (λ n. n == l.place) (take l.rank l.self.returned));
  below : l.times ≤ l.rank;
}
