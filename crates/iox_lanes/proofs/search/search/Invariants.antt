use Rattle.std.proofs.Common.{◌≡◌, length}
use Rattle.iox_lanes.specs.Searches.{first_wanted, is_wanted, searched}
use Rattle.iox_lanes.proofs.search.search.Given as goal

-- what is left to do comes to the same
abbrev pub invariant-loop-place : goal.invariant-loop-place
invariant-loop-place g l =
    let test = is_wanted l.wanted l.states (g.L.Labels.label_of l.labels l.lane.pool) in
    record {
      pool : l.lane.pool ≡ l.initial.lane.pool;
      found : first_wanted test l.initial.lane.waiting ≡ first_wanted test l.lane.waiting;
      left : searched test l.initial.lane ≡ searched test l.lane;
    }

abbrev pub decreases-loop-place : goal.decreases-loop-place
decreases-loop-place g l = length l.lane.waiting
