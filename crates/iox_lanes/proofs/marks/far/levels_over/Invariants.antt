use Rattle.std.proofs.Common.{◌≡◌, ◌≤◌, ◌-◌, ◌^◌}
use Rattle.iox_lanes.specs.Marks.{first_of}
use Rattle.iox_lanes.proofs.marks.far.levels_over.Given as goal

abbrev pub invariant-loop-bottom : goal.invariant-loop-bottom
invariant-loop-bottom l = record {
  at : l.bottom ≡ first_of l.levels;
  fits : l.bottom ≤ 2 ^ 52;
  levels : l.levels ≤ l.bottom;
}

abbrev pub decreases-loop-bottom : goal.decreases-loop-bottom
decreases-loop-bottom l = l.wide - l.bottom
