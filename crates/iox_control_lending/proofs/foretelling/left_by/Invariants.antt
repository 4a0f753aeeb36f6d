use Rattle.std.proofs.Common.{◌≡◌, ◌≤◌, ◌-◌}
use Rattle.iox_tables.specs.HubBooks.Counts.{total}
use Rattle.iox_control_retrieving.proofs.Lanes.{first_lanes, width}
use Rattle.iox_control_lending.proofs.Foretold.{given_on}
use Rattle.iox_control_lending.proofs.foretelling.left_by.Given as goal

-- what was given back on the first lanes is taken away
abbrev pub invariant-loop-lane : goal.invariant-loop-lane
invariant-loop-lane l = record {
  left : l.left ≡ l.holders - total (given_on l.control l.sender l.slot) (first_lanes l.sender.number l.to.number l.lane);
  within : l.lane ≤ l.lane-end;
  size : l.lane-end ≡ width l.control.tables.ports l.to;
}
