use Rattle.std.proofs.Common.{◌≡◌, take}
use Rattle.std.specs.List.{range_with_len}
use Rattle.iox_wire_locals.specs.WorkedWires.{fresh_desk}
use Rattle.iox_wire_openings.specs.OpenedNodes.{planned_lanes, planned_ways}
use Rattle.iox_wire_openings.proofs.nodes.open_desk.Given as goal

-- the desk with the ways so far
abbrev pub invariant-loop-way : goal.invariant-loop-way
invariant-loop-way l = record {
  desk : l.desk ≡ fresh_desk l.fn.port.number l.fn.port.pool (range_with_len 0 (planned_lanes l.fn.port)) (take l.way-index l.way-items);
  all : l.way-items ≡ planned_ways l.plan l.fn.port;
}
