use Rattle.std.proofs.Common.{◌≡◌, ◌++◌, take}
use Rattle.std.specs.Prelude.{flat_map}
use Rattle.iox_wire_openings.specs.OpenedNodes.{ways_between}
use Rattle.iox_wire_openings.proofs.ways.list_from.Given as goal

-- the ways to the ports so far
abbrev pub invariant-loop-receiver : goal.invariant-loop-receiver
invariant-loop-receiver l = record {
  ways : l.ways.items ≡ l.fn.ways.items ++ flat_map (ways_between l.sender) (take l.receiver-index l.plan.ports.items);
}
