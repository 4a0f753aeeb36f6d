use Rattle.std.proofs.Common.{◌≡◌, ◌++◌, take}
use Rattle.std.specs.Prelude.{flat_map}
use Rattle.iox_wire_openings.specs.OpenedNodes.{ways_to}
use Rattle.iox_wire_openings.proofs.ways.list_into.Given as goal

-- the ways of the ports so far
abbrev pub invariant-loop-sender : goal.invariant-loop-sender
invariant-loop-sender l = record {
  ways : l.ways.items ≡ l.fn.ways.items ++ flat_map (ways_to l.plan l.node) (take l.sender-index l.plan.ports.items);
}
