use Rattle.std.proofs.Common.{◌≡◌, map, take}
use Rattle.iox_wire_openings.specs.OpenedNodes.{no_count, ways_into}
use Rattle.iox_wire_openings.proofs.nodes.list_counts.Given as goal

-- the counts so far
abbrev pub invariant-loop-way : goal.invariant-loop-way
invariant-loop-way l = record {
  counts : l.counts.items ≡ map no_count (take l.way-index l.way-items);
  all : l.way-items ≡ ways_into l.plan l.node;
}
