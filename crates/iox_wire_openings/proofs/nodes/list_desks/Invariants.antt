use Rattle.std.proofs.Common.{◌≡◌, ◌==◌, map, take}
use Rattle.std.specs.Prelude.{filter}
use Rattle.iox_wire_openings.specs.OpenedNodes.{planned_desk}
use Rattle.iox_wire_openings.proofs.nodes.list_desks.Given as goal

-- the desks so far
abbrev pub invariant-loop-port : goal.invariant-loop-port
invariant-loop-port l = record {
  desks : l.desks.items ≡ map (planned_desk l.plan) (filter (λ q. q.node == l.node) (take l.port-index l.plan.ports.items));
}
