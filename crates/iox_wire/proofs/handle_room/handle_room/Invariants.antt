use Rattle.std.proofs.Common.{◌≡◌, ◌==◌, if◌then◌else◌, take}
use Rattle.std.specs.List.{sum_by}
use Rattle.iox_types.specs.Layouts.{as_usize}
use Rattle.iox_wire_weaves.specs.HandleBounds.{most_of_port}
use Rattle.iox_wire_weaves.specs.PlanPort.{PlanPort}
use Rattle.iox_wire.proofs.handle_room.handle_room.Given as goal

-- the handles of the node's ports so far
abbrev pub invariant-loop-port : goal.invariant-loop-port
invariant-loop-port l = l.most ≡ as_usize (sum_by (λ (q : PlanPort). if q.node == l.node then most_of_port l.plan q else 0) (take l.port-index l.plan.ports.items))
