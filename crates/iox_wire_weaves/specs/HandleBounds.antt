-- How many handles a node of a wire has at most, and the room that they have.
use Rattle.std.specs.Prelude.{◌≡◌, ◌≤◌, ◌+◌, ◌*◌, ◌==◌, ℕ, None, Some, filter, if◌then◌else◌, length}
use Rattle.std.specs.List.{sum_by}
use Rattle.iox_model.specs.declared.kind.Role.TheVariants.{Client, Server}
use Rattle.iox_model.specs.Settings.{is_client, other_role}
use Rattle.iox_wire_nodes.specs.PlanPort.{PlanPort}
use Rattle.iox_wire_nodes.specs.Plans.{numbers_of, planned_limit}
use Rattle.iox_wire_nodes.specs.Tables.{Setting}
use Rattle.iox_wire_nodes.specs.WirePlan.{WirePlan}
use Rattle.iox_wire_needs.specs.Runs.{Run}
use Rattle.iox_wire_weaves.specs.Wires.{Shows, WireData, WireNode, living_refusal, node_at}

-- how many ways come to a port: to a client from each server on each of its lanes, as many as its pool
-- has slots, and to a server from each client
abbrev pub ways_to : WirePlan → PlanPort → ℕ
ways_to plan q =
    if is_client q.role then length (numbers_of plan Server) * q.pool
    else length (numbers_of plan Client)

-- The most handles of a port: each loan and each open request has a slot of its pool, and it borrows no
-- more messages than it may of each way that comes to it.
abbrev pub most_of_port : WirePlan → PlanPort → ℕ
most_of_port plan q = q.pool + planned_limit plan.limits (other_role q.role) * ways_to plan q

-- the most handles of a node: those of its ports
abbrev pub most_of_node : WirePlan → ℕ → ℕ
most_of_node plan n = sum_by (most_of_port plan) (filter (λ q. q.node == n) plan.ports.items)

-- the room for them: for one more, since a call is told only at its end that it adds none
abbrev pub handle_room : WirePlan → ℕ → ℕ
handle_room plan n = most_of_node plan n + 1

-- A living node has no more handles than its ports may have together, wherever it is in its call.
abbrev pub NodesHaveFewHandles : Type 0
NodesHaveFewHandles =
    (p : Setting) (wire : WireData) (r : Run) (n : ℕ) (x : WireNode) → Shows p wire r
    → living_refusal wire.nodes n ≡ None → node_at n wire.nodes ≡ Some x
    → length x.node.seat.seat.table ≤ most_of_node wire.plan n
