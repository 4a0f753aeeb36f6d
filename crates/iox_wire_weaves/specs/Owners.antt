-- The node that has a port, whether it lives or is dead, and what its desk tells.
use Rattle.std.specs.Prelude.{ℕ, List, Option, None}
use Rattle.std.specs.Option.{option_map_or}
use Rattle.iox_wire_locals.specs.declared.table.Desk.{Desk}
use Rattle.iox_wire_nodes.specs.WirePlan.{WirePlan}
use Rattle.iox_wire_seats.specs.Counted.{desk_of, serial_at}
use Rattle.iox_word_places.specs.Plans.{port_of}
use Rattle.iox_wire_weaves.specs.Wires.{WireData, WireNode, node_at}

-- the one of these nodes that the plan gives the port
abbrev pub owner_of : WirePlan → List WireNode → ℕ → Option WireNode
owner_of plan nodes port = option_map_or (λ q. node_at q.node nodes) (port_of plan port) None

-- the desk of the port there
abbrev pub desk_at : WirePlan → List WireNode → ℕ → Option Desk
desk_at plan nodes port =
    option_map_or (λ x. desk_of port x.node.seat.seat.desks) (owner_of plan nodes port) None

-- the serial that this desk records of a slot
abbrev pub serial_of : WirePlan → List WireNode → (port slot : ℕ) → ℕ
serial_of plan nodes port slot = option_map_or (serial_at slot) (desk_at plan nodes port) 0

-- the node of a wire that the plan gives the port, and its desk
abbrev pub owner_in : WireData → ℕ → Option WireNode
owner_in wire port = owner_of wire.plan wire.nodes port

-- the desk of the port, of the node of a wire that the plan gives it
abbrev pub desk_in : WireData → ℕ → Option Desk
desk_in wire port = desk_at wire.plan wire.nodes port
