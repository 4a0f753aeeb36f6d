-- A node of a wire as it opens, by the plan of the wire.
use Rattle.std.specs.Prelude.{ℕ, ◌==◌, if◌then◌else◌, List, [], ◌∷◌, filter, flat_map, map}
use Rattle.std.specs.List.{range_with_len}
use Rattle.iox_model.specs.declared.kind.Role.{Role}
use Rattle.iox_model.specs.declared.kind.Role.TheVariants.{Client, Server}
use Rattle.iox_model.specs.declared.way.Way.{Way}
use Rattle.iox_model.specs.Messages.{request_way, response_way}
use Rattle.iox_model.specs.Settings.{is_client}
use Rattle.iox_word_places.specs.declared.plan.PlanPort.{PlanPort}
use Rattle.iox_word_places.specs.declared.plan.WirePlan.{WirePlan}
use Rattle.iox_wire_locals.specs.declared.seat.Seat.{Seat}
use Rattle.iox_wire_locals.specs.declared.table.Borrowed.{Borrowed}
use Rattle.iox_wire_locals.specs.declared.table.Desk.{Desk}
use Rattle.iox_wire_locals.specs.WorkedWires.{fresh_desk}
use Rattle.iox_wire_seats.specs.Seats.{new_seat}

-- ---- ways

-- the ways of a server's responses to a client, one on each lane
abbrev pub lanes_between : (server client : PlanPort) → List Way
lanes_between server client =
    map (λ lane. response_way client.number lane server.number) (range_with_len 0 client.pool)

-- the ways from a port of the first role to one of the second
abbrev pub ways_by : Role → Role → (sender receiver : PlanPort) → List Way
ways_by Client Server q r = request_way q.number r.number ∷ []
ways_by Server Client q r = lanes_between q r
ways_by a b q r = []

-- the ways from one port to another
abbrev pub ways_between : (sender receiver : PlanPort) → List Way
ways_between q r = ways_by q.role r.role q r

-- the ways on which a port sends
abbrev pub planned_ways : WirePlan → PlanPort → List Way
planned_ways plan q = flat_map (ways_between q) plan.ports.items

-- those of them that come to a port of the node
abbrev pub ways_to : WirePlan → ℕ → PlanPort → List Way
ways_to plan node q =
    flat_map (λ r. if r.node == node then ways_between q r else []) plan.ports.items

-- the ways of all ports that come to a port of the node
abbrev pub ways_into : WirePlan → ℕ → List Way
ways_into plan node = flat_map (ways_to plan node) plan.ports.items

-- ---- a node

-- how many lanes a port has
abbrev pub planned_lanes : PlanPort → ℕ
planned_lanes q = if is_client q.role then q.pool else 0

-- the desk of a port that lent nothing
abbrev pub planned_desk : WirePlan → PlanPort → Desk
planned_desk plan q =
    fresh_desk q.number q.pool (range_with_len 0 (planned_lanes q)) (planned_ways plan q)

-- the desks of a node's ports
abbrev pub planned_desks : WirePlan → ℕ → List Desk
planned_desks plan node =
    map (planned_desk plan) (filter (λ q. q.node == node) plan.ports.items)

-- nothing of a way is counted
abbrev pub no_count : Way → Borrowed
no_count y = record { way = y; count = 0 }

-- the node, with a desk for each of its ports and a count for each way that comes to them
abbrev pub planned_seat : WirePlan → ℕ → Seat
planned_seat plan node =
    new_seat node (planned_desks plan node) (map no_count (ways_into plan node))
