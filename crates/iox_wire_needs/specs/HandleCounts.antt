-- How many handles a node has of a port's own messages, and of those that came on a way.
use Rattle.std.specs.Prelude.{◌≡◌, ◌≤◌, ℕ, ◌&&◌, None, List, length, filter}
use Rattle.iox_model.specs.declared.way.Way.{Way}
use Rattle.iox_model.specs.Handles.{is_received}
use Rattle.iox_model.specs.Joins.{not_living}
use Rattle.iox_model.specs.Maps.{same_way}
use Rattle.iox_model.specs.Peers.{borrow_limit_on}
use Rattle.iox_wire_keeps.specs.Entry.{Entry}
use Rattle.iox_wire_keeps.specs.Runs.{Run}
use Rattle.iox_wire_keeps.specs.Seat.{Seat}
use Rattle.iox_wire_keeps.specs.SlotsKnown.{IsPortOfSeat}
use Rattle.iox_wire_keeps.specs.Stands.{Player, seats_of}
use Rattle.iox_wire_keeps.specs.Tables.{Setting, way_in}
use Rattle.iox_wire_keeps.specs.UsedSlots.{slots_held}
use Rattle.iox_wire_keeps.specs.WireStands.{WireStands}

-- the node's handles whose messages came on the way
abbrev pub received_on : Seat → Way → List Entry
received_on x y = filter (λ e. is_received e.kind && same_way (way_in e) y) x.table

-- A living node's handles of a port's own messages are no more than the pool has slots, since each has
-- a slot of its own. Those of messages that came on a way to one of its ports are no more than it may
-- borrow there. So it is of the node as it is shown, wherever it is in its call.
abbrev pub HandlesAreFew : Type 0
HandlesAreFew =
    (p : Setting) (words : List ℕ) (players : ℕ → Player) (r : Run) (n : ℕ)
    → WireStands p words players r → not_living r.last.state n ≡ None
    → let x = seats_of p players n in
    ((port : ℕ) → IsPortOfSeat p x port → length (slots_held x port) ≤ (p.port port).pool)
    × ((y : Way) → p.layout.owner y.receiver ≡ x.node
    → length (received_on x y) ≤ borrow_limit_on r.last.state.fixed y)
