-- How many messages a port of the machine keeps, and how many are outstanding from it. So many tells
-- its desk, whether its node lives or is dead.
use Rattle.std.specs.Prelude.{◌≡◌, ℕ, Bool, ◌&&◌, if◌then◌else◌, length, Some}
use Rattle.iox_model.specs.declared.way.Way.{Way}
use Rattle.iox_model.specs.Keeping.{kept_in}
use Rattle.iox_model.specs.Maps.{has_way}
use Rattle.iox_model.specs.Outstandings.{outstanding_on}
use Rattle.iox_model.specs.Peers.{is_connected_port, ways_from}
use Rattle.iox_model.specs.States.{State}
use Rattle.iox_model.specs.Weaves.{World}
use Rattle.iox_wire_locals.specs.declared.table.Desk.{Desk}
use Rattle.iox_wire_nodes.specs.Seat.{Seat}
use Rattle.iox_wire_seats.specs.Counted.{desk_of, kept_at, outstanding_at}

-- how many messages the port keeps; none where there is no such port
abbrev pub kept_count : World → ℕ → ℕ
kept_count w port = if is_connected_port w.state.fixed port then length (kept_in w port) else 0

-- whether the port sends on the way
abbrev pub sends_on : State → ℕ → Way → Bool
sends_on s port y = is_connected_port s.fixed port && has_way y (ways_from s.fixed port)

-- how many messages are outstanding on the way; none where its sender is no port, or does not send there
abbrev pub outstanding_count : State → Way → ℕ
outstanding_count s y = if sends_on s y.sender y then length (outstanding_on s y) else 0

-- The node has a desk for the port, which tells how many messages the port keeps, and how many are
-- outstanding on each of its ways.
pub record TellsCounts (w : World) (port : ℕ) (x : Seat) : Type 0 where
  pub desk : Desk
  pub there : desk_of port x.desks ≡ Some desk
  pub kept : kept_at desk ≡ kept_count w port
  pub outstanding : (y : Way) → y.sender ≡ port → outstanding_at y desk ≡ outstanding_count w.state y
