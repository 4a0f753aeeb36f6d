-- The desk of a port tells how many messages the port keeps, and how many are outstanding.
use Rattle.std.specs.Prelude.{◌≡◌, ℕ}
use Rattle.std.specs.Option.{option_map_or}
use Rattle.iox_model.specs.declared.way.Way.{Way}
use Rattle.iox_wire_seats.specs.Counted.{kept_at, outstanding_at}
use Rattle.iox_wire_needs.specs.Runs.{Run}
use Rattle.iox_wire_nodes.specs.Tables.{Setting}
use Rattle.iox_wire_weaves.specs.Owners.{desk_in}
use Rattle.iox_wire_weaves.specs.PortCounts.{kept_count, outstanding_count}
use Rattle.iox_wire_weaves.specs.Wires.{Shows, WireData}

-- In each run that the wire shows, the port keeps as many messages as its desk has slots that are not
-- free, whether its node lives or is dead. It keeps none where it has no desk.
abbrev pub KeptIsTold : Type 0
KeptIsTold =
    (p : Setting) (wire : WireData) (r : Run) (port : ℕ) → Shows p wire r
    → option_map_or kept_at (desk_in wire port) 0 ≡ kept_count r.last port

-- As many messages are outstanding on a way as the desk of its sender records there.
abbrev pub OutstandingIsTold : Type 0
OutstandingIsTold =
    (p : Setting) (wire : WireData) (r : Run) (y : Way) → Shows p wire r
    → option_map_or (outstanding_at y) (desk_in wire y.sender) 0 ≡ outstanding_count r.last.state y
