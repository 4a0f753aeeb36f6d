-- The servers of a hub, by their places, and the ways of requests to them.
use Rattle.std.specs.Prelude.{ℕ, Bool, true, ◌&&◌, if◌then◌else◌, List, map, Option, Some, None, slice_get}
use Rattle.std.specs.Option.{option_map_or}
use Rattle.iox_model.specs.declared.kind.Role.TheVariants.{Server}
use Rattle.iox_model.specs.declared.way.Way.{Way}
use Rattle.iox_model.specs.Messages.{request_way}
use Rattle.iox_model.specs.Settings.{same_role}
use Rattle.iox_lanes.specs.Lanes.{is_full}
use Rattle.iox_tables.specs.HubStates.Tables.{PortState}
use Rattle.iox_tables.specs.HubStates.Wirings.{numbers_of_role}
use Rattle.iox_hub_ports.specs.Ports.{on_way}

-- the number of the port in that place, if it is a server
abbrev pub server_in : List PortState → ℕ → Option ℕ
server_in ports place =
    option_map_or (λ p. if same_role p.role Server then Some p.number else None)
    (slice_get ports place) None

-- the ways of a client's requests, to all servers in the order of their places
abbrev pub request_ways : ℕ → List PortState → List Way
request_ways client ports = map (request_way client) (numbers_of_role Server ports)

-- as many wait on the way as may, or it has no lane
abbrev pub is_full_on : List PortState → Way → Bool
is_full_on ports w = on_way is_full true ports w

-- the way is full, and then a send fails
abbrev pub fails_on : (Way → Bool) → List PortState → Way → Bool
fails_on fails ports w = is_full_on ports w && fails w
