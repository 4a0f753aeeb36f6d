-- What the send of a request leaves, and what it answers.
use Rattle.std.specs.Prelude.{ℕ, Bool, not, ◌&&◌, List, [], length}
use Rattle.std.specs.List.{list_any}
use Rattle.iox_model.specs.declared.way.Way.{Way}
use Rattle.iox_tables.specs.HubStates.Tables.{HandleState, HubTables, PortState}
use Rattle.iox_tables.specs.HubStates.Changes.{emptied_lane, with_lanes}
use Rattle.iox_tables.specs.HubStates.Ends.{with_call, with_changed}
use Rattle.iox_tables.specs.HubStates.Releases.{pending_states, request_of}
use Rattle.iox_tables.specs.HubStates.Sendings.{pending_of}
use Rattle.iox_tables.specs.HubStates.Sends.{with_opened}
use Rattle.iox_tables.specs.HubStates.Steps.{full_in}
use Rattle.iox_tables.specs.HubStates.Ways.{lane_on}
use Rattle.iox_tables.specs.HubBooks.Keeps.{delivers}
use Rattle.iox_control_requests.specs.Deliveries.{ways_that_get}
use Rattle.iox_control_requests.specs.Servers.{request_ways}

-- the ways that get the request of that handle
abbrev pub ways_of : HubTables → HandleState → Bool → List Way
ways_of t h overflow = ways_that_get overflow t.ports (request_ways h.port t.ports)

-- The tables once the request of that handle is opened with each server and delivered, its handle is
-- a pending response and the call is counted; but for who has which slot.
abbrev pub with_request_sent : HubTables → HandleState → Bool → HubTables
with_request_sent t h overflow =
    with_call
    (with_changed
    (with_lanes (delivers overflow h.slot) (with_opened t (request_of t h) (pending_states t h))
    (ways_of t h overflow))
    (pending_of h (length (ways_of t h overflow))))

-- the tables once the client of that handle got back all that servers gave back
abbrev pub with_requests_back : HubTables → HandleState → HubTables
with_requests_back t h = with_lanes emptied_lane t (request_ways h.port t.ports)

-- without overflow, a server is full at which the send fails
abbrev pub is_failing : (Way → Bool) → Bool → List PortState → ℕ → Bool
is_failing fails overflow ports client =
    not overflow && list_any fails (full_in (lane_on ports) (request_ways client ports) [])
