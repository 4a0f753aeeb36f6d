-- Where responses return to a server, on all lanes of a client.
use Rattle.std.specs.Prelude.{ℕ, Bool, false, if◌then◌else◌, List, [], map, slice_get}
use Rattle.std.specs.List.{range_with_len}
use Rattle.std.specs.Option.{option_map_or}
use Rattle.iox_word_map.specs.WordMaps.{ReturningQueue}
use Rattle.iox_wire_ways.specs.PlanPort.{PlanPort}
use Rattle.iox_wire_ways.specs.WirePlan.{WirePlan}
use Rattle.iox_wire_ways.specs.WayIndex.TheVariants.{Responses}
use Rattle.iox_wire_ways.specs.Plans.{layout_of, number_at, way_at}
use Rattle.iox_wire_ways.specs.Programs.{site_of}
use Rattle.iox_wire_ways.specs.Stop.{Stop}
use Rattle.iox_wire_ways.specs.Visits.{pool_of}

-- where the responses of the server at an index return on a lane of the client at another
abbrev pub lane_stop : WirePlan → (server client lane : ℕ) → Stop
lane_stop plan server client lane = record {
  way = way_at plan (Responses client server lane);
  place =
      (site_of (layout_of plan) (ReturningQueue (way_at plan (Responses client server lane)))).base;
}

-- and so on its first lanes, so many
abbrev pub lane_stops : WirePlan → (server client lanes : ℕ) → List Stop
lane_stops plan server client lanes = map (lane_stop plan server client) (range_with_len 0 lanes)

-- on all its lanes
abbrev pub client_stops : WirePlan → (server client : ℕ) → List Stop
client_stops plan server client = lane_stops plan server client (pool_of plan (number_at plan client))

-- the stops that are made for the port at an index, if it is one of these
abbrev pub stops_at : WirePlan → (PlanPort → Bool) → (ℕ → List Stop) → ℕ → List Stop
stops_at plan visits make i =
    if option_map_or visits (slice_get plan.ports.items i) false then make i else []
