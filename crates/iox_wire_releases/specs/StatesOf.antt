-- The request states of a client's lane with the servers of a plan.
use Rattle.std.specs.Prelude.{ℕ, Bool, false, not, ◌&&◌, if◌then◌else◌, List, Option, Some, None, slice_get}
use Rattle.std.specs.Option.{option_map_or}
use Rattle.iox_model.specs.declared.kind.Role.TheVariants.{Server}
use Rattle.iox_model.specs.Maps.{has_number}
use Rattle.iox_model.specs.Settings.{same_role}
use Rattle.iox_word_places.specs.declared.plan.PlanPort.{PlanPort}
use Rattle.iox_word_places.specs.declared.plan.WirePlan.{WirePlan}
use Rattle.iox_word_places.specs.declared.way_index.WayIndex.TheVariants.{Responses}
use Rattle.iox_word_places.specs.Plans.{layout_of, way_at}
use Rattle.iox_wire_words.specs.Programs.{state_place}
use Rattle.iox_wire_seats.specs.declared.stops.Stop.{Stop}

-- whether a port is a server of none of these nodes
abbrev pub is_left : List ℕ → PlanPort → Bool
is_left forgot q = same_role q.role Server && not (has_number q.node forgot)

-- where the request state of a client's lane with the server at an index stands
abbrev pub state_stop : WirePlan → (client lane server : ℕ) → Stop
state_stop plan client lane server = record {
  way = way_at plan (Responses client server lane);
  place = state_place (layout_of plan) (way_at plan (Responses client server lane));
}

-- it, if such a server stands at the index
abbrev pub stop_with : WirePlan → List ℕ → (client lane index : ℕ) → Option Stop
stop_with plan forgot client lane index =
    if option_map_or (is_left forgot) (slice_get plan.ports.items index) false
    then Some (state_stop plan client lane index) else None
