-- The request states at which a handle looks, and which handles have them.
use Rattle.std.specs.Prelude.{◌≡◌, ◌<◌, ℕ, Bool, true, ◌&&◌, ◌||◌, ◌==◌, List}
use Rattle.iox_model.specs.declared.kind.Kind.{Kind}
use Rattle.iox_model.specs.declared.kind.Kind.TheVariants.{ActiveRequest, PendingResponse}
use Rattle.iox_model.specs.declared.kind.Role.TheVariants.{Client}
use Rattle.iox_model.specs.Handles.{same_kind}
use Rattle.iox_model.specs.Maps.{has_number}
use Rattle.iox_word_map.specs.WordMaps.{IsResponseWay}
use Rattle.iox_wire_ways.specs.PlanPort.{PlanPort}
use Rattle.iox_wire_ways.specs.WirePlan.{WirePlan}
use Rattle.iox_wire_ways.specs.Plans.{sizes_of}
use Rattle.iox_wire_ways.specs.Entry.{Entry}
use Rattle.iox_wire_ways.specs.Tables.{state_in}
use Rattle.iox_wire_ways.specs.Visits.{is_other}

-- whether a port is the client of that number, of none of these nodes
abbrev pub is_client_left : ℕ → List ℕ → PlanPort → Bool
is_client_left client forgot q = is_other Client forgot q && (q.number == client)

-- whether handles of that kind look at request states
abbrev pub has_states : Kind → Bool
has_states k = same_kind k PendingResponse || same_kind k ActiveRequest

-- The handle's request states are the wire's: a pending response has a lane of its client, and an
-- active request the one of its request.
pub record HasStates (plan : WirePlan) (e : Entry) : Type 0 where
  pub pending : same_kind e.kind PendingResponse ≡ true
      → (has_number e.port (sizes_of plan).clients ≡ true)
      × (e.lane < (sizes_of plan).lanes e.port)
  pub request : same_kind e.kind ActiveRequest ≡ true → IsResponseWay (sizes_of plan) (state_in e)
