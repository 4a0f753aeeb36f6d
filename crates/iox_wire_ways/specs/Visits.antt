-- The ports that a call visits, in the order of a plan, and the ways to them.
use Rattle.std.specs.Prelude.{ℕ, Bool, false, not, ◌&&◌, if◌then◌else◌, List, Option, Some, None, slice_get}
use Rattle.std.specs.Option.{option_map_or}
use Rattle.iox_model.specs.declared.kind.Role.{Role}
use Rattle.iox_model.specs.Maps.{has_number}
use Rattle.iox_model.specs.Settings.{same_role}
use Rattle.iox_word_map.specs.WordMaps.{ReturningQueue}
use Rattle.iox_wire_messages.specs.PlanPort.{PlanPort}
use Rattle.iox_wire_messages.specs.WirePlan.{WirePlan}
use Rattle.iox_wire_messages.specs.WayIndex.TheVariants.{Requests}
use Rattle.iox_wire_messages.specs.Plans.{layout_of, port_of, way_at}
use Rattle.iox_wire_messages.specs.Programs.{site_of}
use Rattle.iox_wire_messages.specs.Stop.{Stop}

-- whether a port is one of that role, of none of these nodes
abbrev pub is_other : Role → List ℕ → PlanPort → Bool
is_other role forgot q = same_role q.role role && not (has_number q.node forgot)

-- what is made for the port at an index, if it is one of these
abbrev pub made_at : (A : Type 0) → WirePlan → (PlanPort → Bool) → (ℕ → A) → ℕ → Option A
made_at A plan visits make index =
    if option_map_or visits (slice_get plan.ports.items index) false then Some (make index) else None

-- how many slots a port has
abbrev pub pool_of : WirePlan → ℕ → ℕ
pool_of plan n = option_map_or (λ q. q.pool) (port_of plan n) 0

-- where the requests of the client at an index return from the server at another
abbrev pub returning_stop : WirePlan → (client server : ℕ) → Stop
returning_stop plan client server = record {
  way = way_at plan (Requests client server);
  place = (site_of (layout_of plan) (ReturningQueue (way_at plan (Requests client server)))).base;
}
