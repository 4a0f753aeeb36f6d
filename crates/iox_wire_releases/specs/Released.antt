-- Which handles a node can release: those whose ports and lanes are the wire's.
use Rattle.std.specs.Prelude.{◌≡◌, ◌<◌, ℕ, true, false, List, IfSome}
use Rattle.iox_model.specs.declared.kind.Kind.TheVariants.{ActiveRequest, PendingResponse, Response}
use Rattle.iox_model.specs.Handles.{is_received, same_kind}
use Rattle.iox_model.specs.Maps.{has_number}
use Rattle.iox_word_map.specs.WordMaps.{IsResponseWay}
use Rattle.iox_word_places.specs.declared.plan.WirePlan.{WirePlan}
use Rattle.iox_word_places.specs.Plans.{sizes_of}
use Rattle.iox_wire_locals.specs.declared.seat.Seat.{Seat}
use Rattle.iox_wire_locals.specs.declared.table.Desk.{Desk}
use Rattle.iox_wire_locals.specs.declared.table.Entry.{Entry}
use Rattle.iox_wire_locals.specs.Tables.{entry_at, state_in, way_in}
use Rattle.iox_wire_seats.specs.Desks.{MayGiveUp}

-- The ports of a handle are the wire's. A response came on one of its ways, the request state of an
-- active request stands there, and a pending response has a lane of its client. What is a port's
-- own is in use at its desk.
pub record MayRelease (plan : WirePlan) (e : Entry) (desks : List Desk) : Type 0 where
  pub response : same_kind e.kind Response ≡ true → IsResponseWay (sizes_of plan) (way_in e)
  pub request : same_kind e.kind ActiveRequest ≡ true → IsResponseWay (sizes_of plan) (state_in e)
  pub pending : same_kind e.kind PendingResponse ≡ true
      → (has_number e.port (sizes_of plan).clients ≡ true)
      × (e.lane < (sizes_of plan).lanes e.port)
  pub own : is_received e.kind ≡ false → MayGiveUp e desks

-- so it is of the handle of that number, if there is one
abbrev pub MayReleaseNumber : WirePlan → ℕ → Seat → Type 0
MayReleaseNumber plan number x = IfSome (entry_at number x.table) (λ e. MayRelease plan e x.desks)
