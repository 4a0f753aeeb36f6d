-- What a close that writes nothing leaves as it is.
use Rattle.std.specs.Prelude.{◌≡◌, ℕ, Bool, false, if◌then◌else◌, Option, Some, None, slice_get, slice_set, refl}
use Rattle.std.specs.Option.{option_map_or}
use Rattle.std.proofs.Common.{sym, ap, ◌∙◌}
use Rattle.iox_model.specs.declared.way.RequestState.{RequestState}
use Rattle.iox_model.specs.declared.way.RequestState.TheVariants.{Closed}
use Rattle.iox_model.specs.Messages.{closed_for, names}
use Rattle.iox_lanes.specs.Pipes.{PipeState, closed}
use Rattle.iox_lanes.specs.Searches.{state_on}
use Rattle.iox_hub_ports.proofs.HubStates.Pipes.{set_same}

-- a state that does not name the request stays as that is closed
unnamed : (r : RequestState) (id : ℕ) → names r id ≡ false → closed_for r id ≡ r
unnamed r id e = ap (λ (b : Bool). if b then Closed else r) e

-- so does the pipe
pub stays_closed : (p : PipeState) (lane id : ℕ) → names (state_on p.states lane) id ≡ false → p ≡ closed p lane id
stays_closed p lane id e = step (slice_get p.states lane) refl e
  where
    step : (o : Option RequestState) → slice_get p.states lane ≡ o → names (option_map_or (λ r. r) o Closed) id ≡ false
        → p ≡ option_map_or (λ r. record p { states = slice_set p.states lane (closed_for r id) }) o p
    step None is other = refl
    step (Some r) is other =
        ap (λ rs. record p { states = rs })
        (sym (ap (slice_set p.states lane) (unnamed r id other) ∙ set_same p.states lane r is))
