-- A step on a lane of the port in a place is the step on the way to the port that is there.
use Rattle.std.specs.Prelude.{◌≡◌, ℕ, List, [], Option, Some, None, slice_get, slice_set, refl}
use Rattle.std.specs.Option.{option_map_or}
use Rattle.std.proofs.Common.{sym, ap, ◌∙◌}
use Rattle.iox_model.specs.Maps.{AreDistinct}
use Rattle.iox_tables.specs.Lanes.{LaneState}
use Rattle.iox_tables.specs.Pipes.{on_lane, with_lane}
use Rattle.iox_tables.specs.HubStates.Tables.{PortState, numbers_of, pipe_from, pipes_of}
use Rattle.iox_tables.specs.HubStates.Ways.{lanes_from, with_lane_on, with_pipe_of}
use Rattle.iox_hub_ports.specs.InPlace.{in_place, on_pipe_from, with_place}
use Rattle.iox_hub_ports.specs.Ports.{on_way, on_way_at, way_from, with_lane_at}
use Rattle.iox_hub_ports.proofs.Firsts.{lane_there}
use Rattle.iox_hub_ports.proofs.Seats.{changed_at, first_at}

module _ (ports : List PortState) (i s lane : ℕ) (apart : AreDistinct (numbers_of ports)) where
  pub changes_at : (g : LaneState → LaneState)
      → with_place (λ p. with_pipe_of (λ q. with_lane g q lane) p s) ports i ≡ with_lane_at g ports i s lane
  changes_at g = step (slice_get ports i) refl
    where
      step : (o : Option PortState) → slice_get ports i ≡ o
          → option_map_or (λ p. slice_set ports i (with_pipe_of (λ q. with_lane g q lane) p s)) o ports
          ≡ option_map_or (λ p. with_lane_on g ports (way_from s lane p.number)) o ports
      step (Some p) e = changed_at (λ r. with_pipe_of (λ q. with_lane g q lane) r s) ports i p apart e
      step None e = refl

  pub tells_at : {A : Type 0} (f : LaneState → A) (none : A)
      → in_place (λ p. on_pipe_from (λ q. on_lane f none q lane) none p s) none ports i ≡ on_way_at f none ports i s lane
  tells_at {A} f none = step (slice_get ports i) refl
    where
      step : (o : Option PortState) → slice_get ports i ≡ o
          → option_map_or (λ p. on_pipe_from (λ q. on_lane f none q lane) none p s) o none
          ≡ option_map_or (λ p. on_way f none ports (way_from s lane p.number)) o none
      step (Some p) e =
          lane_there f none lane (pipe_from (pipes_of p) s)
          ∙ ap (λ (o : Option PortState). option_map_or f (slice_get (lanes_from (option_map_or pipes_of o []) s) lane) none) (sym (first_at ports i p apart e))
      step None e = refl
