-- Code changes a pipe by its rank and a port by its place: these are the first of a number.
use Rattle.std.specs.Prelude.{◌≡◌, ℕ, ◌==◌, List, Some, slice_get, slice_set}
use Rattle.std.specs.List.{position_from}
use Rattle.std.specs.Option.{option_map_or}
use Rattle.iox_lanes.specs.Incomings.{IncomingState, rank_from, with_pipe}
use Rattle.iox_lanes.specs.Pipes.{PipeState}
use Rattle.iox_tables.specs.HubStates.Tables.{PortState, pipe_from, port_in}
use Rattle.iox_tables.specs.HubStates.Ways.{with_pipe_from, with_pipes, with_port}

-- The pipe of the rank of a sender is the first from that sender.
pub record IsRankOf (c : IncomingState) (sender rank : ℕ) : Type 0 where
  pub pipe : slice_get c.pipes rank ≡ pipe_from c.pipes sender
  pub changes :
      (h : PipeState → PipeState)
      → with_pipe h c rank ≡ with_pipes c (with_pipe_from h c.pipes sender)

-- It is so of each rank that is found.
abbrev pub RanksAreOfSenders : Type 0
RanksAreOfSenders =
    (c : IncomingState) (sender rank : ℕ) → rank_from c.pipes sender ≡ Some rank
    → IsRankOf c sender rank

-- The port in the place of a number is the first of that number.
pub record IsPlaceOf (ports : List PortState) (n place : ℕ) : Type 0 where
  pub port : slice_get ports place ≡ port_in ports n
  pub changes :
      (f : PortState → PortState)
      → option_map_or (λ p. slice_set ports place (f p)) (slice_get ports place) ports
      ≡ with_port f ports n

-- It is so of each place that is found.
abbrev pub PlacesAreOfNumbers : Type 0
PlacesAreOfNumbers =
    (ports : List PortState) (n place : ℕ)
    → position_from (λ p. p.number == n) 0 ports ≡ Some place → IsPlaceOf ports n place
