-- What is let go as pipes are taken out.
use Rattle.std.specs.Prelude.{◌≡◌, ℕ, ◌-◌, List, Option, slice_get, slice_set}
use Rattle.std.specs.Option.{option_map_or}
use Rattle.iox_lanes.specs.Lanes.{LaneState}
use Rattle.iox_tables.specs.HubStates.Tables.{PoolState, PortState, slot_at}
use Rattle.iox_hub_ports.specs.Ports.{gone_from}
use Rattle.iox_tables.specs.HubMaking.OneByOne.{without_first_pipe}
use Rattle.iox_tables.specs.HubBooks.Counts.{in_pipe}
use Rattle.iox_tables.specs.HubBooks.Keeps.{bare_pools}
use Rattle.iox_control.specs.Controls.{ControlState, with_tables}

-- Pools differ only in holders: each slot has so many less, or none where it had no more.
pub record LetsGo (old new : List (Option PoolState)) (fewer : ℕ → ℕ → ℕ) : Type 0 where
  pub same : bare_pools old ≡ bare_pools new
  pub holders :
      (pool k : ℕ) → (slot_at new pool k).holders ≡ (slot_at old pool k).holders - fewer pool k

-- what the lanes of the pipe count that goes with that connected sender to the port
abbrev pub from_in : (LaneState → ℕ) → ℕ → PortState → ℕ
from_in f sender p = option_map_or (in_pipe f) (gone_from p sender) 0

-- the ports, of which the one in that place is cut from that sender
abbrev pub cut_at : ℕ → List PortState → ℕ → List PortState
cut_at sender ports at =
    option_map_or (λ p. slice_set ports at (without_first_pipe sender p)) (slice_get ports at) ports

-- with other ports and pools
abbrev pub with_cut : ControlState → List PortState → List (Option PoolState) → ControlState
with_cut c ports pools =
    with_tables c (record (c.tables) { ports = ports; pools = pools })
