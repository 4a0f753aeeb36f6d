-- Where a port gets back what was given back, the tables of a hub stay in order.
use Rattle.std.specs.Prelude.{◌≡◌, ℕ, ◌+◌, if◌then◌else◌, ◌==◌, List, Option, Some}
use Rattle.std.specs.List.{list_all}
use Rattle.iox_model.specs.declared.way.Way.{Way}
use Rattle.iox_model.specs.Maps.{AreDistinctWays}
use Rattle.iox_lanes.specs.Lanes.{LaneState}
use Rattle.iox_tables.specs.HubStates.Tables.{HubTables, PoolState, PortState, port_in, slot_at, slots_of}
use Rattle.iox_tables.specs.HubStates.Ways.{lane_on}
use Rattle.iox_tables.specs.HubStates.States.{Given}
use Rattle.iox_tables.specs.HubStates.Changes.{emptied_lane, with_lanes}
use Rattle.iox_tables.specs.HubStates.Shown.{by_lane}
use Rattle.iox_tables.specs.HubBooks.Counts.{how_often, total}
use Rattle.iox_tables.specs.HubBooks.Hubs.{AreInOrder}
use Rattle.iox_tables.specs.HubBooks.Keeps.{bare_pools}
use Rattle.iox_tables.specs.HubLoans.Lenders.{is_pool_dry, ways_by, with_got_back}
use Rattle.iox_tables.specs.HubLending.Keeping.{HaveMessages, has_holder}

-- Pools differ only in holders: each slot has so many less.
pub record HasFewerHolders (old new : List (Option PoolState)) (fewer : ℕ → ℕ → ℕ) : Type 0 where
  pub same : bare_pools old ≡ bare_pools new
  pub holders :
      (pool k : ℕ) → (slot_at old pool k).holders ≡ (slot_at new pool k).holders + fewer pool k

-- how often the message in that slot was given back on the lane
abbrev pub returned_count : ℕ → ℕ → LaneState → ℕ
returned_count pool k l = if l.pool == pool then how_often k l.returned else 0

-- how often it was given back on these ways
abbrev pub returned_on : HubTables → List Way → ℕ → ℕ → ℕ
returned_on t ws pool k = total (by_lane (returned_count pool k) 0 (lane_on t.ports)) ws

-- Lanes of different ways may be emptied: each slot then has one holder less for each time that it
-- was given back there.
abbrev pub EmptyingKeepsOrder : Type 0
EmptyingKeepsOrder =
    (t : HubTables) (ws : List Way) (pools : List (Option PoolState)) → AreInOrder t → AreDistinctWays ws
    → HasFewerHolders t.pools pools (returned_on t ws)
    → AreInOrder (record (with_lanes emptied_lane t ws) { pools = pools })

-- The pools are as they are once the port got back all that was given back.
abbrev pub AreGotBack : HubTables → PortState → List (Option PoolState) → Type 0
AreGotBack t p pools = HasFewerHolders t.pools pools (returned_on t (ways_by p.role t p.number))

-- the tables then
abbrev pub with_back : HubTables → PortState → List (Option PoolState) → HubTables
with_back t p pools = record (with_got_back t p) { pools = pools }

-- A port may get back all that was given back, and is itself as it was.
abbrev pub GettingBackKeepsOrder : Type 0
GettingBackKeepsOrder =
    (t : HubTables) (n : ℕ) (p : PortState) (pools : List (Option PoolState)) → AreInOrder t
    → port_in t.ports n ≡ Some p → AreGotBack t p pools
    → AreInOrder (with_back t p pools) × (port_in (with_got_back t p).ports n ≡ Some p)

-- Its pool is dry exactly where somebody then has each of its slots.
abbrev pub DryPoolsHaveHolders : Type 0
DryPoolsHaveHolders =
    (x : Given) (t : HubTables) (n : ℕ) (p : PortState) (pools : List (Option PoolState))
    → AreInOrder t → HaveMessages t → port_in t.ports n ≡ Some p → AreGotBack t p pools
    → is_pool_dry x t p ≡ list_all has_holder (slots_of pools p.pool)
