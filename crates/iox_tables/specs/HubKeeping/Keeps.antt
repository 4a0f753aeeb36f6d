-- Tables that are in order stay so as ports come and go.
use Rattle.std.specs.Prelude.{◌≡◌, ℕ, ◌+◌, true, [], List, Option}
use Rattle.std.specs.List.{sum_by}
use Rattle.iox_lanes.specs.Incomings.{no_pipes}
use Rattle.iox_tables.specs.HubStates.Tables.{HubSettings, HubTables, PoolState, PortState, slot_at}
use Rattle.iox_tables.specs.HubStates.Releases.{with_value_released}
use Rattle.iox_tables.specs.HubStates.Steps.{is_there}
use Rattle.iox_tables.specs.HubBooks.Counts.{lane_count}
use Rattle.iox_tables.specs.HubBooks.Hubs.{AreInOrder}
use Rattle.iox_tables.specs.HubBooks.Keeps.{bare_pools}
use Rattle.iox_tables.specs.HubMaking.Disconnections.{is_unused, with_disconnected}
use Rattle.iox_tables.specs.HubMaking.FreePools.{IsPut, with_pool_gone}
use Rattle.iox_tables.specs.HubMaking.LaneSums.{sum_that_goes}
use Rattle.iox_tables.specs.HubMaking.NewPorts.{pool_made, room_for_gone, with_port_made}
use Rattle.iox_tables.specs.HubMaking.Starts.{no_ports}
use Rattle.iox_tables.specs.HubKeeping.Connected.{IsFreePlace}
use Rattle.iox_tables.specs.HubLending.Emptying.{HasFewerHolders}

-- The tables with no port are in order, whatever the settings are.
abbrev pub StartsAreInOrder : Type 0
StartsAreInOrder = (settings : HubSettings) → AreInOrder (no_ports settings)

-- The release of a port's own value keeps the tables in order.
abbrev pub ValuesKeepOrder : Type 0
ValuesKeepOrder = (t : HubTables) (n : ℕ) → AreInOrder t → AreInOrder (with_value_released t n)

-- ---- a new port

-- The port may be made: it has the next number, a free place for its pool, and room for what its
-- service keeps of ports that are gone.
pub record MayBeMade (t : HubTables) (new : PortState) : Type 0 where
  pub number : new.number ≡ t.next_number
  pub place : IsFreePlace t new.pool
  pub none : new.expired ≡ no_pipes (room_for_gone t.settings new.role)

-- The making of a port keeps the tables in order, where its pool is put into its place.
abbrev pub MakingsKeepOrder : Type 0
MakingsKeepOrder =
    (t : HubTables) (new : PortState) (pools : List (Option PoolState)) → AreInOrder t
    → MayBeMade t new → IsPut t.pools new.pool (pool_made new) pools
    → AreInOrder (with_port_made t new pools)

-- ---- a port that goes

-- how often the lanes that go with the port have the message in that slot
abbrev pub lost_uses : HubTables → ℕ → ℕ → ℕ → ℕ
lost_uses t n pool k = sum_by (sum_that_goes (lane_count pool k) n) t.ports

-- The disconnection of a port of which nothing is left keeps the tables in order, where each slot
-- loses the lanes that go.
abbrev pub DisconnectionsKeepOrder : Type 0
DisconnectionsKeepOrder =
    (t : HubTables) (n : ℕ) (pools : List (Option PoolState)) → AreInOrder t
    → is_there t.ports n ≡ true → is_unused t n ≡ true
    → HasFewerHolders t.pools pools (lost_uses t n)
    → AreInOrder (record (with_disconnected t n) { pools = pools })

-- A pool that is of no port, and that nobody has messages of, may go: the tables stay in order.
abbrev pub PoolsMayGo : Type 0
PoolsMayGo =
    (t : HubTables) (place : ℕ) → AreInOrder t → IsFreePlace t place
    → AreInOrder (with_pool_gone t place)
