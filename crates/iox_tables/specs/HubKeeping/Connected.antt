-- Where the tables of a hub are in order, they are as the making of a port asks.
use Rattle.std.specs.Prelude.{◌≡◌, ℕ, true, false, ◌==◌, [], None, Some}
use Rattle.iox_tables.specs.HubStates.Tables.{HubSettings, HubTables, PoolState, PortState, pool_at, port_in, slot_at}
use Rattle.iox_tables.specs.HubStates.Ends.{OfEachHandle}
use Rattle.iox_tables.specs.HubStates.Steps.{is_there}
use Rattle.iox_tables.specs.HubBooks.Hubs.{AreInOrder}
use Rattle.iox_tables.specs.HubMaking.Disconnections.{IsAtHome, MayGo}
use Rattle.iox_tables.specs.HubMaking.FreePools.{NobodyHas}
use Rattle.iox_tables.specs.HubMaking.NewPorts.{CanTakePort}
use Rattle.iox_tables.specs.HubMaking.Wires.{AreConnected}

-- All ports are connected, one more may be made, and each handle is on the node of its port.
pub record IsReadyForPorts (t : HubTables) : Type 0 where
  pub connected : AreConnected t
  pub takes : CanTakePort t
  pub home : OfEachHandle (IsAtHome t) t.handles

-- It is so where the tables are in order.
abbrev pub OrderIsReadyForPorts : Type 0
OrderIsReadyForPorts = (t : HubTables) → AreInOrder t → IsReadyForPorts t

-- Where the tables are in order, each connected port may go.
abbrev pub ConnectedMayGo : Type 0
ConnectedMayGo =
    (t : HubTables) (n : ℕ) → AreInOrder t → is_there t.ports n ≡ true → MayGo t n

-- ---- services that keep nothing

-- No port of the service keeps messages of ports that are gone.
pub record KeepsNone (settings : HubSettings) : Type 0 where
  pub clients : settings.client_expired ≡ 0
  pub servers : settings.server_expired ≡ 0

-- Where the tables of such a service are in order, no port has pipes from ports that are gone.
abbrev pub NothingIsKept : Type 0
NothingIsKept =
    (t : HubTables) (n : ℕ) (p : PortState) → AreInOrder t → KeepsNone t.settings
    → port_in t.ports n ≡ Some p → p.expired.pipes ≡ []

-- ---- a place for a pool

-- No port's pool is in the place, and nobody has a message of what is there.
pub record IsFreePlace (t : HubTables) (place : ℕ) : Type 0 where
  pub ports : (n : ℕ) (p : PortState) → port_in t.ports n ≡ Some p → (p.pool == place) ≡ false
  pub slots : (k : ℕ) → (slot_at t.pools place k).holders ≡ 0

-- A place without a pool is free, and so is one whose port is gone, as soon as nobody has a message
-- of its pool. Nobody has messages of a free place.
pub record PlacesAreFree (t : HubTables) (place : ℕ) : Type 0 where
  pub empty : pool_at t.pools place ≡ None → IsFreePlace t place
  pub left :
      (q : PoolState) → pool_at t.pools place ≡ Some q → is_there t.ports q.port ≡ false
      → ((k : ℕ) → (slot_at t.pools place k).holders ≡ 0) → IsFreePlace t place
  pub nobody : IsFreePlace t place → NobodyHas t place

-- It is so where the tables are in order.
abbrev pub PlacesBecomeFree : Type 0
PlacesBecomeFree = (t : HubTables) (place : ℕ) → AreInOrder t → PlacesAreFree t place
