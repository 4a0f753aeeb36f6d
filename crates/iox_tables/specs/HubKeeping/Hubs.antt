-- A hub is one from its start on, and stays one as ports come and go.
use Rattle.std.specs.Prelude.{◌≡◌, ℕ, Bool, true, false, List, Option, Some, None}
use Rattle.iox_laws.specs.UniqueSystemId.{UniqueSystemId}
use Rattle.iox_model.specs.declared.kind.Role.{Role}
use Rattle.iox_model.specs.declared.call.Call.TheVariants.{Release}
use Rattle.iox_model.specs.declared.reply.Reply.TheVariants.{Done}
use Rattle.iox_model.specs.Commands.{Options}
use Rattle.iox_model.specs.WholeCalls.{IsWholeCall}
use Rattle.iox_tables.specs.HubStates.Tables.{HubSettings, HubTables, PoolState, PortState, port_in}
use Rattle.iox_tables.specs.HubStates.States.{Given, state_shown}
use Rattle.iox_tables.specs.HubStates.Releases.{with_value_released}
use Rattle.iox_tables.specs.HubBooks.Hubs.{TablesAreReached}
use Rattle.iox_tables.specs.HubMaking.Disconnections.{is_unused, with_disconnected}
use Rattle.iox_tables.specs.HubMaking.FreePools.{IsPut, OthersStay, with_pool_gone}
use Rattle.iox_tables.specs.HubMaking.NewPorts.{given_made, making_refused, pool_made, port_made, with_port_made}
use Rattle.iox_tables.specs.HubMaking.Reached.{IsFirst}
use Rattle.iox_tables.specs.HubMaking.Starts.{no_ports}
use Rattle.iox_tables.specs.HubKeeping.Connected.{IsFreePlace}
use Rattle.iox_tables.specs.HubKeeping.Keeps.{lost_uses}
use Rattle.iox_tables.specs.HubLending.Emptying.{HasFewerHolders}

-- The tables are those of a hub, where this is given besides.
pub record IsHubWith (x : Given) (t : HubTables) : Type 0 where
  pub hub : TablesAreReached t
  pub given : hub.given ≡ x

-- The tables with no port are those of a hub.
abbrev pub HubsStart : Type 0
HubsStart =
    (x : Given) (settings : HubSettings) → IsFirst x settings → IsHubWith x (no_ports settings)

-- ---- a port is made

-- The new port's pool is put into a free place, and the words of all other messages stay.
pub record IsPoolOf (x : Given) (t : HubTables) (new : PortState) (words : Given)
    (pools : List (Option PoolState)) : Type 0
  where
    pub free : IsFreePlace t new.pool
    pub put : IsPut t.pools new.pool (pool_made new) pools
    pub words_stay : OthersStay new.pool x t.pools words pools

-- The tables of a hub are so once a port is made, if that is not refused.
abbrev pub HubsTakePorts : Type 0
HubsTakePorts =
    (t : HubTables) (hub : TablesAreReached t) (node : ℕ) (role : Role) (id : UniqueSystemId) (o : Options)
    → (memory : Bool) (place : ℕ) (words : Given) (pools : List (Option PoolState))
    → making_refused hub.given t role o memory ≡ None
    → IsPoolOf hub.given t (port_made hub.given t node role id o place) words pools
    → IsHubWith (given_made hub.given words t.next_number o.handler)
    (with_port_made t (port_made hub.given t node role id o place) pools)

-- ---- a port is released

-- The release is a whole call, and what it leaves are the tables of a hub.
pub record LeavesTables (x : Given) (t : HubTables) (node n : ℕ) (left : HubTables) : Type 0 where
  pub call : IsWholeCall (state_shown x t) node (Release n) Done (state_shown x left)
  pub hub : IsHubWith x left

-- The release of a port's own value: the port stays while it has handles, and goes if nothing of it
-- is left.
pub record PortIsReleased (x : Given) (t : HubTables) (node n : ℕ) : Type 0 where
  pub stays :
      is_unused (with_value_released t n) n ≡ false
      → LeavesTables x t node n (with_value_released t n)
  pub goes :
      (pools : List (Option PoolState)) → is_unused (with_value_released t n) n ≡ true
      → HasFewerHolders t.pools pools (lost_uses (with_value_released t n) n)
      → LeavesTables x t node n
      (record (with_disconnected (with_value_released t n) n) { pools = pools })

-- It is so of each port of the node whose own value is there.
abbrev pub HubsReleasePorts : Type 0
HubsReleasePorts =
    (t : HubTables) (hub : TablesAreReached t) (node n : ℕ) (p : PortState)
    → port_in t.ports n ≡ Some p → p.node ≡ node → p.held ≡ true
    → PortIsReleased hub.given t node n

-- ---- a pool goes

-- The tables of a hub are so once a pool is gone that nobody has messages of.
abbrev pub HubsDropPools : Type 0
HubsDropPools =
    (t : HubTables) (hub : TablesAreReached t) (place : ℕ) → IsFreePlace t place
    → IsHubWith hub.given (with_pool_gone t place)
