-- The states that tables show as a hub starts, and once a port is made, can be reached.
use Rattle.std.specs.Prelude.{◌≡◌, ℕ, Bool, false, List, [], ◌∷◌, Option, None}
use Rattle.iox_laws.specs.UniqueSystemId.{UniqueSystemId}
use Rattle.iox_model.specs.declared.kind.Role.{Role}
use Rattle.iox_model.specs.Commands.{Options}
use Rattle.iox_model.specs.Joins.{new_node}
use Rattle.iox_model.specs.Runs.{raised, IsReachableState}
use Rattle.iox_model.specs.Settings.{IsShape, Limits}
use Rattle.iox_tables.specs.HubStates.Tables.{HubSettings, HubTables, PoolState}
use Rattle.iox_tables.specs.HubStates.States.{Given, limits_of, state_shown}
use Rattle.iox_tables.specs.HubMaking.FreePools.{NobodyHas, OthersStay}
use Rattle.iox_tables.specs.HubMaking.NewPorts.{CanTakePort, given_made, making_refused, port_made, with_port_made}
use Rattle.iox_tables.specs.HubMaking.Starts.{no_ports}

-- A hub starts with one node and with limits that a service has, and its shapes make sense.
pub record IsFirst (x : Given) (settings : HubSettings) : Type 0 where
  pub limits : Limits
  pub id : UniqueSystemId
  pub raises : limits_of x (no_ports settings) ≡ raised limits
  pub members : x.members ≡ record { nodes = new_node 0 id ∷ []; joins = 1; closed = false }
  pub request : IsShape limits.request
  pub response : IsShape limits.response

-- The state of a hub that starts can be reached.
abbrev pub StartsAreReached : Type 0
StartsAreReached =
    (x : Given) (settings : HubSettings) → IsFirst x settings
    → IsReachableState (state_shown x (no_ports settings))

-- From a state that can be reached, the making of a port that is not refused leads to one.
abbrev pub MakingsAreReached : Type 0
MakingsAreReached =
    (x : Given) (t : HubTables) (node : ℕ) (role : Role) (id : UniqueSystemId) (o : Options)
    → (memory : Bool) (place : ℕ) (words : Given) (pools : List (Option PoolState))
    → IsReachableState (state_shown x t) → making_refused x t role o memory ≡ None
    → CanTakePort t → NobodyHas t place → OthersStay place x t.pools words pools
    → IsReachableState
    (state_shown (given_made x words t.next_number o.handler)
    (with_port_made t (port_made x t node role id o place) pools))
