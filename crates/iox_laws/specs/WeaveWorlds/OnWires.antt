-- The states of a service and its hub meet what the ledger of a wire requires, so its laws hold in
-- all reachable worlds.
use Rattle.std.specs.Prelude.{List}
use Rattle.iox_model.specs.States.{State}
use Rattle.iox_model.specs.Weaves.{World, Beat}
use Rattle.iox_laws.specs.WeaveLedger.OnceLaws.{HasOwnNumbers, IsOnWire}
use Rattle.iox_model.specs.Runs.{IsReachableState, IsServed}
use Rattle.iox_laws.specs.WeaveWorlds.Worlds.{IsReachable}

-- The states that a service reaches with its own nodes are among those that it and its hub reach.
abbrev pub ServedIsReachable : Type 0
ServedIsReachable = (s : State) → IsServed s → IsReachableState s

-- In each reachable state every port has a number of its own.
abbrev pub PortsHaveOwnNumbers : Type 0
PortsHaveOwnNumbers = (s : State) → IsReachableState s → HasOwnNumbers s

-- Every reachable world is one of a wire that opened on a reachable state.
abbrev pub ReachableIsOnWire : Type 0
ReachableIsOnWire =
    (w : World) → IsReachable w
    → (s : State) × (bs : List Beat) × IsReachableState s × IsOnWire s bs w
