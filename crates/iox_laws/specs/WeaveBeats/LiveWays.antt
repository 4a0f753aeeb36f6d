-- The ways of a living node: which of them are live, as far as the node itself can tell.
use Rattle.std.specs.Prelude.{◌≡◌, ℕ, true, false, None, IsTrue}
use Rattle.iox_model.specs.declared.way.Way.{Way}
use Rattle.iox_model.specs.States.{Fixed}
use Rattle.iox_model.specs.Peers.{is_connected_port, is_counted_on, node_of_port, forgot_port}
use Rattle.iox_model.specs.Joins.{not_living}
use Rattle.iox_model.specs.Weaves.{World}
use Rattle.iox_laws.specs.WeaveLaws.Ledgers.{is_live}
use Rattle.iox_laws.specs.WeaveWorlds.Worlds.{IsReachable}

-- both ends of the way are connected ports
abbrev pub AreConnected : Fixed → Way → Type 0
AreConnected f y =
    (is_connected_port f y.sender ≡ true) × (is_connected_port f y.receiver ≡ true)

-- the way goes from a port of the node to a port whose node it did not forget
abbrev pub GoesFrom : Fixed → ℕ → Way → Type 0
GoesFrom f node y =
    AreConnected f y × (node_of_port f y.sender ≡ node) × (forgot_port f node y.receiver ≡ false)

-- the way comes to a port of the node from a port whose node it did not forget
abbrev pub ComesTo : Fixed → ℕ → Way → Type 0
ComesTo f node y =
    AreConnected f y × (node_of_port f y.receiver ≡ node) × (forgot_port f node y.sender ≡ false)

-- In every reachable world, each way between a living node and one that it did not forget is live:
-- nobody forgot a living node.
abbrev pub OwnWaysAreLive : Type 0
OwnWaysAreLive =
    (w : World) (node : ℕ) (y : Way) → IsReachable w → not_living w.state node ≡ None
    → (GoesFrom w.state.fixed node y → IsTrue (is_live w.state.fixed y))
    × (ComesTo w.state.fixed node y → IsTrue (is_live w.state.fixed y))

-- On each way to a port of a living node the sender counts what it delivers, also where the node
-- forgot the sender.
abbrev pub WaysToTheLivingAreCounted : Type 0
WaysToTheLivingAreCounted =
    (w : World) (node : ℕ) (y : Way) → IsReachable w → not_living w.state node ≡ None
    → AreConnected w.state.fixed y → node_of_port w.state.fixed y.receiver ≡ node
    → is_counted_on w.state.fixed y ≡ true
