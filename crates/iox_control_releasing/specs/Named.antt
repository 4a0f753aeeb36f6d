-- What a number names whose release is asked for.
use Rattle.std.specs.Prelude.{◌≡◌, ℕ, true, Some}
use Rattle.iox_tables.specs.HubStates.Tables.{HandleState, HubTables, PortState, port_in}
use Rattle.iox_tables.specs.HubStates.Wirings.{IsHandle}

-- The number names a port of the node, whose own value is still there.
pub record IsHeldPort (t : HubTables) (node n : ℕ) : Type 0 where
  pub port : PortState
  pub there : port_in t.ports n ≡ Some port
  pub on_node : port.node ≡ node
  pub held : port.held ≡ true

-- The number names a handle of the node.
pub record IsNamed (t : HubTables) (node n : ℕ) : Type 0 where
  pub handle : HandleState
  pub named : IsHandle t node n handle
