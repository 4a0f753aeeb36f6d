-- What a hub keeps of ports that are gone.
use Rattle.std.specs.Prelude.{◌≡◌, ◌⊎◌, ℕ, ◌≤◌, true, length, Some}
use Rattle.iox_model.specs.declared.way.Way.{Way}
use Rattle.iox_model.specs.Maps.{has_number}
use Rattle.iox_lanes.specs.Lanes.{LaneState}
use Rattle.iox_tables.specs.HubMaking.NewPorts.{room_for_gone}
use Rattle.iox_tables.specs.HubStates.States.{expired_in}
use Rattle.iox_tables.specs.HubStates.Tables.{HandleState, HubTables, PortState, port_in}
use Rattle.iox_tables.specs.HubStates.Steps.{is_there}
use Rattle.iox_tables.specs.HubStates.Ways.{lane_on}
use Rattle.iox_tables.specs.HubStates.Wirings.{handle_in}

-- The receiver of the way is connected. So is its sender, or it is gone and the receiver keeps it.
pub record IsToPort (t : HubTables) (w : Way) : Type 0 where
  pub receiver : is_there t.ports w.receiver ≡ true
  pub sender :
      (is_there t.ports w.sender ≡ true)
      ⊎ (has_number w.sender (expired_in t.ports w.receiver) ≡ true)

-- Each lane leads to a connected port, from another one or from one that is gone and that the port
-- keeps. A port keeps no more of these than its service says. Each handle is of a connected port.
pub record KeepsFewGone (t : HubTables) : Type 0 where
  pub lanes : (w : Way) (l : LaneState) → lane_on t.ports w ≡ Some l → IsToPort t w
  pub few :
      (n : ℕ) (p : PortState) → port_in t.ports n ≡ Some p
      → length (expired_in t.ports n) ≤ room_for_gone t.settings p.role
  pub handles :
      (node n : ℕ) (h : HandleState) → handle_in t.handles node n ≡ Some h
      → is_there t.ports h.port ≡ true

-- both ends of the way are connected
pub record IsBetweenPorts (t : HubTables) (w : Way) : Type 0 where
  pub sender : is_there t.ports w.sender ≡ true
  pub receiver : is_there t.ports w.receiver ≡ true

-- Each lane is between connected ports, and each handle is of a connected port.
pub record KeepsNoGone (t : HubTables) : Type 0 where
  pub lanes :
      (w : Way) (l : LaneState) → lane_on t.ports w ≡ Some l → IsBetweenPorts t w
  pub handles :
      (node n : ℕ) (h : HandleState) → handle_in t.handles node n ≡ Some h
      → is_there t.ports h.port ≡ true
