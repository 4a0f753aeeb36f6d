-- The tables of a hub as its code keeps them.
use Rattle.std.specs.Prelude.{◌≡◌, ℕ, ◌≤◌, ◌+◌, ◌-◌, ◌^◌, List, [], ◌∷◌, ◌++◌, Option}
use Rattle.iox_handles.specs.Tables.{Contents}
use Rattle.iox_hub_ports.specs.Ports.{PortsState, without_port}
use Rattle.iox_hub_ports.specs.HubStates.Tables.{HandleState, HubSettings, HubTables, PoolState, PortState}
use Rattle.iox_hub_ports.specs.HubMaking.Starts.{no_ports}
use Rattle.iox_model.specs.declared.kind.Role.{Role}
use Rattle.iox_hub_ports.specs.HubStates.Ends.{with_added, with_call, with_dropped, DifferInHolders}
use Rattle.iox_hub_ports.specs.HubStates.Changes.{with_states}
use Rattle.iox_hub_ports.specs.HubStates.Receives.{got_handle}
use Rattle.iox_hub_ports.specs.HubStates.Releases.{pending_states, request_of}
use Rattle.iox_model.specs.Messages.{hinted_for}
use Rattle.iox_slots.specs.Pools.{with_slot}
use Rattle.iox_slots.specs.Slots.{held}
use Rattle.iox_hub_ports.specs.HubMaking.OneByOne.{HaveRoom}
use Rattle.iox_hub_ports.specs.HubBooks.Counts.{OfAll, OfAllLanes}
use Rattle.iox_hub_ports.specs.HubBooks.Hubs.{AreInOrder}
use Rattle.iox_hub_ports.specs.HubBooks.Keeps.{bare_pools}
use Rattle.iox_hub_ports.specs.HubBooks.Rooms.{CanCountHolders, HasRoomForAll}
use Rattle.iox_control.specs.declared.settings.Settings.{Settings}
use Rattle.iox_control.specs.Settings.{settings_of}
use Rattle.iox_control.specs.Entries.{handles_of}

-- The tables, and for how many handles and ports there is room.
pub record ControlState : Type 0 where
  pub tables : HubTables
  pub room : ℕ
  pub port_room : ℕ

-- the tables that the parts are
abbrev pub control_of :
    Settings → ℕ → ℕ → ℕ → PortsState → Contents → List (Option PoolState) → ControlState
control_of settings calls next_number ports_made ports handles pools = record {
  tables = record {
    settings = settings_of settings;
    calls = calls;
    next_number = next_number;
    ports_made = ports_made;
    ports = ports.ports;
    handles = handles_of handles;
    pools = pools;
  };
  room = handles.room;
  port_room = ports.room;
}

-- no port was made, and there is room for none
abbrev pub new_control : HubSettings → ControlState
new_control settings = record { tables = no_ports settings; room = 0; port_room = 0 }

-- the same room, with other tables
abbrev pub with_tables : ControlState → HubTables → ControlState
with_tables c t = record c { tables = t }

-- with other ports
abbrev pub with_ports : ControlState → List PortState → ControlState
with_ports c ports = with_tables c (record (c.tables) { ports = ports })

-- with other pools
abbrev pub with_pools : ControlState → List (Option PoolState) → ControlState
with_pools c pools = with_tables c (record (c.tables) { pools = pools })

-- one port more, which is the last, and for which there was room
abbrev pub with_port_added : ControlState → PortState → ControlState
with_port_added c p =
    record (with_ports c (c.tables.ports ++ p ∷ [])) { port_room = c.port_room - 1 }

-- the first port of that number is gone, and leaves room
abbrev pub with_port_removed : ControlState → ℕ → ControlState
with_port_removed c n =
    record (with_ports c (without_port c.tables.ports n)) { port_room = c.port_room + 1 }

-- one port more is counted, and it has the next number
abbrev pub with_number : ControlState → ControlState
with_number c =
    with_tables c (record (c.tables) {
      next_number = c.tables.next_number + 1;
      ports_made = c.tables.ports_made + 1;
    })

-- the node has the handle no more, and there is room for another
abbrev pub with_handle_dropped : ControlState → ℕ → ℕ → ControlState
with_handle_dropped c node n =
    record (with_tables c (with_dropped c.tables node n)) { room = c.room + 1 }

-- one handle more, for which there was room
abbrev pub with_handle : ControlState → HandleState → ControlState
with_handle c h = record c { tables = with_added c.tables h; room = c.room - 1 }

-- a port of that role got the message in that slot: it has a handle, and the call is counted
abbrev pub with_got : ControlState → ℕ → Role → ℕ → ℕ → ℕ → ControlState
with_got c node role port pool k =
    let t : HubTables = with_call (with_added c.tables (got_handle c.tables node role port pool k)) in
    record c { tables = record t { pools = with_slot held c.tables.pools pool k }; room = c.room - 1 }

-- each server of the handle's request is told that its client lost interest
abbrev pub with_hint : HubTables → HandleState → HubTables
with_hint t h = with_states (λ r. hinted_for r (request_of t h)) t (pending_states t h)

-- ---- what is so between calls

-- Numbers can still be counted: each call gives at most one number to a handle, counts at most one
-- loan of a port, and delivers at most once on a lane.
pub record AreCounted (t : HubTables) : Type 0 where
  pub calls : t.calls ≤ 2 ^ 56 + 1
  pub ports : t.ports_made ≤ 2 ^ 32
  pub numbers : t.next_number ≤ t.calls + t.ports_made
  pub loans : OfAll (λ p. p.loans ≤ t.calls) t.ports
  pub deliveries : OfAllLanes (λ l. l.deliveries ≤ t.calls) t.ports

-- At least one message may wait on each lane.
pub record HaveBuffers (settings : HubSettings) : Type 0 where
  pub requests : 1 ≤ settings.active_requests
  pub responses : 1 ≤ settings.response_buffer

-- The tables are in order, and there is room for all handles that may still come, and for pipes from
-- all ports that there may be.
pub record IsControl (c : ControlState) : Type 0 where
  pub buffers : HaveBuffers c.tables.settings
  pub order : AreInOrder c.tables
  pub ports : HaveRoom c.tables
  pub counted : AreCounted c.tables
  pub room : HasRoomForAll c.room c.tables
  pub holders : CanCountHolders c.room c.tables

-- The tables are these, but for how many have each slot.
pub record IsButHolders (t t' : HubTables) : Type 0 where
  pub same : t' ≡ record t { pools = t'.pools }
  pub holders : DifferInHolders t.pools t'.pools
  pub bare : bare_pools t.pools ≡ bare_pools t'.pools
