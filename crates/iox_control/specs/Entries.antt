-- The handles of a hub, as the table of handles keeps them.
use Rattle.std.specs.Prelude.{List, map}
use Rattle.iox_handles.specs.declared.entry.Entry.{Entry}
use Rattle.iox_handles.specs.Tables.{Contents}
use Rattle.iox_hub_ports.specs.HubStates.Tables.{HandleState}

-- a handle as the table keeps it
abbrev pub handle_state : Entry → HandleState
handle_state e = record {
  node = e.node;
  number = e.number;
  kind = e.kind;
  port = e.port;
  pool = e.pool;
  slot = e.slot;
  client = e.client;
  connections = e.connections;
}

-- all handles, oldest first
abbrev pub handles_of : Contents → List HandleState
handles_of table = map handle_state table.handles
