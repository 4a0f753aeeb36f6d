-- The identifier of a port of any kind.
use Rattle.std.specs.Prelude.{ℕ}
use Rattle.iox_types.specs.Identifiers.{IsId, id_value}
use Rattle.iox_types.specs.declared.identifiers.system_id.UniqueSystemId.{UniqueSystemId}
use Rattle.iox_types.specs.declared.identifiers.port_id.UniquePortId.{UniquePortId}
use Rattle.iox_types.specs.declared.identifiers.port_id.UniquePortId.TheVariants.{Publisher, Subscriber, Notifier, Listener, Client, Server, Reader, Writer}

-- who made the port and when, whatever the kind
abbrev pub made_by : UniquePortId → UniqueSystemId
made_by (Publisher id) = id
made_by (Subscriber id) = id
made_by (Notifier id) = id
made_by (Listener id) = id
made_by (Client id) = id
made_by (Server id) = id
made_by (Reader id) = id
made_by (Writer id) = id

-- its four numbers have 32 bits each
abbrev pub IsPortId : UniquePortId → Type 0
IsPortId id = IsId (made_by id)

-- its number, whatever the kind
abbrev pub port_id_value : UniquePortId → ℕ
port_id_value id = id_value (made_by id)
