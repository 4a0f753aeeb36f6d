-- Who sent the message of a handle, and which port has which id.
use Rattle.std.specs.Prelude.{◌≡◌, ℕ, List, Option, Some, None, IsSome}
use Rattle.std.specs.Option.{option_map, option_map_or}
use Rattle.iox_types.specs.declared.identifiers.system_id.UniqueSystemId.{UniqueSystemId}
use Rattle.iox_model.specs.Handles.{subject}
use Rattle.iox_model.specs.Messages.{Message}
use Rattle.iox_model.specs.Peers.{port_at}
use Rattle.iox_model.specs.States.{State}
use Rattle.iox_laws.specs.MessageLaws.Sendings.{own_message}
use Rattle.iox_tables.specs.HubStates.States.{Given, no_id, node_id_of, port_id_of}
use Rattle.iox_tables.specs.HubStates.Tables.{HandleState, PoolState, owner_of, port_in, slot_at}
use Rattle.iox_tables.specs.HubStates.Wirings.{handle_in}
use Rattle.iox_hub.specs.Hubs.{HubState, state_of_hub}
use Rattle.iox_hub.specs.Reads.{message_in}
use Rattle.iox_hub.specs.declared.headers.MessageHeader.{MessageHeader}

-- ---- ports

-- the id of the connected port of that number
abbrev pub id_in : HubState → ℕ → UniqueSystemId
id_in h n = option_map_or (λ p. p.id) (port_in h.control.tables.ports n) no_id

-- the id of its node
abbrev pub node_id_in : HubState → ℕ → UniqueSystemId
node_id_in h n = option_map_or (λ p. p.node_id) (port_in h.control.tables.ports n) no_id

-- A port of that number is connected, and in the state that the hub shows, it has this id.
pub record IsIdShown (h : HubState) (n : ℕ) : Type 0 where
  pub connected : IsSome (port_in h.control.tables.ports n)
  pub port :
      (x : Given) → option_map (λ p. p.id) (port_at (state_of_hub x h).fixed n) ≡ Some (id_in h n)

-- ---- messages

-- the header of a message of the machine
abbrev pub header_of : Message → MessageHeader
header_of m = record {
  node_id = m.node_id;
  port_id = m.port_id;
  lane = m.lane;
  request = m.request;
  elements = m.elements;
}

-- the header of the message in a slot of the pool in this place
abbrev pub header_at : List (Option PoolState) → ℕ → ℕ → MessageHeader
header_at pools place k = record {
  node_id = node_id_of pools place;
  port_id = port_id_of pools place;
  lane = (slot_at pools place k).lane;
  request = (slot_at pools place k).request;
  elements = (slot_at pools place k).elements;
}

-- the header of no message
abbrev pub no_header : MessageHeader
no_header = record { node_id = no_id; port_id = no_id; lane = 0; request = 0; elements = 0 }

-- the header of the message of the node's handle of that number
abbrev pub header_in : HubState → ℕ → ℕ → MessageHeader
header_in h node n =
    option_map_or (λ (k : HandleState). header_at h.control.tables.pools k.pool k.slot)
    (handle_in h.control.tables.handles node n) no_header

-- the port that sent the message of the node's handle of that number, or that has it loaned
abbrev pub sender_in : HubState → ℕ → ℕ → ℕ
sender_in h node n =
    option_map_or (λ (k : HandleState). owner_of h.control.tables.pools k.pool)
    (handle_in h.control.tables.handles node n) 0

-- While that sender is connected, the header has its ids.
pub record HasIdsOf (header : MessageHeader) (h : HubState) (sender : ℕ) : Type 0 where
  pub node : IsSome (port_in h.control.tables.ports sender) → header.node_id ≡ node_id_in h sender
  pub port : IsSome (port_in h.control.tables.ports sender) → header.port_id ≡ id_in h sender

-- the message of the node's handle of that number
abbrev pub message_at : State → ℕ → ℕ → Option Message
message_at s node n = option_map_or own_message (subject s.fixed node n) None

-- The node has a handle of that number. In the state that the hub shows, its message has this sender
-- and this header. While the sender is connected, the header has its ids, and it tells how many
-- elements the message has.
pub record IsHeaderShown (h : HubState) (node n : ℕ) : Type 0 where
  pub sender :
      (x : Given)
      → option_map (λ m. m.sender) (message_at (state_of_hub x h) node n) ≡ Some (sender_in h node n)
  pub header :
      (x : Given) → option_map header_of (message_at (state_of_hub x h) node n) ≡ Some (header_in h node n)
  pub ids : HasIdsOf (header_in h node n) h (sender_in h node n)
  pub elements : (header_in h node n).elements ≡ (message_in h node n).elements
