-- What is fixed on a wire, and what a node's table of handles stands for.
use Rattle.std.specs.Prelude.{ℕ, ◌*◌, ◌+◌, not, if◌then◌else◌, ◌==◌, List, [], ◌∷◌, length, filter, find, Option}
use Rattle.iox_model.specs.declared.kind.Kind.TheVariants.{PendingResponse, ActiveRequest}
use Rattle.iox_model.specs.declared.way.Way.{Way}
use Rattle.iox_model.specs.Handles.{same_kind}
use Rattle.iox_model.specs.Messages.{request_way, response_way}
use Rattle.iox_model.specs.Settings.{Limits, Shape, shape_of}
use Rattle.iox_model.specs.States.{Port, Handle}
use Rattle.iox_wire_moments.specs.Programs.{WireLayout}
use Rattle.iox_wire_moments.specs.MomentsOf.{Pools}
use Rattle.iox_wire_locals.specs.declared.table.Entry.{Entry}
use Rattle.iox_wire_locals.specs.Stored.{header_length, pool_word}

-- What no call on a wire changes: where its words stand, the limits, and each port.
pub record Setting : Type 0 where
  pub layout : WireLayout
  pub limits : Limits
  pub port : ℕ → Port
  -- the number of each node's first handle
  pub next_number : ℕ

-- the shape of the messages that a port sends
abbrev pub port_shape : Setting → ℕ → Shape
port_shape p port = shape_of p.limits (p.port port).role

-- the number of a message's word in its sender's region
abbrev pub region_word : Setting → (port slot k : ℕ) → ℕ
region_word p port slot k =
    pool_word (p.port port).role (port_shape p port) (p.port port).longest slot k

-- how many words of a message stand before its payload
abbrev pub words_before_payload : Setting → ℕ → ℕ
words_before_payload p port = header_length (p.port port).role + length (port_shape p port).user

-- ---- entries

-- the handle that an entry stands for, with the messages in these slots
abbrev pub handle_of : Pools → ℕ → Entry → Handle
handle_of held node e = record {
  node = node;
  number = e.number;
  kind = e.kind;
  port = e.port;
  message = held e.sender e.slot;
  filled = (held e.sender e.slot).elements;
  client = e.client;
  lane = e.lane;
  request = e.request;
  connections = e.connections;
}

-- the way that an entry's message came on, if it was received
abbrev pub way_in : Entry → Way
way_in e =
    if same_kind e.kind ActiveRequest then request_way e.client e.port
    else response_way e.port e.lane e.sender

-- the way whose request state is the entry's own
abbrev pub state_in : Entry → Way
state_in e = response_way e.client e.lane e.port

-- how many words a read of the entry's message gives
abbrev pub words_to_read : Setting → Entry → ℕ
words_to_read p e =
    length (port_shape p e.sender).user + e.elements * (port_shape p e.sender).width

-- the entry of that number
abbrev pub entry_at : ℕ → List Entry → Option Entry
entry_at n table = find (λ e. e.number == n) table

-- the table without that entry
abbrev pub without_entry : Entry → List Entry → List Entry
without_entry e table = filter (λ k. not (k.number == e.number)) table

-- the table with the entry of that number as it is now
abbrev pub with_entry : Entry → List Entry → List Entry
with_entry e [] = []
with_entry e (k ∷ ks) = if k.number == e.number then e ∷ ks else k ∷ with_entry e ks

-- a sent request's entry: a pending response, of so many servers
abbrev pub sent_entry : Entry → ℕ → Entry
sent_entry e count = record e { kind = PendingResponse; connections = count }
