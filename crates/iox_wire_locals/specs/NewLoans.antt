-- What a loan in the making will be, and what is received.
use Rattle.std.specs.Prelude.{ℕ, ◌-◌, if◌then◌else◌, List, slice_index}
use Rattle.iox_model.specs.declared.kind.Kind.TheVariants.{ActiveRequest, Response}
use Rattle.iox_model.specs.declared.way.Way.{Way}
use Rattle.iox_model.specs.Messages.{Message}
use Rattle.iox_model.specs.Settings.{is_client, other_role}
use Rattle.iox_model.specs.States.{Handle}
use Rattle.iox_wire_locals.specs.declared.table.Entry.{Entry}
use Rattle.iox_wire_locals.specs.declared.table.NewLoan.{NewLoan}
use Rattle.iox_wire_locals.specs.declared.local.Visit.{Visit}
use Rattle.iox_wire_locals.specs.Stored.{header_length, message_words}
use Rattle.iox_wire_locals.specs.Tables.{Setting, port_shape}

-- ---- loans in the making

-- the message that the loan will have
abbrev pub message_in : Setting → NewLoan → Message
message_in p o = record {
  sender = o.port;
  serial = o.serial;
  node_id = (p.port o.port).node_id;
  port_id = (p.port o.port).id;
  lane = o.lane;
  request = o.request;
  elements = o.elements;
  user = (port_shape p o.port).user;
  payload = o.payload;
}

-- the handle that it will be
abbrev pub loan_in : Setting → NewLoan → Handle
loan_in p o = record {
  node = (p.port o.port).node;
  number = o.number;
  kind = o.kind;
  port = o.port;
  message = message_in p o;
  filled = o.elements;
  client = o.client;
  lane = o.lane;
  request = o.request;
  connections = 0;
}

-- its entry, once it has a slot
abbrev pub entry_in : NewLoan → ℕ → Entry
entry_in o slot = record {
  number = o.number;
  kind = o.kind;
  port = o.port;
  sender = o.port;
  slot = slot;
  client = o.client;
  lane = o.lane;
  request = o.request;
  elements = o.elements;
  connections = 0;
}

-- the words that it stores: header and user header, and its payload if it is sent in the same call
abbrev pub loan_words : Setting → NewLoan → List ℕ
loan_words p o = message_words (p.port o.port).role (message_in p o)

-- ---- what is received

-- how many header words a receive loads
abbrev pub received_length : Visit → ℕ
received_length v = header_length (other_role v.role)

-- the lane of a received message: a request's header has it, a response came on it
abbrev pub lane_in : Visit → Way → List ℕ → ℕ
lane_in v w header = if is_client v.role then w.lane else slice_index header 4

-- its request and its number of elements, the last two words of its header
abbrev pub request_in : Visit → List ℕ → ℕ
request_in v header = slice_index header (received_length v - 2)

-- how many elements it has
abbrev pub elements_in : Visit → List ℕ → ℕ
elements_in v header = slice_index header (received_length v - 1)

-- the entry of a received message, with these header words
abbrev pub received_entry : ℕ → Visit → Way → ℕ → List ℕ → Entry
received_entry number v w slot header = record {
  number = number;
  kind = if is_client v.role then Response else ActiveRequest;
  port = v.port;
  sender = w.sender;
  slot = slot;
  client = if is_client v.role then v.port else w.sender;
  lane = lane_in v w header;
  request = request_in v header;
  elements = elements_in v header;
  connections = 0;
}
