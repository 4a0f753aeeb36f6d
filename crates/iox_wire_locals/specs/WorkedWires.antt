-- A worked wire: one client, one server, each setting 1, elements of one word, nothing overflows.
use Rattle.std.specs.Prelude.{ℕ, ◌+◌, ◌*◌, if◌then◌else◌, ◌==◌, true, false, List, [], ◌∷◌, map, replicate, None}
use Rattle.std.specs.List.{range_with_len}
use Rattle.iox_types.specs.declared.backpressure.BackpressureStrategy.TheVariants.{DiscardData}
use Rattle.iox_types.specs.declared.backpressure.AllocationStrategy.TheVariants.{Static}
use Rattle.iox_model.specs.declared.kind.Role.{Role}
use Rattle.iox_model.specs.declared.kind.Role.TheVariants.{Client, Server}
use Rattle.iox_model.specs.declared.way.Way.{Way}
use Rattle.iox_model.specs.Messages.{response_way}
use Rattle.iox_model.specs.Settings.{Limits, Shape}
use Rattle.iox_model.specs.States.{Port}
use Rattle.iox_steps.specs.declared.site.QueueKind.TheVariants.{Index}
use Rattle.iox_wire_moments.specs.WordMaps.{WireQueue, MessageQueue, ReturningQueue, all_ones}
use Rattle.iox_wire_moments.specs.Programs.{WireLayout}
use Rattle.iox_wire_locals.specs.declared.table.Desk.{Desk}
use Rattle.iox_wire_locals.specs.declared.local.Local.TheVariants.{Idle}
use Rattle.iox_wire_locals.specs.declared.seat.Seat.{Seat}
use Rattle.iox_wire_locals.specs.Tables.{Setting}

-- ---- the wire

-- one message may wait, and three may be on their way back
abbrev pub capacity_in : WireQueue → ℕ
capacity_in (MessageQueue w) = 1
capacity_in (ReturningQueue w) = 3

-- node 0 has the client, port 0; node 1 the server, port 1
abbrev pub layout_of_ones : WireLayout
layout_of_ones = record {
  sizes = all_ones;
  kind = λ q. Index;
  capacity = capacity_in;
  owner = λ port. port;
}

-- a message is a header, no user header, and one element of one word
abbrev pub shape_of_one : ℕ → Shape
shape_of_one header = record {
  many = false;
  width = 1;
  default = None;
  user = [];
  header_part = record { size = 8 * header; alignment = 8 };
  user_part = record { size = 0; alignment = 8 };
  element_part = record { size = 8; alignment = 8 };
}

-- each limit is 1, nothing expired is kept, and nothing overflows
abbrev pub limits_of_ones : Limits
limits_of_ones = record {
  clients = 1;
  servers = 1;
  nodes = 2;
  active_requests = 1;
  loaned_requests = 1;
  response_buffer = 1;
  borrowed_responses = 1;
  loaned_responses = 1;
  client_expired = 0;
  server_expired = 0;
  request_overflow = false;
  response_overflow = false;
  fire_and_forget = false;
  client_strategy = DiscardData;
  server_strategy = DiscardData;
  client_allocation = Static;
  server_allocation = Static;
  request = shape_of_one 7;
  response = shape_of_one 6;
}

-- a port on the node of its own number
abbrev pub port_of_ones : ℕ → Role → ℕ → Port
port_of_ones n role pool = record {
  number = n;
  node = n;
  role = role;
  node_id = record { process = 1; seconds = 0; nanoseconds = 0; counter = n };
  id = record { process = 1; seconds = 0; nanoseconds = 0; counter = n + 2 };
  pool = pool;
  longest = 1;
  grows = false;
  strategy = DiscardData;
  handler = None;
  loaned_responses = 1;
  held = true;
}

-- the worked wire: its client has a pool of 4, its server one of 9
abbrev pub ones : Setting
ones = record {
  layout = layout_of_ones;
  limits = limits_of_ones;
  port = λ n. if n == 0 then port_of_ones 0 Client 4 else port_of_ones 1 Server 9;
  next_number = 2;
}

-- the ways of the responses, one on each lane
abbrev pub ways_of_responses : List Way
ways_of_responses = map (λ lane. response_way 0 lane 1) (range_with_len 0 4)

-- a desk of a port that lent nothing yet, with a pool of that size
abbrev pub fresh_desk : (port pool : ℕ) → List ℕ → List Way → Desk
fresh_desk port pool lanes ways = record {
  port = port;
  loans = 0;
  serials = replicate pool 0;
  uses = replicate pool 0;
  free = range_with_len 0 pool;
  free_lanes = lanes;
  recorded = map (λ w. record { way = w; slots = [] }) ways;
}

-- a node that did nothing yet, with a desk, and with messages of these ways to come
abbrev pub fresh_seat : ℕ → Desk → List Way → Seat
fresh_seat node desk ways = record {
  node = node;
  accesses = 0;
  handles_made = 0;
  table = [];
  desks = desk ∷ [];
  borrowed = map (λ w. record { way = w; count = 0 }) ways;
  forgot = [];
  local = Idle;
}
