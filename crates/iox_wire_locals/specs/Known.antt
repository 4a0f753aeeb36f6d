-- What a node knows of what is fixed in the machine: its own part, and what no call changes.
use Rattle.std.specs.Prelude.{ℕ, true, ◌==◌, List, [], map, find}
use Rattle.std.specs.Option.{option_map_or}
use Rattle.iox_model.specs.declared.backpressure.BackpressureAction.TheVariants.{FollowBackpressureStrategy}
use Rattle.iox_model.specs.declared.way.Way.{Way}
use Rattle.iox_model.specs.Doings.{Sending}
use Rattle.iox_model.specs.Maps.{same_way}
use Rattle.iox_model.specs.Messages.{Message}
use Rattle.iox_model.specs.Requests.{sending_of}
use Rattle.iox_model.specs.States.{Handle, Fixed}
use Rattle.iox_wire_locals.specs.declared.table.Entry.{Entry}
use Rattle.iox_wire_locals.specs.declared.local.Delivery.{Delivery}
use Rattle.iox_wire_locals.specs.declared.seat.Seat.{Seat}
use Rattle.iox_wire_locals.specs.Tables.{Setting, port_shape, handle_of}

-- what an entry tells of its message: all but the serial and the payload
abbrev pub told_message : Setting → Entry → Message
told_message p e = record {
  sender = e.sender;
  serial = 0;
  node_id = (p.port e.sender).node_id;
  port_id = (p.port e.sender).id;
  lane = e.lane;
  request = e.request;
  elements = e.elements;
  user = (port_shape p e.sender).user;
  payload = [];
}

-- the handle, as far as its entry tells
abbrev pub told_handle : Setting → ℕ → Entry → Handle
told_handle p node e = handle_of (λ port slot. told_message p e) node e

-- how many loans of a port succeeded
abbrev pub loans_at : Seat → ℕ → ℕ
loans_at x port = option_map_or (λ d. d.loans) (find (λ d. d.port == port) x.desks) 0

-- the free slots of a port
abbrev pub free_slots : Seat → ℕ → List ℕ
free_slots x port = option_map_or (λ d. d.free) (find (λ d. d.port == port) x.desks) []

-- the free lanes of a port
abbrev pub free_lanes : Seat → ℕ → List ℕ
free_lanes x port = option_map_or (λ d. d.free_lanes) (find (λ d. d.port == port) x.desks) []

-- how many messages of a way are handles
abbrev pub count_on : Seat → Way → ℕ
count_on x w = option_map_or (λ b. b.count) (find (λ b. same_way b.way w) x.borrowed) 0

-- What the machine has fixed, as far as the node's own calls ask it: the handles, counts and
-- forgotten ones are the node's, no handler is set and nothing is expired.
abbrev pub known : Setting → Seat → Fixed
known p x = record {
  limits = p.limits;
  acts = λ words sender receiver. FollowBackpressureStrategy;
  on_wire = true;
  ports = map p.port p.layout.sizes.ports;
  ports_made = 0;
  handles = λ node. map (told_handle p x.node) x.table;
  next_number = p.next_number;
  handles_made = λ node. x.handles_made;
  calls = 0;
  loans = loans_at x;
  borrowed = count_on x;
  expired = λ port. [];
  forgot = λ node. x.forgot;
}

-- a send, as the node knows it
abbrev pub sending : Setting → Seat → Delivery → Sending
sending p x d = sending_of (known p x) (told_handle p x.node d.loan) d.copied d.to
