-- A call that a node begins from its own tables is the call that the machine begins.
use Rattle.std.specs.Prelude.{◌≡◌, ℕ, true, ◌==◌, [], ◌++◌, Some}
use Rattle.iox_model.specs.declared.call.Call.TheVariants.{Loan, LoanUninit, SendCopy, Receive, HasRequests}
use Rattle.iox_model.specs.Begins as begins
use Rattle.iox_model.specs.Commands.{Call}
use Rattle.iox_model.specs.Handles.{ThePort, TheHandle}
use Rattle.iox_model.specs.Loans.{Choice}
use Rattle.iox_model.specs.Maps.{is_empty}
use Rattle.iox_model.specs.Outstandings.{kept, is_dry}
use Rattle.iox_model.specs.Peers.{port_at}
use Rattle.iox_model.specs.States.{Port, State}
use Rattle.iox_model.specs.WholeCalls.{replied}
use Rattle.iox_wire_moments.specs.MomentsOf.{Pools}
use Rattle.iox_wire_locals.specs.declared.table.Entry.{Entry}
use Rattle.iox_wire_locals.specs.declared.local.Ending.{Ending}
use Rattle.iox_wire_locals.specs.declared.seat.Seat.{Seat}
use Rattle.iox_wire_locals.specs.Tables.{Setting, handle_of, words_to_read}
use Rattle.iox_wire_locals.specs.Known.{loans_at, free_slots, free_lanes}
use Rattle.iox_wire_locals.specs.Lendings.{first_lane}
use Rattle.iox_wire_locals.specs.Begins.{begins_at_port, begins_at_entry}
use Rattle.iox_wire_locals.specs.Doings.{outcome_of}
use Rattle.iox_wire_locals.specs.Settlements.{reply_of}
use Rattle.iox_wire_locals.specs.Knowing.{Knows, StandsFor}

-- What a node has counted is so, on an open wire, where nothing is expired.
pub record Counts (p : Setting) (x : Seat) (s : State) (held : Pools) : Type 0 where
  pub knows : Knows p x s.fixed held
  pub on_wire : s.fixed.on_wire ≡ true
  pub next_number : s.fixed.next_number ≡ p.next_number
  pub handles_made : s.fixed.handles_made x.node ≡ x.handles_made
  pub expired : (port : ℕ) → s.fixed.expired port ≡ []

-- A port of the node: the machine has it, its desk counts its loans, and its pool has no message
-- left exactly if no slot is free.
pub record IsOwnPort (p : Setting) (x : Seat) (s : State) (q : Port) : Type 0 where
  pub there : port_at s.fixed q.number ≡ Some q
  pub set : p.port q.number ≡ q
  pub mine : q.node ≡ x.node
  pub loans : s.fixed.loans q.number ≡ loans_at x q.number
  pub pool : is_dry s.fixed q.number (kept s q.number []) ≡ is_empty (free_slots x q.number)

-- An entry of the node: its port is the node's, and its message is as long as it says.
pub record IsOwnEntry (p : Setting) (x : Seat) (s : State) (held : Pools) (e : Entry) : Type 0 where
  pub port : IsOwnPort p x s (p.port e.port)
  pub number : (p.port e.port).number ≡ e.port
  pub elements : (held e.sender e.slot).elements ≡ e.elements
  pub words : (words_to_read p e == 0) ≡ true
      → (held e.sender e.slot).user ++ (held e.sender e.slot).payload ≡ []

-- the calls that a port has on a wire
abbrev pub IsOfPort : Call → Type 0
IsOfPort (Loan n k) = Unit {0}
IsOfPort (SendCopy n y) = Unit {0}
IsOfPort (Receive n) = Unit {0}
IsOfPort (HasRequests n) = Unit {0}
IsOfPort call = ⊥

-- the calls of a wire
abbrev pub IsOfWire : Call → Type 0
IsOfWire (LoanUninit n k) = ⊥
IsOfWire call = Unit {0}

-- A call of a port begins as in the machine: a loan is given the first free lane.
abbrev pub PortsBegin : Type 0
PortsBegin =
    (p : Setting) (x : Seat) (s : State) (held : Pools) (c : Choice) (q : Port) (call : Call)
    → Counts p x s held → IsOwnPort p x s q → IsOfPort call
    → c.memory ≡ true → c.lane ≡ first_lane q.pool (free_lanes x q.number)
    → StandsFor p s.fixed held x.node (begins_at_port p x call q)
    (begins.begins_at s c call (ThePort q))

-- So does a call of a handle.
abbrev pub HandlesBegin : Type 0
HandlesBegin =
    (p : Setting) (x : Seat) (s : State) (held : Pools) (c : Choice) (e : Entry) (call : Call)
    → Counts p x s held → IsOwnEntry p x s held e → IsOfWire call → c.memory ≡ true
    → StandsFor p s.fixed held x.node (begins_at_entry p x call e)
    (begins.begins_at s c call (TheHandle (handle_of held x.node e)))

-- And a call that ends answers what the machine answers.
abbrev pub RepliesAreTheMachines : Type 0
RepliesAreTheMachines =
    (p : Setting) (x : Seat) (s : State) (held : Pools) (ending : Ending) → Counts p x s held
    → reply_of p x ending ≡ replied s.fixed x.node (outcome_of p held x.node ending)
