-- How a node begins a call.
use Rattle.std.specs.Prelude.{◌≡◌, ◌+◌, ◌<◌, ◌^◌, ℕ, if◌then◌else◌, IfSome, List, None, Option, true}
use Rattle.std.specs.Option.{option_map_or}
use Rattle.iox_model.specs.declared.call.Call.TheVariants as calls
use Rattle.iox_model.specs.declared.call.WireCall.TheVariants.{Port}
use Rattle.iox_model.specs.declared.kind.Kind.{Kind}
use Rattle.iox_model.specs.declared.kind.Role.{Role}
use Rattle.iox_model.specs.declared.kind.Role.TheVariants.{Client, Server}
use Rattle.iox_model.specs.Commands.{Refusal, WireCall}
use Rattle.iox_model.specs.Handles.{is_request_loan}
use Rattle.iox_wire_begins.specs.WirePlan.{WirePlan}
use Rattle.iox_wire_begins.specs.HandleCalls.{refusal_in}
use Rattle.iox_wire_begins.specs.WirePlans.{HandleStands}
use Rattle.iox_wire_begins.specs.WireTerms.{WireTerms}
use Rattle.iox_wire_begins.specs.Entry.{Entry}
use Rattle.iox_wire_begins.specs.Seat.{Seat}
use Rattle.iox_wire_begins.specs.Lendings.{next_handle}
use Rattle.iox_wire_begins.specs.Aims.{KeepsRoom}
use Rattle.iox_wire_begins.specs.Lends.{MayLend}
use Rattle.iox_wire_begins.specs.Begins.{begin, is_busy, refusal_at}
use Rattle.iox_wire_begins.specs.Tables.{Setting, entry_at}
use Rattle.iox_wire_nodes.specs.declared.call_at.CallAt.{CallAt}
use Rattle.iox_wire_nodes.specs.declared.call_at.CallAt.TheVariants as at
use Rattle.iox_wire_nodes.specs.declared.node_error.NodeError.{NodeError}
use Rattle.iox_wire_nodes.specs.declared.node_error.NodeError.TheVariants as errors
use Rattle.iox_wire_nodes.specs.declared.handle_call.HandleCall.{HandleCall}
use Rattle.iox_wire_nodes.specs.Calls.{of_handle}
use Rattle.iox_wire_nodes.specs.Aims.{IsAimed, MayAdd, TellsOfPools}
use Rattle.iox_wire_nodes.specs.Nodes.{NodeView, seat_in}

-- the call of that number
abbrev pub called : HandleCall → ℕ → WireCall
called call n = Port (of_handle call n)

-- With a begin the node makes no access, and gets no handle. If it may have one handle more, with
-- its next number, it may add what the call adds at its end.
pub record BeginKeepsHandles (p : Setting) (old new : NodeView) : Type 0 where
  pub accesses : new.seat.seat.accesses ≡ old.seat.seat.accesses
  pub room : KeepsRoom old.seat new.seat
  pub may : ((port : ℕ) → MayLend old.seat (next_handle p old.seat.seat) port) → MayAdd new.at new

-- The call is not refused: the node begins it, and knows the places of the words that it accesses.
pub record IsBegun (p : Setting) (old : NodeView) (call : WireCall) (new : NodeView) : Type 0 where
  pub allowed : refusal_at p (seat_in old) call ≡ None
  pub begun : seat_in new ≡ begin p (seat_in old) call
  pub aimed : IsAimed p new
  pub ready : BeginKeepsHandles p old new

-- The same, where the call may have taken a slot already: if that is one of a pool, it knows the
-- places.
pub record IsUnderWay (p : Setting) (old : NodeView) (call : WireCall) (new : NodeView) : Type 0 where
  pub allowed : refusal_at p (seat_in old) call ≡ None
  pub begun : seat_in new ≡ begin p (seat_in old) call
  pub aimed : TellsOfPools p new.at (seat_in new).local → IsAimed p new
  pub ready : BeginKeepsHandles p old new

-- The node begins at that place of its call, and knows the places of the words that it accesses.
pub record IsAtOnce (p : Setting) (old : NodeView) (there : Seat) (new : NodeView) : Type 0 where
  pub begun : seat_in new ≡ there
  pub aimed : IsAimed p new
  pub ready : BeginKeepsHandles p old new

-- the call by which a loan of that kind is sent
abbrev pub send_at : Kind → CallAt
send_at kind = if is_request_loan kind then at.SendsRequest else at.SendsResponse

-- and by which what was found is, if that is a loan
abbrev pub sent_at : Option Entry → CallAt
sent_at found = option_map_or (λ e. send_at e.kind) found at.Seats

-- the call by which a message of that role is copied and sent
abbrev pub copy_at : Role → CallAt
copy_at Client = at.CopiesRequest
copy_at Server = at.CopiesResponse

-- Where a node with these handles keeps a call that it begins: each by its name, a send by the kind of
-- its loan, and a copy by the role of its payload.
abbrev pub begun_at : List Entry → WireCall → CallAt
begun_at table (Port (calls.Loan n k)) = at.Lends
begun_at table (Port (calls.LoanUninit n k)) = at.Lends
begun_at table (Port (calls.Send n)) = sent_at (entry_at n table)
begun_at table (Port (calls.SendCopy n y)) = copy_at y.role
begun_at table (Port (calls.Receive n)) = at.Receives
begun_at table call = at.Seats

-- ---- why no call begins

-- the machine's name of a refusal
abbrev pub node_refusal : NodeError → Option Refusal
node_refusal (errors.Begin error) = refusal_in error

-- ---- what a node may rely on as it begins a call

-- A number counts the node's handles, and each handle stands.
pub record MayBegin (plan : WirePlan) (t : WireTerms) (x : Seat) : Type 0 where
  pub next : t.first_number + x.handles_made < 2 ^ 64
  pub handles : (n : ℕ) → IfSome (entry_at n x.table) (HandleStands plan x.desks)
