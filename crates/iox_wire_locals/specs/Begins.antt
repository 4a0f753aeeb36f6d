-- How a node begins a call: what its own tables say of it, and where it is then.
use Rattle.std.specs.Prelude.{ℕ, Bool, true, false, if◌then◌else◌, ◌==◌, List, [], ◌∷◌, Option, Some, None}
use Rattle.iox_model.specs.declared.call.Call.TheVariants.{Loan, Write, Send, SendCopy, Receive, Read, Release, IsConnected, SetHint, HasHint, HasRequests, HasResponse}
use Rattle.iox_model.specs.declared.call.WireCall.TheVariants as wire_calls
use Rattle.iox_model.specs.declared.kind.Role.TheVariants.{Client, Server}
use Rattle.iox_model.specs.declared.reply.Refusal.TheVariants.{Busy}
use Rattle.iox_model.specs.declared.way.Way.{Way}
use Rattle.iox_model.specs.Commands.{Refusal, Call, WireCall, number_of}
use Rattle.iox_model.specs.Maps.{or_else, refused_if}
use Rattle.iox_model.specs.Names.{misnamed}
use Rattle.iox_model.specs.Peers.{port_at}
use Rattle.iox_model.specs.Receives.{server_ways, pending_ways}
use Rattle.iox_model.specs.States.{Port}
use Rattle.iox_wire_locals.specs.declared.table.Entry.{Entry}
use Rattle.iox_wire_locals.specs.declared.local.Visit.{Visit}
use Rattle.iox_wire_locals.specs.declared.local.CallRefusal.TheVariants.{UnknownNumber, WrongKind, WrongLength}
use Rattle.iox_wire_locals.specs.declared.local.Ending.TheVariants as endings
use Rattle.iox_wire_locals.specs.declared.local.Local.{Local}
use Rattle.iox_wire_locals.specs.declared.local.Local.TheVariants.{Idle, Writes, Reads}
use Rattle.iox_wire_locals.specs.declared.seat.Seat.{Seat}
use Rattle.iox_wire_locals.specs.Tables.{Setting, words_to_read, entry_at}
use Rattle.iox_wire_locals.specs.Known.{told_handle, known}
use Rattle.iox_wire_locals.specs.Courses.{placed, ended, sends}
use Rattle.iox_wire_locals.specs.ReceiveCourses.{visiting, seeking, states_for, releasing, checking, hinting}
use Rattle.iox_wire_locals.specs.Lendings.{lends_request, lends_response, copies_request, copies_response}

-- ---- receives

-- who receives: a server
abbrev pub server_visit : Port → Visit
server_visit q = record { port = q.number; role = Server; lane = 0; request = 0 }

-- and a pending response, by its entry
abbrev pub pending_visit : Entry → Visit
pending_visit e = record { port = e.port; role = Client; lane = e.lane; request = e.request }

-- the ways that a pending response visits
abbrev pub ways_for : Setting → Seat → Entry → List Way
ways_for p x e = pending_ways (known p x) (told_handle p x.node e)

-- ---- words

-- the words are stored one after another; where there are none, there is nothing to do
abbrev pub writing : Seat → Entry → List ℕ → Seat
writing x e [] = ended x (endings.Fills e [])
writing x e (word ∷ words) = placed x (Writes e (word ∷ words) 0)

-- a write: refused unless the payload is of whole elements, as many as the loan has
abbrev pub writes : Seat → Entry → Option ℕ → List ℕ → Seat
writes x e None words = ended x (endings.Refuses WrongLength)
writes x e (Some k) words =
    if k == e.elements then writing x e words else ended x (endings.Refuses WrongLength)

-- the words are loaded one after another; where there are none, there is nothing to do
abbrev pub reads : Setting → Seat → Entry → Seat
reads p x e =
    if words_to_read p e == 0 then ended x (endings.Words []) else placed x (Reads e [])

-- ---- what a call names

-- how a call of one of its ports begins
abbrev pub begins_at_port : Setting → Seat → Call → Port → Seat
begins_at_port p x (Loan n k) q = lends_request p x q k [] false
begins_at_port p x (SendCopy n y) q = copies_request p x q y.elements y.words
begins_at_port p x (Receive n) q = visiting p x (server_visit q) (server_ways (known p x) q) false
begins_at_port p x (HasRequests n) q = seeking x (server_ways (known p x) q)
begins_at_port p x call q = ended x (endings.Refuses WrongKind)

-- how a call of one of its handles begins
abbrev pub begins_at_entry : Setting → Seat → Call → Entry → Seat
begins_at_entry p x (Loan n k) e = lends_response p x e k [] false
begins_at_entry p x (Write n y) e = writes x e y.elements y.words
begins_at_entry p x (Send n) e = sends p x e false
begins_at_entry p x (SendCopy n y) e = copies_response p x e y.elements y.words
begins_at_entry p x (Receive n) e = visiting p x (pending_visit e) (ways_for p x e) false
begins_at_entry p x (Read n) e = reads p x e
begins_at_entry p x (Release n) e = releasing p x e
begins_at_entry p x (IsConnected n) e = checking x e false (states_for p x e)
begins_at_entry p x (SetHint n) e = hinting x e (states_for p x e)
begins_at_entry p x (HasHint n) e = checking x e true (states_for p x e)
begins_at_entry p x (HasResponse n) e = seeking x (ways_for p x e)
begins_at_entry p x call e = ended x (endings.Refuses WrongKind)

-- a port's number is no handle's
abbrev pub begins_at : Setting → Seat → Call → Option Port → Option Entry → Seat
begins_at p x call (Some q) e = begins_at_port p x call q
begins_at p x call None (Some e) = begins_at_entry p x call e
begins_at p x call None None = ended x (endings.Refuses UnknownNumber)

-- ---- the begin

-- whether a call of the node is under way
abbrev pub is_busy : Local → Bool
is_busy Idle = false
is_busy local = true

-- what the call names, as far as the node's own tables tell
abbrev pub misnamed_call : Setting → Seat → WireCall → Option Refusal
misnamed_call p x (wire_calls.Port call) = misnamed (known p x) x.node call
misnamed_call p x (wire_calls.Forget dead) = None

-- why the node does not begin the call
abbrev pub refusal_at : Setting → Seat → WireCall → Option Refusal
refusal_at p x call = or_else (refused_if (is_busy x.local) Busy) (misnamed_call p x call)

-- The node as it begins a call that is not refused.
abbrev pub begin : Setting → Seat → WireCall → Seat
begin p x (wire_calls.Port call) =
    begins_at p x call (port_at (known p x) (number_of call)) (entry_at (number_of call) x.table)
begin p x (wire_calls.Forget dead) = ended x (endings.Forgets dead)
