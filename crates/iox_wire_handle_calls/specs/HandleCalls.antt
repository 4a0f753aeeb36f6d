-- The calls of a port or a handle, why they do not begin, and how a node begins them.
use Rattle.std.specs.Prelude.{◌≡◌, ℕ, List, Option, Some, None}
use Rattle.std.specs.Option.{option_map_or}
use Rattle.iox_model.specs.declared.call.Call.TheVariants as calls
use Rattle.iox_model.specs.declared.call.WireCall.TheVariants.{Port}
use Rattle.iox_model.specs.declared.kind.Kind.{Kind}
use Rattle.iox_model.specs.declared.kind.Kind.TheVariants as kinds
use Rattle.iox_model.specs.declared.kind.Role.{Role}
use Rattle.iox_model.specs.declared.kind.Role.TheVariants.{Client, Server}
use Rattle.iox_model.specs.declared.reply.Refusal.TheVariants as refusals
use Rattle.iox_model.specs.Commands.{Call, Payload, Refusal, WireCall}
use Rattle.iox_model.specs.Settings.{shape_of}
use Rattle.iox_model.specs.WireCalls.{elements_for}
use Rattle.iox_wire_stops.specs.Begins.{begin, refusal_at}
use Rattle.iox_wire_stops.specs.Tables.{Setting, entry_at}
use Rattle.iox_wire_stops.specs.Aims.{IsAimed}
use Rattle.iox_wire_stops.specs.Seat.{Seat}
use Rattle.iox_wire_stops.specs.Seats.{Placed}
use Rattle.iox_wire_handle_calls.specs.declared.asked.Asked.{Asked}
use Rattle.iox_wire_handle_calls.specs.declared.asked.Asked.TheVariants as asked
use Rattle.iox_wire_handle_calls.specs.declared.error.BeginError.{BeginError}
use Rattle.iox_wire_handle_calls.specs.declared.error.BeginError.TheVariants as errors

-- ---- the calls

-- the call of that number, with that payload if it is a write or a copy
abbrev pub call_of : Asked → ℕ → Payload → Call
call_of (asked.Loan k) n y = calls.Loan n k
call_of (asked.LoanUninit k) n y = calls.LoanUninit n k
call_of (asked.SendCopy role) n y = calls.SendCopy n y
call_of (asked.Write role) n y = calls.Write n y
call_of asked.Send n y = calls.Send n
call_of asked.Receive n y = calls.Receive n
call_of asked.Read n y = calls.Read n
call_of asked.Release n y = calls.Release n
call_of asked.IsConnected n y = calls.IsConnected n
call_of asked.SetHint n y = calls.SetHint n
call_of asked.HasHint n y = calls.HasHint n
call_of asked.HasRequests n y = calls.HasRequests n
call_of asked.HasResponse n y = calls.HasResponse n

-- the kind of ports of a role
abbrev pub port_kind : Role → Kind
port_kind Client = kinds.Client
port_kind Server = kinds.Server

-- the payload is of that role, if the call is a write or a copy
abbrev pub HasRole : Asked → Payload → Type 0
HasRole (asked.Write role) y = y.role ≡ role
HasRole (asked.SendCopy role) y = y.role ≡ role
HasRole call y = Unit {0}

-- these words as the payload of the loan of that number, a request's or a response's by that role: they
-- are of all its elements, if there are just as many words
abbrev pub payload_for : Setting → Seat → ℕ → Role → List ℕ → Payload
payload_for p x n role words = record {
  role = role;
  elements = option_map_or (λ e. elements_for (shape_of p.limits role) e.elements words)
      (entry_at n x.table) None;
  words = words;
}

-- the write of that payload
abbrev pub write_of : Setting → Seat → ℕ → Role → List ℕ → WireCall
write_of p x n role words = Port (calls.Write n (payload_for p x n role words))

-- ---- how they begin

-- the machine's name of a refusal
abbrev pub refusal_in : BeginError → Option Refusal
refusal_in errors.Busy = Some refusals.Busy
refusal_in errors.UnknownNumber = Some refusals.UnknownNumber
refusal_in errors.ForeignNumber = Some refusals.ForeignNumber
refusal_in errors.WrongKind = Some refusals.WrongKind

-- The call is not refused: the node begins it, and knows the places of the words that it accesses.
pub record IsBegun (p : Setting) (x : Placed) (call : WireCall) (y : Placed) : Type 0 where
  pub allowed : refusal_at p x.seat call ≡ None
  pub begun : y.seat ≡ begin p x.seat call
  pub aimed : IsAimed p y
