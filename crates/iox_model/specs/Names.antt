-- What a call must name.
use Rattle.std.specs.Prelude.{ℕ, Bool, not, ◌&&◌, ◌||◌, if◌then◌else◌, ◌==◌, Option, Some, None}
use Rattle.iox_model.specs.declared.kind.Kind.{Kind}
use Rattle.iox_model.specs.declared.kind.Kind.TheVariants.{RequestMutUninit, RequestMut, ResponseMutUninit, ResponseMut, PendingResponse, ActiveRequest}
use Rattle.iox_model.specs.declared.kind.Kind.TheVariants as kinds
use Rattle.iox_model.specs.declared.call.Call.TheVariants.{Loan, LoanUninit, Write, Send, SendCopy, Receive, Read, Release, IsConnected, SetHint, HasHint, HasRequests, HasResponse}
use Rattle.iox_model.specs.declared.reply.Refusal.TheVariants.{UnknownNumber, ForeignNumber, WrongKind}
use Rattle.iox_model.specs.Settings.{is_client}
use Rattle.iox_model.specs.States.{Fixed}
use Rattle.iox_model.specs.Handles.{same_kind, is_request_loan, is_response_loan, subject, kind_of, node_of, is_elsewhere, Subject}
use Rattle.iox_model.specs.Maps.{or_else, refused_if}
use Rattle.iox_model.specs.Commands.{Refusal, Call, number_of}

-- whether the kind is a client or a server
abbrev pub is_port : Kind → Bool
is_port k = same_kind k kinds.Client || same_kind k kinds.Server

-- which kinds of ports and handles a call may be made of; ports are released only where no wire is
-- open
abbrev pub suits : Bool → Call → Kind → Bool
suits on_wire (Loan n k) x = same_kind x kinds.Client || same_kind x ActiveRequest
suits on_wire (LoanUninit n k) x =
    not on_wire && (same_kind x kinds.Client || same_kind x ActiveRequest)
suits on_wire (Write n p) x = if is_client p.role then is_request_loan x else is_response_loan x
suits on_wire (Send n) x = same_kind x RequestMut || same_kind x ResponseMut
suits on_wire (SendCopy n p) x =
    if is_client p.role then same_kind x kinds.Client else same_kind x ActiveRequest
suits on_wire (Receive n) x = same_kind x kinds.Server || same_kind x PendingResponse
suits on_wire (Read n) x =
    not (is_port x || (same_kind x RequestMutUninit || same_kind x ResponseMutUninit))
suits on_wire (Release n) x = not (on_wire && is_port x)
suits on_wire (IsConnected n) x = same_kind x PendingResponse || same_kind x ActiveRequest
suits on_wire (SetHint n) x = same_kind x PendingResponse
suits on_wire (HasHint n) x = same_kind x ActiveRequest
suits on_wire (HasRequests n) x = same_kind x kinds.Server
suits on_wire (HasResponse n) x = same_kind x PendingResponse

-- why a call may not be made of what its number names
abbrev pub misnamed_by : Fixed → ℕ → Call → Option Subject → Option Refusal
misnamed_by f node call None =
    Some (if is_elsewhere f (number_of call) then ForeignNumber else UnknownNumber)
misnamed_by f node call (Some x) =
    or_else (refused_if (not (node_of x == node)) ForeignNumber)
    (refused_if (not (suits f.on_wire call (kind_of x))) WrongKind)

-- why a call's number is refused: the first of UnknownNumber, ForeignNumber and WrongKind that
-- applies
abbrev pub misnamed : Fixed → ℕ → Call → Option Refusal
misnamed f node call = misnamed_by f node call (subject f node (number_of call))
