-- What releases and sends leave of the tables of a hub, with the disconnection that may follow.
use Rattle.std.specs.Prelude.{◌≡◌, ℕ, true, false, length, Option, Some, None}
use Rattle.iox_model.specs.declared.kind.Kind.TheVariants.{ActiveRequest, PendingResponse, Response}
use Rattle.iox_model.specs.declared.reply.Refusal.TheVariants.{ExceedsMaxActiveRequests, UnableToDeliver}
use Rattle.iox_model.specs.declared.reply.Reply.TheVariants.{Done, Refused, Sent}
use Rattle.iox_model.specs.Commands.{Reply}
use Rattle.iox_model.specs.Handles.{is_received, own_state, same_kind, way_of}
use Rattle.iox_model.specs.Maps.{AreDistinct}
use Rattle.iox_model.specs.Requests.{is_active_spent, targets}
use Rattle.iox_model.specs.States.{State}
use Rattle.iox_laws.specs.CallFunctions.LoanSends.{loan_sent_by}
use Rattle.iox_laws.specs.CallFunctions.Releases.{released_by}
use Rattle.iox_laws.specs.CallFunctions.Responses.{is_awaited}
use Rattle.iox_tables.specs.HubStates.Tables.{HandleState, HubTables, PortState, numbers_of, port_in}
use Rattle.iox_tables.specs.HubStates.States.{Given, fixed_of, state_shown}
use Rattle.iox_tables.specs.HubStates.Ends.{with_call, with_changed, with_dropped}
use Rattle.iox_tables.specs.HubStates.Releases.{IsHeldOn, handle_shown, with_given_back, with_pending_released, with_request_closed, with_value_released}
use Rattle.iox_tables.specs.HubStates.Sendings.{IsRequestToSend, IsResponseToSend, pending_of, request_sending, response_sending}
use Rattle.iox_tables.specs.HubStates.Sends.{MaySendFrom, sent_count, with_pushed, with_sent}
use Rattle.iox_tables.specs.HubStates.Wirings.{IsHandle}
use Rattle.iox_tables.specs.HubMaking.Disconnections.{MayGo, with_released}

-- a reply, and the state that tables show
abbrev pub answering : Given → Reply × HubTables → Reply × State
answering x v = (v.0, state_shown x v.1)

-- ---- releases

-- The release of a loan is the machine's, with the disconnection that may follow.
abbrev pub LoansEnd : Type 0
LoansEnd =
    (x : Given) (t : HubTables) (node n : ℕ) (h : HandleState) → IsHandle t node n h
    → is_received h.kind ≡ false → same_kind h.kind PendingResponse ≡ false → MayGo t h.port
    → released_by (state_shown x t) node n
    ≡ answering x (Done, with_released (with_dropped t node n) h.port)

-- So is the release of a pending response, which closes its request.
abbrev pub PendingsEnd : Type 0
PendingsEnd =
    (x : Given) (t : HubTables) (node n : ℕ) (h : HandleState) → IsHandle t node n h
    → h.kind ≡ PendingResponse → MayGo t h.port
    → released_by (state_shown x t) node n
    ≡ answering x (Done, with_released (with_pending_released t node n h) h.port)

-- So is the release of a response, which is given back.
abbrev pub ResponsesEnd : Type 0
ResponsesEnd =
    (x : Given) (t : HubTables) (node n : ℕ) (h : HandleState) → IsHandle t node n h
    → h.kind ≡ Response → IsHeldOn t (way_of (handle_shown x t h)) h → MayGo t h.port
    → released_by (state_shown x t) node n
    ≡ answering x (
      Done,
      with_released
          (with_dropped (with_given_back t (way_of (handle_shown x t h)) h) node n)
          h.port,
    )

-- So is the release of an active request, which is given back and closed.
abbrev pub RequestsEnd : Type 0
RequestsEnd =
    (x : Given) (t : HubTables) (node n : ℕ) (h : HandleState) → IsHandle t node n h
    → h.kind ≡ ActiveRequest → IsHeldOn t (way_of (handle_shown x t h)) h → MayGo t h.port
    → released_by (state_shown x t) node n
    ≡ answering x (
      Done,
      with_released
          (with_dropped
          (with_request_closed t (way_of (handle_shown x t h)) (own_state (handle_shown x t h)) h)
          node n)
          h.port,
    )

-- So is the release of a port's own value.
abbrev pub PortsEnd : Type 0
PortsEnd =
    (x : Given) (t : HubTables) (node n : ℕ) (p : PortState) → port_in t.ports n ≡ Some p
    → p.node ≡ node → p.held ≡ true → AreDistinct (numbers_of t.ports) → MayGo t n
    → released_by (state_shown x t) node n
    ≡ answering x (Done, with_released (with_value_released t n) n)

-- ---- sends of requests

-- the reply and the tables once the request is delivered to so many, or the send fails
abbrev pub request_left :
    HubTables → ℕ → ℕ → HandleState → Option ℕ → Reply × HubTables
request_left t node n h (Some count) =
    (Sent count, with_call (with_changed t (pending_of h count)))
request_left t node n h None =
    (Refused UnableToDeliver, with_released (with_dropped t node n) h.port)

-- A client with as many pending responses as it may have is refused, and the loan is gone.
abbrev pub SpentRequestsEnd : Type 0
SpentRequestsEnd =
    (x : Given) (t : HubTables) (node n : ℕ) (h : HandleState) → IsRequestToSend t node n h
    → is_active_spent (fixed_of x t) (handle_shown x t h) ≡ true → MayGo t h.port
    → loan_sent_by (state_shown x t) node n
    ≡ answering x
    (Refused ExceedsMaxActiveRequests, with_released (with_dropped t node n) h.port)

-- The send of a request without overflow is the machine's, with the disconnection that may follow.
abbrev pub RequestSendsEnd : Type 0
RequestSendsEnd =
    (x : Given) (t : HubTables) (node n : ℕ) (h : HandleState) → IsRequestToSend t node n h
    → is_active_spent (fixed_of x t) (handle_shown x t h) ≡ false
    → t.settings.request_overflow ≡ false
    → MaySendFrom x t (request_sending x t h) h.pool h.slot → MayGo t h.port
    → loan_sent_by (state_shown x t) node n
    ≡ answering x
    (request_left (with_sent t (request_sending x t h) h.slot) node n h
    (sent_count t (request_sending x t h)))

-- So is the send of a request with overflow.
abbrev pub RequestSendsOverEnd : Type 0
RequestSendsOverEnd =
    (x : Given) (t : HubTables) (node n : ℕ) (h : HandleState) → IsRequestToSend t node n h
    → is_active_spent (fixed_of x t) (handle_shown x t h) ≡ false
    → t.settings.request_overflow ≡ true
    → MaySendFrom x t (request_sending x t h) h.pool h.slot
    → loan_sent_by (state_shown x t) node n
    ≡ answering x
    (request_left (with_pushed t (request_sending x t h) h.slot) node n h
    (Some (length (targets (request_sending x t h)))))

-- ---- sends of responses

-- the reply and the tables once the response is delivered, or the send fails
abbrev pub response_left :
    HubTables → ℕ → ℕ → HandleState → Option ℕ → Reply × HubTables
response_left t node n h (Some count) =
    (Done, with_call (with_released (with_dropped t node n) h.port))
response_left t node n h None =
    (Refused UnableToDeliver, with_released (with_dropped t node n) h.port)

-- So is the send of a response that nobody awaits.
abbrev pub UnawaitedEnd : Type 0
UnawaitedEnd =
    (x : Given) (t : HubTables) (node n : ℕ) (h : HandleState) → IsResponseToSend t node n h
    → is_awaited (state_shown x t) (handle_shown x t h) ≡ false → MayGo t h.port
    → loan_sent_by (state_shown x t) node n ≡ answering x (response_left t node n h (Some 0))

-- So is the send of a response without overflow.
abbrev pub ResponseSendsEnd : Type 0
ResponseSendsEnd =
    (x : Given) (t : HubTables) (node n : ℕ) (h : HandleState) → IsResponseToSend t node n h
    → is_awaited (state_shown x t) (handle_shown x t h) ≡ true
    → t.settings.response_overflow ≡ false
    → MaySendFrom x t (response_sending x t h) h.pool h.slot → MayGo t h.port
    → loan_sent_by (state_shown x t) node n
    ≡ answering x
    (response_left (with_sent t (response_sending x t h) h.slot) node n h
    (sent_count t (response_sending x t h)))

-- So is the send of a response with overflow.
abbrev pub ResponseSendsOverEnd : Type 0
ResponseSendsOverEnd =
    (x : Given) (t : HubTables) (node n : ℕ) (h : HandleState) → IsResponseToSend t node n h
    → is_awaited (state_shown x t) (handle_shown x t h) ≡ true
    → t.settings.response_overflow ≡ true
    → MaySendFrom x t (response_sending x t h) h.pool h.slot → MayGo t h.port
    → loan_sent_by (state_shown x t) node n
    ≡ answering x
    (response_left (with_pushed t (response_sending x t h) h.slot) node n h
    (Some (length (targets (response_sending x t h)))))
