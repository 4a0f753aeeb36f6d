-- The sends of loans, and hints, as whole calls. Where a loan ends, the machine's `released` comes
-- last: it disconnects the port if nothing of it is left.
use Rattle.std.specs.Prelude.{◌≡◌, ℕ, ◌<◌, ◌^◌, true, false, [], ◌∷◌, length, Option, Some, None}
use Rattle.std.specs.Option.{option_map_or}
use Rattle.iox_model.specs.declared.kind.Kind.TheVariants.{PendingResponse, RequestMut, ResponseMut}
use Rattle.iox_model.specs.declared.kind.Role.TheVariants.{Client, Server}
use Rattle.iox_model.specs.declared.reply.Refusal.TheVariants.{ExceedsMaxActiveRequests, UnableToDeliver}
use Rattle.iox_model.specs.declared.reply.Reply.TheVariants.{Done, Refused, Sent}
use Rattle.iox_model.specs.declared.way.Way.{Way}
use Rattle.iox_model.specs.declared.way.RequestState.TheVariants.{Closed}
use Rattle.iox_model.specs.Commands.{Reply}
use Rattle.iox_model.specs.Counts.{called, with_fixed}
use Rattle.iox_model.specs.Doings.{Sending}
use Rattle.iox_model.specs.Expiries.{released}
use Rattle.iox_model.specs.Messages.{hinted_for}
use Rattle.iox_model.specs.Requests.{is_active_spent, sending_of, targets}
use Rattle.iox_model.specs.States.{State}
use Rattle.iox_laws.specs.CallFunctions.Looks.{hint_set_by}
use Rattle.iox_laws.specs.CallFunctions.LoanSends.{loan_sent_by}
use Rattle.iox_laws.specs.CallFunctions.Responses.{is_awaited}
use Rattle.iox_tables.specs.HubStates.Tables.{HandleState, HubTables}
use Rattle.iox_tables.specs.HubStates.Ways.{state_on}
use Rattle.iox_tables.specs.HubStates.States.{Given, fixed_of, state_shown}
use Rattle.iox_tables.specs.HubStates.Changes.{with_states}
use Rattle.iox_tables.specs.HubStates.Ends.{with_call, with_changed, with_dropped}
use Rattle.iox_tables.specs.HubStates.Releases.{handle_shown, pending_states, request_of}
use Rattle.iox_tables.specs.HubStates.Sends.{MaySendFrom, sent_count, with_pushed, with_sent}
use Rattle.iox_tables.specs.HubStates.Steps.{is_there}
use Rattle.iox_tables.specs.HubStates.Wirings.{IsHandle, numbers_of_role, role_in}

-- ---- requests

-- the send of a loaned request to all servers
abbrev pub request_sending : Given → HubTables → HandleState → Sending
request_sending x t h =
    sending_of (fixed_of x t) (handle_shown x t h) false (numbers_of_role Server t.ports)

-- the pending response that a sent loan becomes
abbrev pub pending_of : HandleState → ℕ → HandleState
pending_of h count = record h { kind = PendingResponse; connections = count }

-- the reply and the state once the request is delivered to so many, or the send fails
abbrev pub request_sent :
    Given → HubTables → ℕ → ℕ → HandleState → Option ℕ → Reply × State
request_sent x t node n h (Some count) =
    (Sent count, state_shown x (with_call (with_changed t (pending_of h count))))
request_sent x t node n h None =
    (Refused UnableToDeliver, released (state_shown x (with_dropped t node n)) h.port)

-- The number names a loaned request that is filled, of a client that may send one more.
pub record IsRequestToSend (t : HubTables) (node n : ℕ) (h : HandleState) : Type 0 where
  pub named : IsHandle t node n h
  pub kind : h.kind ≡ RequestMut
  pub client : role_in t.ports h.port ≡ Client
  pub calls : t.calls < 2 ^ 56

-- A client with as many pending responses as it may have is refused, and the loan is gone.
abbrev pub SpentRequestsAreRefused : Type 0
SpentRequestsAreRefused =
    (x : Given) (t : HubTables) (node n : ℕ) (h : HandleState) → IsRequestToSend t node n h
    → is_active_spent (fixed_of x t) (handle_shown x t h) ≡ true
    → loan_sent_by (state_shown x t) node n
    ≡ (
      Refused ExceedsMaxActiveRequests,
      released (state_shown x (with_dropped t node n)) h.port,
    )

-- A request is sent without overflow.
abbrev pub RequestsAreSent : Type 0
RequestsAreSent =
    (x : Given) (t : HubTables) (node n : ℕ) (h : HandleState) → IsRequestToSend t node n h
    → is_active_spent (fixed_of x t) (handle_shown x t h) ≡ false
    → t.settings.request_overflow ≡ false
    → MaySendFrom x t (request_sending x t h) h.pool h.slot
    → loan_sent_by (state_shown x t) node n
    ≡ request_sent x (with_sent t (request_sending x t h) h.slot) node n h
    (sent_count t (request_sending x t h))

-- A request is sent with overflow.
abbrev pub RequestsAreSentOver : Type 0
RequestsAreSentOver =
    (x : Given) (t : HubTables) (node n : ℕ) (h : HandleState) → IsRequestToSend t node n h
    → is_active_spent (fixed_of x t) (handle_shown x t h) ≡ false
    → t.settings.request_overflow ≡ true
    → MaySendFrom x t (request_sending x t h) h.pool h.slot
    → loan_sent_by (state_shown x t) node n
    ≡ request_sent x (with_pushed t (request_sending x t h) h.slot) node n h
    (Some (length (targets (request_sending x t h))))

-- ---- responses

-- the send of a loaned response to its client
abbrev pub response_sending : Given → HubTables → HandleState → Sending
response_sending x t h =
    sending_of (fixed_of x t) (handle_shown x t h) false (h.client ∷ [])

-- the state with one more call counted
abbrev pub counted : State → State
counted s = with_fixed s (called s.fixed)

-- the reply and the state once the response is delivered, or the send fails
abbrev pub response_sent :
    Given → HubTables → ℕ → ℕ → HandleState → Option ℕ → Reply × State
response_sent x t node n h (Some count) =
    (Done, counted (released (state_shown x (with_dropped t node n)) h.port))
response_sent x t node n h None =
    (Refused UnableToDeliver, released (state_shown x (with_dropped t node n)) h.port)

-- The number names a loaned response that is filled.
pub record IsResponseToSend (t : HubTables) (node n : ℕ) (h : HandleState) : Type 0 where
  pub named : IsHandle t node n h
  pub kind : h.kind ≡ ResponseMut
  pub server : role_in t.ports h.port ≡ Server
  pub calls : t.calls < 2 ^ 56

-- A response that nobody awaits goes to nobody.
abbrev pub UnawaitedGoToNobody : Type 0
UnawaitedGoToNobody =
    (x : Given) (t : HubTables) (node n : ℕ) (h : HandleState) → IsResponseToSend t node n h
    → is_awaited (state_shown x t) (handle_shown x t h) ≡ false
    → loan_sent_by (state_shown x t) node n ≡ response_sent x t node n h (Some 0)

-- A response is sent without overflow.
abbrev pub ResponsesAreSent : Type 0
ResponsesAreSent =
    (x : Given) (t : HubTables) (node n : ℕ) (h : HandleState) → IsResponseToSend t node n h
    → is_awaited (state_shown x t) (handle_shown x t h) ≡ true
    → t.settings.response_overflow ≡ false
    → MaySendFrom x t (response_sending x t h) h.pool h.slot
    → loan_sent_by (state_shown x t) node n
    ≡ response_sent x (with_sent t (response_sending x t h) h.slot) node n h
    (sent_count t (response_sending x t h))

-- A response is sent with overflow.
abbrev pub ResponsesAreSentOver : Type 0
ResponsesAreSentOver =
    (x : Given) (t : HubTables) (node n : ℕ) (h : HandleState) → IsResponseToSend t node n h
    → is_awaited (state_shown x t) (handle_shown x t h) ≡ true
    → t.settings.response_overflow ≡ true
    → MaySendFrom x t (response_sending x t h) h.pool h.slot
    → loan_sent_by (state_shown x t) node n
    ≡ response_sent x (with_pushed t (response_sending x t h) h.slot) node n h
    (Some (length (targets (response_sending x t h))))

-- ---- request states

-- The request state of a way whose client is connected is that of its lane.
abbrev pub StatesAreShown : Type 0
StatesAreShown =
    (x : Given) (t : HubTables) (w : Way) → is_there t.ports w.receiver ≡ true
    → (state_shown x t).request_state w ≡ option_map_or (λ r. r) (state_on t.ports w) Closed

-- A hint of a pending response is given with each server.
abbrev pub HintsAreGiven : Type 0
HintsAreGiven =
    (x : Given) (t : HubTables) (node n : ℕ) (h : HandleState) → IsHandle t node n h
    → h.kind ≡ PendingResponse
    → hint_set_by (state_shown x t) node n
    ≡ (
      Done,
      state_shown x (with_states (λ r. hinted_for r (request_of t h)) t (pending_states t h)),
    )
