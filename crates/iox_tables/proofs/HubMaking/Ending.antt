-- Releases and sends, with the disconnection that may follow.
use Rattle.std.specs.Prelude.{◌≡◌, ℕ, [], ◌∷◌, length, Option, Some, None, refl}
use Rattle.std.proofs.Common.{ap, ◌∙◌}
use Rattle.iox_model.specs.declared.reply.Refusal.TheVariants.{ExceedsMaxActiveRequests, UnableToDeliver}
use Rattle.iox_model.specs.declared.reply.Reply.TheVariants.{Done, Refused}
use Rattle.iox_model.specs.Commands.{Reply}
use Rattle.iox_model.specs.Expiries.{released}
use Rattle.iox_model.specs.Handles.{own_state, way_of}
use Rattle.iox_model.specs.Messages.{closed_for}
use Rattle.iox_model.specs.Requests.{targets}
use Rattle.iox_model.specs.States as m
use Rattle.iox_lanes.specs.Lanes as lanes
use Rattle.iox_tables.specs.HubStates.Tables.{HandleState, HubTables}
use Rattle.iox_tables.specs.HubStates.States.{Given, state_shown}
use Rattle.iox_tables.specs.HubStates.Changes.{with_states}
use Rattle.iox_tables.specs.HubStates.Ends.{dropped_handles, with_dropped}
use Rattle.iox_tables.specs.HubStates.Releases.{handle_shown, pending_states, request_of, with_given_back, with_request_closed, with_value_released}
use Rattle.iox_tables.specs.HubStates.Sendings.{counted, request_sending, request_sent, response_sending, response_sent}
use Rattle.iox_tables.specs.HubStates.Sends.{sent_count, with_pushed, with_sent}
use Rattle.iox_tables.proofs.HubStates.Holding.{ports_are_released}
use Rattle.iox_tables.proofs.HubStates.Releasing.{loans_are_released, pendings_are_released, requests_are_released, responses_are_released}
use Rattle.iox_tables.proofs.HubStates.Sending as sending
use Rattle.iox_tables.specs.HubMaking.Disconnections.{MayGo, with_released}
use Rattle.iox_tables.specs.HubMaking.WholeReleases.{LoansEnd, PendingsEnd, PortsEnd, RequestSendsEnd, RequestSendsOverEnd, RequestsEnd, ResponseSendsEnd, ResponseSendsOverEnd, ResponsesEnd, SpentRequestsEnd, UnawaitedEnd, answering, request_left, response_left}
use Rattle.iox_tables.proofs.HubMaking.Keeping.{of_handles, of_lanes, of_pushed, of_sent, of_states, of_value, release_bare}
use Rattle.iox_tables.proofs.HubMaking.Testing.{releases_are_shown}

-- what is released of tables where the port may go
released_is : (x : Given) (r : Reply) (t : HubTables) (n : ℕ) → MayGo t n
    → (r, released (state_shown x t) n) ≡ answering x (r, with_released t n)
released_is x r t n may = ap (λ (s : m.State). (r, s)) ((releases_are_shown x t n).does may)

module _ (x : Given) (t : HubTables) (node n port : ℕ) (may : MayGo t port) where
  -- the same once a handle is dropped
  dropped_is : (r : Reply) → (r, released (state_shown x (with_dropped t node n)) port) ≡ answering x (r, with_released (with_dropped t node n) port)
  dropped_is r = released_is x r (with_dropped t node n) port (of_handles t port may (dropped_handles node n t.handles))

module _ (x : Given) (t : HubTables) (node n : ℕ) (h : HandleState) (may : MayGo t h.port) where
  request_is : (o : Option ℕ) → request_sent x t node n h o ≡ answering x (request_left t node n h o)
  request_is (Some count) = refl
  request_is None = dropped_is x t node n h.port may (Refused UnableToDeliver)

  response_is : (o : Option ℕ) → response_sent x t node n h o ≡ answering x (response_left t node n h o)
  response_is (Some count) = ap (λ (v : Reply × m.State). (v.0, counted v.1)) (dropped_is x t node n h.port may Done)
  response_is None = dropped_is x t node n h.port may (Refused UnableToDeliver)

pub loans_end : LoansEnd
loans_end x t node n h is own sent may = loans_are_released x t node n h is own sent ∙ dropped_is x t node n h.port may Done

pub pendings_end : PendingsEnd
pendings_end x t node n h is kind may =
    pendings_are_released x t node n h is kind
    ∙ dropped_is x (with_states (λ r. closed_for r (request_of t h)) t (pending_states t h)) node n h.port
    (of_states t h.port may (λ r. closed_for r (request_of t h)) (pending_states t h)) Done

pub responses_end : ResponsesEnd
responses_end x t node n h is kind held may =
    responses_are_released x t node n h is kind held
    ∙ dropped_is x (with_given_back t (way_of (handle_shown x t h)) h) node n h.port
    (of_lanes t h.port may (λ l. lanes.released l h.slot) (release_bare h.slot) (way_of (handle_shown x t h) ∷ [])) Done

pub requests_end : RequestsEnd
requests_end x t node n h is kind held may =
    requests_are_released x t node n h is kind held
    ∙ dropped_is x (with_request_closed t (way_of (handle_shown x t h)) (own_state (handle_shown x t h)) h) node n h.port
    (of_states (with_given_back t (way_of (handle_shown x t h)) h) h.port
    (of_lanes t h.port may (λ l. lanes.released l h.slot) (release_bare h.slot) (way_of (handle_shown x t h) ∷ []))
    (λ r. closed_for r (request_of t h)) (own_state (handle_shown x t h) ∷ [])) Done

pub ports_end : PortsEnd
ports_end x t node n p there on_node held apart may =
    ports_are_released x t node n p there on_node held apart
    ∙ released_is x Done (with_value_released t n) n (of_value t n may n)

pub spent_requests_end : SpentRequestsEnd
spent_requests_end x t node n h is spent may =
    sending.spent_requests_are_refused x t node n h is spent ∙ dropped_is x t node n h.port may (Refused ExceedsMaxActiveRequests)

pub request_sends_end : RequestSendsEnd
request_sends_end x t node n h is spent over send may =
    sending.requests_are_sent x t node n h is spent over send
    ∙ request_is x (with_sent t (request_sending x t h) h.slot) node n h (of_sent t h.port may (request_sending x t h) h.slot) (sent_count t (request_sending x t h))

pub request_sends_over_end : RequestSendsOverEnd
request_sends_over_end x t node n h is spent over send = sending.requests_are_sent_over x t node n h is spent over send

pub unawaited_end : UnawaitedEnd
unawaited_end x t node n h is none may = sending.unawaited_go_to_nobody x t node n h is none ∙ response_is x t node n h may (Some 0)

pub response_sends_end : ResponseSendsEnd
response_sends_end x t node n h is awaited over send may =
    sending.responses_are_sent x t node n h is awaited over send
    ∙ response_is x (with_sent t (response_sending x t h) h.slot) node n h (of_sent t h.port may (response_sending x t h) h.slot) (sent_count t (response_sending x t h))

pub response_sends_over_end : ResponseSendsOverEnd
response_sends_over_end x t node n h is awaited over send may =
    sending.responses_are_sent_over x t node n h is awaited over send
    ∙ response_is x (with_pushed t (response_sending x t h) h.slot) node n h (of_pushed t h.port may (response_sending x t h) h.slot) (Some (length (targets (response_sending x t h))))
