-- What a send of a hub brings to those who receive.
use Rattle.std.specs.Prelude.{◌≡◌, ℕ, false, true, if◌then◌else◌, List, [], ◌∷◌, map, Some}
use Rattle.iox_model.specs.declared.kind.Role.TheVariants.{Server}
use Rattle.iox_model.specs.declared.way.RequestState.TheVariants.{Named}
use Rattle.iox_model.specs.declared.way.Way.{Way}
use Rattle.iox_model.specs.Doings.{Receiver}
use Rattle.iox_model.specs.Handles.{own_state}
use Rattle.iox_model.specs.Loans.{next_message}
use Rattle.iox_model.specs.Maps.{has_number}
use Rattle.iox_model.specs.Messages.{Message, request_way, response_way}
use Rattle.iox_model.specs.States.{Handle}
use Rattle.iox_laws.specs.CallFunctions.Responses.{is_awaited}
use Rattle.iox_tables.specs.HubStates.Releases.{lane_of, request_of}
use Rattle.iox_tables.specs.HubStates.States.{port_of}
use Rattle.iox_tables.specs.HubStates.Steps.{is_there}
use Rattle.iox_tables.specs.HubStates.Tables.{HandleState, PortState, port_in}
use Rattle.iox_tables.specs.HubStates.Wirings.{handle_in, numbers_of_role}
use Rattle.iox_hub.specs.Answered.{Answered}
use Rattle.iox_hub.specs.Answered.TheVariants as answered
use Rattle.iox_hub.specs.Requested.{Requested}
use Rattle.iox_hub.specs.Requested.TheVariants.{To, ExceedsMaxActiveRequests, UnableToDeliver}
use Rattle.iox_hub.specs.Responded.{Responded}
use Rattle.iox_hub.specs.Responded.TheVariants.{Done, Undelivered}
use Rattle.iox_hub.specs.Hubs.{HubState, given_by, nothing_given}
use Rattle.iox_hub_laws.specs.Arrivals.{IsSentOn}
use Rattle.iox_hub_laws.specs.Shown.{handle_of, shown}
use Rattle.iox_hub_laws.specs.Waiting.{AllCarry, NothingWaits}
use Rattle.iox_laws.specs.CallFunctions.Copies.{copied_order}

-- On each way the same waits as before.
abbrev pub WaitsAsBefore : HubState → HubState → Type 0
WaitsAsBefore old new = (w : Way) → (shown new).waiting w ≡ (shown old).waiting w

-- what a send leaves that delivers nothing, where the port of its loan is still connected
abbrev pub BringsNothing : HubState → ℕ → ℕ → HubState → Type 0
BringsNothing old node n new =
    (loan : HandleState) → handle_in old.control.tables.handles node n ≡ Some loan
    → is_there new.control.tables.ports loan.port ≡ true → WaitsAsBefore old new

-- ---- requests

-- the connected servers, oldest first
abbrev pub servers_of : HubState → List ℕ
servers_of h = numbers_of_role Server h.control.tables.ports

-- The request is sent on the ways to all connected servers, and its request states with them are
-- open.
pub record IsRequestSent (old new : HubState) (request : Handle) : Type 0 where
  pub brought :
      IsSentOn (map (request_way request.port) (servers_of old)) (shown old) request.message
      (shown new)
  pub states :
      (server : ℕ) → has_number server (servers_of old) ≡ true
      → (shown new).request_state (response_way request.port request.lane server)
      ≡ Named request.request false

-- the node's loaned request of that number is sent
abbrev pub SendsRequest : HubState → ℕ → ℕ → HubState → Type 0
SendsRequest old node n new =
    (loan : HandleState) → handle_in old.control.tables.handles node n ≡ Some loan
    → IsRequestSent old new (handle_of old loan)

-- what its send brings
abbrev pub BringsRequest : HubState → ℕ → ℕ → Requested → HubState → Type 0
BringsRequest old node n (To count) new = SendsRequest old node n new
BringsRequest old node n ExceedsMaxActiveRequests new = BringsNothing old node n new
BringsRequest old node n UnableToDeliver new = BringsNothing old node n new

-- ---- responses

-- the way of the response to its client, if that awaits it: the client is connected, and its
-- request is still open
abbrev pub way_of_response : HubState → Handle → List Way
way_of_response h g = if is_awaited (shown h) g then own_state g ∷ [] else []

-- The node's loaned response of that number is sent, if its server is still connected: it may go
-- with the last of its loans.
abbrev pub SendsResponse : HubState → ℕ → ℕ → HubState → Type 0
SendsResponse old node n new =
    (loan : HandleState) → handle_in old.control.tables.handles node n ≡ Some loan
    → is_there new.control.tables.ports loan.port ≡ true
    → IsSentOn (way_of_response old (handle_of old loan)) (shown old) (handle_of old loan).message
    (shown new)

-- what its send brings
abbrev pub BringsResponse : HubState → ℕ → ℕ → Responded → HubState → Type 0
BringsResponse old node n Done new = SendsResponse old node n new
BringsResponse old node n Undelivered new = BringsNothing old node n new

-- the server's next response to that active request, of so many elements with these words
abbrev pub response_of : HubState → HandleState → PortState → ℕ → List ℕ → Message
response_of h active server count words =
    next_message (shown h).fixed (port_of (given_by (nothing_given h) h) server)
    (copied_order count words) (lane_of h.control.tables active) (request_of h.control.tables active)

-- a copy of so many elements with these words is sent as the response to that active request
abbrev pub CopiesResponse : HubState → ℕ → ℕ → ℕ → List ℕ → HubState → Type 0
CopiesResponse old node n count words new =
    (active : HandleState) → handle_in old.control.tables.handles node n ≡ Some active
    → (server : PortState) → port_in old.control.tables.ports active.port ≡ Some server
    → IsSentOn (way_of_response old (handle_of old active)) (shown old)
    (response_of old active server count words) (shown new)

-- what such a copy brings
abbrev pub BringsResponseCopy : HubState → ℕ → ℕ → ℕ → List ℕ → Answered → HubState → Type 0
BringsResponseCopy old node n count words (answered.Done place) new =
    CopiesResponse old node n count words new
BringsResponseCopy old node n count words (answered.Refused r) new = WaitsAsBefore old new
BringsResponseCopy old node n count words answered.OutOfMemory new = WaitsAsBefore old new
BringsResponseCopy old node n count words answered.Undelivered new = WaitsAsBefore old new

-- ---- for receivers

-- For whom nothing waited, what is waiting now carries these words.
abbrev pub BringsOnly : HubState → List ℕ → HubState → Type 0
BringsOnly old words new = (x : Receiver) → NothingWaits old x → AllCarry new x words

-- For whom nothing waited, nothing waits still.
abbrev pub NothingComes : HubState → HubState → Type 0
NothingComes old new = (x : Receiver) → NothingWaits old x → NothingWaits new x
