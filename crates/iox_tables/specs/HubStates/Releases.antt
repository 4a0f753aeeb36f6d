-- What a release of a handle does to the tables of a hub. The machine's `released` comes last: it
-- disconnects the port if nothing of it is left.
use Rattle.std.specs.Prelude.{◌≡◌, ◌⊎◌, ℕ, true, false, List, [], ◌∷◌, map, None, Some}
use Rattle.iox_model.specs.declared.kind.Kind.TheVariants.{ActiveRequest, PendingResponse, Response}
use Rattle.iox_model.specs.declared.kind.Role.TheVariants.{Server}
use Rattle.iox_model.specs.declared.reply.Reply.TheVariants.{Done}
use Rattle.iox_model.specs.declared.way.Way.{Way}
use Rattle.iox_model.specs.Expiries.{released}
use Rattle.iox_model.specs.Handles.{is_received, own_state, same_kind, way_of}
use Rattle.iox_model.specs.Maps.{AreDistinct}
use Rattle.iox_model.specs.Messages.{closed_for, response_way}
use Rattle.iox_model.specs.States as m
use Rattle.iox_laws.specs.CallFunctions.Releases.{released_by}
use Rattle.iox_lanes.specs.Lanes.{LaneState, is_taken}
use Rattle.iox_lanes.specs.Lanes as lanes
use Rattle.iox_tables.specs.HubStates.Tables.{HandleState, HubTables, PortState, labels_of, numbers_of, port_in}
use Rattle.iox_tables.specs.HubStates.Ways.{lane_on, with_port}
use Rattle.iox_tables.specs.HubStates.States.{Given, handle_of, message_of, state_shown}
use Rattle.iox_tables.specs.HubStates.Changes.{with_lanes, with_states}
use Rattle.iox_tables.specs.HubStates.Steps.{is_there}
use Rattle.iox_tables.specs.HubStates.Ends.{with_dropped}
use Rattle.iox_tables.specs.HubStates.Wirings.{IsHandle, numbers_of_role}

-- the lane and the request of the handle's message
abbrev pub lane_of : HubTables → HandleState → ℕ
lane_of t h = (labels_of t.pools h.pool h.slot).lane

-- the request of the handle's message
abbrev pub request_of : HubTables → HandleState → ℕ
request_of t h = (labels_of t.pools h.pool h.slot).request

-- The way of responses to the client of the handle's request. Beside it stands the state of that
-- request.
abbrev pub way_to_client : HubTables → HandleState → Way
way_to_client t h = response_way h.client (lane_of t h) h.port

-- the handle of the machine
abbrev pub handle_shown : Given → HubTables → HandleState → m.Handle
handle_shown x t h = handle_of x (message_of x t.pools) h

-- The release of a loan just ends its handle.
abbrev pub LoansAreReleased : Type 0
LoansAreReleased =
    (x : Given) (t : HubTables) (node n : ℕ) (h : HandleState) → IsHandle t node n h
    → is_received h.kind ≡ false → same_kind h.kind PendingResponse ≡ false
    → released_by (state_shown x t) node n
    ≡ (Done, released (state_shown x (with_dropped t node n)) h.port)

-- the ways of a pending response's request states, with each server
abbrev pub pending_states : HubTables → HandleState → List Way
pending_states t h = map (response_way h.port (lane_of t h)) (numbers_of_role Server t.ports)

-- the tables once a pending response is released
abbrev pub with_pending_released : HubTables → ℕ → ℕ → HandleState → HubTables
with_pending_released t node n h =
    with_dropped (with_states (λ r. closed_for r (request_of t h)) t (pending_states t h)) node n

-- The release of a pending response closes its request with each server.
abbrev pub PendingsAreReleased : Type 0
PendingsAreReleased =
    (x : Given) (t : HubTables) (node n : ℕ) (h : HandleState) → IsHandle t node n h
    → h.kind ≡ PendingResponse
    → released_by (state_shown x t) node n
    ≡ (Done, released (state_shown x (with_pending_released t node n h)) h.port)

-- The lane of the way has the handle's message; or the pair is no more.
abbrev pub IsHeldOn : HubTables → Way → HandleState → Type 0
IsHeldOn t w h =
    ((l : LaneState) × (lane_on t.ports w ≡ Some l) × (l.pool ≡ h.pool)
    × (is_taken l h.slot ≡ true))
    ⊎ ((lane_on t.ports w ≡ None) × (is_there t.ports w.sender ≡ false))

-- the tables once the message is given back
abbrev pub with_given_back : HubTables → Way → HandleState → HubTables
with_given_back t w h = with_lanes (λ l. lanes.released l h.slot) t (w ∷ [])

-- The release of a response gives it back.
abbrev pub ResponsesAreReleased : Type 0
ResponsesAreReleased =
    (x : Given) (t : HubTables) (node n : ℕ) (h : HandleState) → IsHandle t node n h
    → h.kind ≡ Response → IsHeldOn t (way_of (handle_shown x t h)) h
    → released_by (state_shown x t) node n
    ≡ (
      Done,
      released
          (state_shown x (with_dropped (with_given_back t (way_of (handle_shown x t h)) h) node n))
          h.port,
    )

-- the tables once the message is given back and its request is closed
abbrev pub with_request_closed : HubTables → Way → Way → HandleState → HubTables
with_request_closed t w own h =
    with_states (λ r. closed_for r (request_of t h)) (with_given_back t w h) (own ∷ [])

-- The release of an active request gives it back, and closes the request.
abbrev pub RequestsAreReleased : Type 0
RequestsAreReleased =
    (x : Given) (t : HubTables) (node n : ℕ) (h : HandleState) → IsHandle t node n h
    → h.kind ≡ ActiveRequest → IsHeldOn t (way_of (handle_shown x t h)) h
    → released_by (state_shown x t) node n
    ≡ (
      Done,
      released
          (state_shown x
          (with_dropped
          (with_request_closed t (way_of (handle_shown x t h)) (own_state (handle_shown x t h)) h) node n))
          h.port,
    )

-- the tables once the port's own value is released
abbrev pub with_value_released : HubTables → ℕ → HubTables
with_value_released t n =
    record t { ports = with_port (λ p. record p { held = false }) t.ports n }

-- The release of a port's own value.
abbrev pub PortsAreReleased : Type 0
PortsAreReleased =
    (x : Given) (t : HubTables) (node n : ℕ) (p : PortState) → port_in t.ports n ≡ Some p
    → p.node ≡ node → p.held ≡ true → AreDistinct (numbers_of t.ports)
    → released_by (state_shown x t) node n
    ≡ (Done, released (state_shown x (with_value_released t n)) n)
