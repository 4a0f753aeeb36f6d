-- The lane of each way, the request state of each way, and how one of them changes.
use Rattle.std.specs.Prelude.{ℕ, if◌then◌else◌, List, [], ◌∷◌, Option, slice_get}
use Rattle.std.specs.Option.{option_map, option_map_or}
use Rattle.iox_model.specs.declared.way.Way.{Way}
use Rattle.iox_model.specs.declared.way.RequestState.{RequestState}
use Rattle.iox_model.specs.Maps.{has_number, put}
use Rattle.iox_lanes.specs.Incomings.{IncomingState}
use Rattle.iox_lanes.specs.Lanes.{LaneState}
use Rattle.iox_lanes.specs.Pipes.{PipeState, with_lane, with_state}
use Rattle.iox_tables.specs.HubStates.Tables.{PortState, pipe_from, pipes_to, senders_of, with_first_by}

-- ---- what comes from a sender

-- the lanes of the first pipe from this sender; none where there is no such pipe
abbrev pub lanes_from : List PipeState → ℕ → List LaneState
lanes_from ps sender = option_map_or (λ p. p.lanes) (pipe_from ps sender) []

-- the request states of the first pipe from this sender
abbrev pub states_from : List PipeState → ℕ → List RequestState
states_from ps sender = option_map_or (λ p. p.states) (pipe_from ps sender) []

-- ---- ways

-- what each way has, if it has something
abbrev pub OnWays : Type 0 → Type 0
OnWays A = Way → Option A

-- the lane of a way, where each port has these pipes
abbrev pub lane_by : (ℕ → List PipeState) → OnWays LaneState
lane_by pipes w = slice_get (lanes_from (pipes w.receiver) w.sender) w.lane

-- the request state of a way of responses: it lies with the server, beside the pipe of requests
abbrev pub state_by : (ℕ → List PipeState) → OnWays RequestState
state_by pipes w = slice_get (states_from (pipes w.sender) w.receiver) w.lane

-- the same for the ports of a hub
abbrev pub lane_on : List PortState → OnWays LaneState
lane_on ports = lane_by (pipes_to ports)

-- the request state of each way, for the ports of a hub
abbrev pub state_on : List PortState → OnWays RequestState
state_on ports = state_by (pipes_to ports)

-- what one way has is changed, if it has something
abbrev pub at : {A : Type 0} → (A → A) → OnWays A → Way → OnWays A
at g on w = put on w (option_map g (on w))

-- the same on each of these ways, one after another
abbrev pub at_each : {A : Type 0} → (A → A) → OnWays A → List Way → OnWays A
at_each g on [] = on
at_each g on (w ∷ ws) = at_each g (at g on w) ws

-- ---- how a hub changes one lane, or one request state

-- the first pipe from this sender is changed
abbrev pub with_pipe_from : (PipeState → PipeState) → List PipeState → ℕ → List PipeState
with_pipe_from h ps sender = with_first_by (λ p. p.sender) h ps sender

-- the pipes that come in are others
abbrev pub with_pipes : IncomingState → List PipeState → IncomingState
with_pipes c ps = record c { pipes = ps }

-- the pipe from this sender to the port is changed: of the expired ones, if it is there
abbrev pub with_pipe_of : (PipeState → PipeState) → PortState → ℕ → PortState
with_pipe_of h p sender =
    if has_number sender (senders_of p.expired.pipes)
    then record p { expired = with_pipes p.expired (with_pipe_from h p.expired.pipes sender) }
    else record p { incoming = with_pipes p.incoming (with_pipe_from h p.incoming.pipes sender) }

-- the port of that number is changed
abbrev pub with_port : (PortState → PortState) → List PortState → ℕ → List PortState
with_port f ports n = with_first_by (λ p. p.number) f ports n

-- the lane of a way is changed
abbrev pub with_lane_on : (LaneState → LaneState) → List PortState → Way → List PortState
with_lane_on g ports w =
    with_port (λ p. with_pipe_of (λ q. with_lane g q w.lane) p w.sender) ports w.receiver

-- the request state of a way is changed
abbrev pub with_state_on : (RequestState → RequestState) → List PortState → Way → List PortState
with_state_on g ports w =
    with_port (λ p. with_pipe_of (λ q. with_state g q w.lane) p w.receiver) ports w.sender

-- the lanes of these ways are changed, one after another
abbrev pub with_lanes_on : (LaneState → LaneState) → List PortState → List Way → List PortState
with_lanes_on g ports [] = ports
with_lanes_on g ports (w ∷ ws) = with_lanes_on g (with_lane_on g ports w) ws

-- the request states of these ways are changed, one after another
abbrev pub with_states_on :
    (RequestState → RequestState) → List PortState → List Way → List PortState
with_states_on g ports [] = ports
with_states_on g ports (w ∷ ws) = with_states_on g (with_state_on g ports w) ws
