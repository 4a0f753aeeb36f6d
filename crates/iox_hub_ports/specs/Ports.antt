-- The connected ports of a hub, as callers see them.
use Rattle.std.specs.Prelude.{◌≡◌, ℕ, ◌+◌, ◌-◌, ◌<◌, ◌≤◌, Bool, false, if◌then◌else◌, ◌==◌, List, [], ◌∷◌, ◌++◌, map, length, Option, None, slice_get}
use Rattle.std.specs.List.{position_from}
use Rattle.std.specs.Option.{option_map, option_map_or}
use Rattle.iox_model.specs.declared.kind.Role.{Role}
use Rattle.iox_model.specs.declared.kind.Role.TheVariants.{Client, Server}
use Rattle.iox_model.specs.declared.way.Way.{Way}
use Rattle.iox_model.specs.declared.way.RequestState.{RequestState}
use Rattle.iox_model.specs.declared.way.RequestState.TheVariants.{Closed}
use Rattle.iox_model.specs.Maps.{AreDistinct, has_number}
use Rattle.iox_model.specs.Messages.{response_way}
use Rattle.iox_model.specs.Settings.{same_role}
use Rattle.iox_tables.specs.Incomings.{IncomingState, connected}
use Rattle.iox_tables.specs.Lanes.{LaneState, is_full, offered, oldest, without_oldest}
use Rattle.iox_tables.specs.Pipes.{PipeState, lane_to_get, with_lane, with_state}
use Rattle.iox_tables.specs.HubStates.Tables.{PortState, numbers_of, pipe_from, pipes_of, pipes_to, port_in}
use Rattle.iox_tables.specs.HubStates.Ways.{lane_on, lanes_from, state_on, states_from, with_lane_on, with_pipe_of, with_pipes}
use Rattle.iox_tables.specs.HubStates.Wirings.{numbers_of_role}
use Rattle.iox_hub_ports.specs.declared.info.PortInfo.{PortInfo}
use Rattle.iox_hub_ports.specs.InPlace.{RolePlacesState, places_of}
use Rattle.iox_tables.specs.HubMaking.Expirings.{gone_with}
use Rattle.iox_tables.specs.HubMaking.OneByOne.{without_first_by}

-- a port with that information, and what comes to it
abbrev pub port_of : PortInfo → IncomingState → IncomingState → PortState
port_of info expired incoming = record {
  number = info.number;
  node = info.node;
  role = info.role;
  node_id = info.node_id;
  id = info.id;
  pool = info.pool;
  size = info.size;
  longest = info.longest;
  grows = info.grows;
  strategy = info.strategy;
  loaned_responses = info.loaned_responses;
  held = info.held;
  loans = info.loans;
  expired = expired;
  incoming = incoming;
}

-- what is said of a port beside what comes to it
abbrev pub info_of : PortState → PortInfo
info_of p = record {
  number = p.number;
  node = p.node;
  role = p.role;
  node_id = p.node_id;
  id = p.id;
  pool = p.pool;
  size = p.size;
  longest = p.longest;
  grows = p.grows;
  strategy = p.strategy;
  loaned_responses = p.loaned_responses;
  held = p.held;
  loans = p.loans;
}

-- ---- one port

-- what the lane of that number says, of the pipe from this sender
abbrev pub on_lane_from : {A : Type 0} → (LaneState → A) → A → PortState → ℕ → ℕ → A
on_lane_from f none p sender lane =
    option_map_or f (slice_get (lanes_from (pipes_of p) sender) lane) none

-- the request state of that lane, beside the pipe from this sender; closed where there is none
abbrev pub state_from : PortState → ℕ → ℕ → RequestState
state_from p sender lane =
    option_map_or (λ r. r) (slice_get (states_from (pipes_of p) sender) lane) Closed

-- the lane of that number is another, of the pipe from this sender
abbrev pub with_lane_from : (LaneState → LaneState) → PortState → ℕ → ℕ → PortState
with_lane_from g p sender lane = with_pipe_of (λ q. with_lane g q lane) p sender

-- the request state of that lane is another, beside the pipe from this sender
abbrev pub with_state_from : (RequestState → RequestState) → PortState → ℕ → ℕ → PortState
with_state_from g p sender lane = with_pipe_of (λ q. with_state g q lane) p sender

-- the first pipe from this connected sender is gone
abbrev pub without_pipe_from : PortState → ℕ → PortState
without_pipe_from p sender = record p {
  incoming = with_pipes p.incoming (without_first_by (λ q. q.sender) p.incoming.pipes sender);
}

-- the pipe that goes with this connected sender: the first from it, or one that is given up for it
abbrev pub gone_from : PortState → ℕ → Option PipeState
gone_from p sender = gone_with p.expired (pipe_from p.incoming.pipes sender)

-- one more pipe leads to the port, where there is room
abbrev pub with_connected : PortState → PipeState → PortState
with_connected p pipe = record p { incoming = connected p.incoming pipe }

-- one loan more succeeded
abbrev pub with_loan_counted : PortState → PortState
with_loan_counted p = record p { loans = p.loans + 1 }

-- its own value is gone
abbrev pub without_value : PortState → PortState
without_value p = record p { held = false }

-- ---- the ports of a hub

-- The connected ports, oldest first, and how many more may be added.
pub record PortsState : Type 0 where
  pub room : ℕ
  pub ports : List PortState

-- the first port of that number is gone
abbrev pub without_port : List PortState → ℕ → List PortState
without_port ports n = without_first_by (λ p. p.number) ports n

-- there is one port more
abbrev pub with_port_added : PortsState → PortState → PortsState
with_port_added all p = record { room = all.room - 1; ports = all.ports ++ p ∷ [] }

-- the first port of that number is gone, and leaves room
abbrev pub with_port_removed : PortsState → ℕ → PortsState
with_port_removed all n = record { room = all.room + 1; ports = without_port all.ports n }

-- no port, and room for so many
abbrev pub no_ports : ℕ → PortsState
no_ports room = record { room = room; ports = [] }

-- the ports are others
abbrev pub with_ports : PortsState → List PortState → PortsState
with_ports all ports = record all { ports = ports }

-- what is said of the port of that number
abbrev pub info_in : List PortState → ℕ → Option PortInfo
info_in ports n = option_map info_of (port_in ports n)

-- what the lane of the way says
abbrev pub on_way : {A : Type 0} → (LaneState → A) → A → List PortState → Way → A
on_way f none ports w = option_map_or f (lane_on ports w) none

-- the request state of the way; closed where there is none
abbrev pub state_of_way : List PortState → Way → RequestState
state_of_way ports w = option_map_or (λ r. r) (state_on ports w) Closed

-- the place of the first port of that number
abbrev pub place_in : List PortState → ℕ → Option ℕ
place_in ports n = position_from (λ p. p.number == n) 0 ports

-- what is said of the port in that place
abbrev pub info_at : List PortState → ℕ → Option PortInfo
info_at ports place = option_map info_of (slice_get ports place)

-- how many pipes from ports that are gone lead to the port in that place
abbrev pub kept_at : List PortState → ℕ → ℕ
kept_at ports place =
    option_map_or (λ (p : PortState). length p.expired.pipes) (slice_get ports place) 0

-- the lowest lane from the sender on which the receiver left something to get back
abbrev pub lane_to_get_on : List PipeState → ℕ → Option ℕ
lane_to_get_on ps sender = option_map_or lane_to_get (pipe_from ps sender) None

-- the lowest lane from the sender on which the port in that place left something to get back
abbrev pub lane_to_get_at : List PortState → ℕ → ℕ → Option ℕ
lane_to_get_at ports place sender =
    option_map_or (λ p. lane_to_get_on (pipes_to ports p.number) sender) (slice_get ports place)
    None

-- ---- ways to, or from, all ports of one role

-- the way of that lane from the sender to the receiver
abbrev pub way_from : ℕ → ℕ → ℕ → Way
way_from sender lane receiver = record { sender = sender; receiver = receiver; lane = lane }

-- the ways of that lane from the sender to all ports of the role
abbrev pub ways_from : ℕ → ℕ → Role → List PortState → List Way
ways_from sender lane role ports = map (way_from sender lane) (numbers_of_role role ports)

-- the ways of that lane from all ports of the role to the receiver
abbrev pub state_ways : ℕ → ℕ → Role → List PortState → List Way
state_ways receiver lane role ports =
    map (response_way receiver lane) (numbers_of_role role ports)

-- what the lane of that number says, from the sender to the port in that place
abbrev pub on_way_at : {A : Type 0} → (LaneState → A) → A → List PortState → ℕ → ℕ → ℕ → A
on_way_at f none ports place sender lane =
    option_map_or (λ p. on_way f none ports (way_from sender lane p.number))
    (slice_get ports place) none

-- that lane is another
abbrev pub with_lane_at : (LaneState → LaneState) → List PortState → ℕ → ℕ → ℕ → List PortState
with_lane_at g ports place sender lane =
    option_map_or (λ p. with_lane_on g ports (way_from sender lane p.number))
    (slice_get ports place) ports

-- ---- pushes

-- a full lane, once its oldest message is pushed out
abbrev pub with_one_out : LaneState → LaneState
with_one_out l = if is_full l then without_oldest l else l

-- the message that is pushed out of it
abbrev pub pushed_out : LaneState → Option ℕ
pushed_out l = if is_full l then oldest l else None

-- the message is last in line, where there is room once the oldest is out of a full lane
abbrev pub pushed : LaneState → ℕ → LaneState
pushed l k = offered (with_one_out l) k

-- ---- only for proofs of this crate

-- the port is changed, if it is of that role
abbrev pub if_role : Role → (PortState → PortState) → PortState → PortState
if_role role h p = if same_role p.role role then h p else p

-- whether the port of that number is in the place
abbrev pub is_at : ℕ → List PortState → ℕ → Bool
is_at n ports place = option_map_or (λ p. p.number == n) (slice_get ports place) false

-- No two ports have one number, none has a greater one than the last, and there is memory for those
-- that may be added. The lists of the places of clients and of servers are right.
pub record IsPorts (ports : List PortState) (room last capacity : ℕ) (lists : RolePlacesState) :
    Type 0 where
  pub apart : AreDistinct (numbers_of ports)
  pub none_above : (n : ℕ) → last < n → has_number n (numbers_of ports) ≡ false
  pub fits : length ports + room ≤ capacity
  pub clients : lists.clients ≡ places_of Client ports
  pub servers : lists.servers ≡ places_of Server ports
  pub lists_fit : length ports + room ≤ lists.most
