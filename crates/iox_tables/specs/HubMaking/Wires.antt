-- What is so of ports and pipes between calls is so once a port is made, and once one is gone.
use Rattle.std.specs.Prelude.{◌≡◌, ◌⊎◌, ℕ, false, not, ◌||◌, if◌then◌else◌, ◌==◌, List, [], ◌∷◌, ◌++◌, filter, Option, Some, None}
use Rattle.std.specs.Option.{option_map}
use Rattle.iox_model.specs.declared.way.Way.{Way}
use Rattle.iox_model.specs.Expiries.{is_end}
use Rattle.iox_model.specs.Maps.{AreDistinct, has_number, or_else}
use Rattle.iox_model.specs.Settings.{other_role}
use Rattle.iox_lanes.specs.Incomings.{no_pipes}
use Rattle.iox_lanes.specs.Lanes.{LaneState, empty_lane}
use Rattle.iox_lanes.specs.Pipes.{PipeState}
use Rattle.iox_tables.specs.HubStates.Tables.{HubTables, PoolState, PortState, numbers_of, pipe_from, pipes_to, port_in}
use Rattle.iox_tables.specs.HubStates.Ways.{lane_on, state_on}
use Rattle.iox_tables.specs.HubStates.Releases.{with_value_released}
use Rattle.iox_tables.specs.HubStates.States.{expired_in}
use Rattle.iox_tables.specs.HubStates.Steps.{is_there}
use Rattle.iox_tables.specs.HubStates.Wirings.{HaveLimits, IsWired, buffer_from, limit_from}
use Rattle.iox_tables.specs.HubMaking.Disconnections.{MayGo, cut_from, is_left, with_disconnected, with_released}
use Rattle.iox_tables.specs.HubMaking.Expirings.{KeepsExpired}
use Rattle.iox_tables.specs.HubMaking.NewPorts.{connected_from, connected_to, pipe_between, room_for_gone, with_port_made}

-- No two ports have one number, each is wired and keeps pipes of ports that are gone, and each lane
-- has its receiver's limit.
pub record AreConnected (t : HubTables) : Type 0 where
  pub apart : AreDistinct (numbers_of t.ports)
  pub wired : (n : ℕ) (p : PortState) → port_in t.ports n ≡ Some p → IsWired t p
  pub limits : HaveLimits t
  pub kept : (n : ℕ) (p : PortState) → port_in t.ports n ≡ Some p → KeepsExpired t p

-- ---- a port that is gone

-- The tables without a port, by numbers, ports, pipes, lanes and request states.
pub record PortIsGone (t : HubTables) (n : ℕ) : Type 0 where
  pub numbers :
      numbers_of (with_disconnected t n).ports ≡ filter (λ k. not (k == n)) (numbers_of t.ports)
  pub ports :
      (k : ℕ)
      → port_in (with_disconnected t n).ports k
      ≡ (if k == n then None else option_map (cut_from n) (port_in t.ports k))
  pub pipes :
      (to from : ℕ)
      → pipe_from (pipes_to (with_disconnected t n).ports to) from
      ≡ (if is_left n t.ports to from then pipe_from (pipes_to t.ports to) from else None)
  pub lanes :
      (w : Way)
      → lane_on (with_disconnected t n).ports w
      ≡ (if is_left n t.ports w.receiver w.sender then lane_on t.ports w else None)
  pub states :
      (w : Way)
      → state_on (with_disconnected t n).ports w
      ≡ (if is_left n t.ports w.sender w.receiver then state_on t.ports w else None)

-- Once a port is gone the tables are as before without it, and all others stay connected.
abbrev pub GonePortsLeaveOthers : Type 0
GonePortsLeaveOthers =
    (t : HubTables) (n : ℕ) → AreConnected t → MayGo t n
    → PortIsGone t n × AreConnected (with_disconnected t n)

-- Ports stay connected as the own value of one is released, and as one goes if nothing of it is
-- left.
abbrev pub ReleasesKeepOthers : Type 0
ReleasesKeepOthers =
    (t : HubTables) (n : ℕ) → AreConnected t
    → AreConnected (with_value_released t n) × (MayGo t n → AreConnected (with_released t n))

-- ---- a new port

-- The pipe from one of these numbers to the other is a new one, between ports of different roles.
pub record IsNewPipe (t : HubTables) (receiver sender : ℕ) (pipe : PipeState) : Type 0 where
  pub from : PortState
  pub to : PortState
  pub comes : port_in t.ports sender ≡ Some from
  pub goes : port_in t.ports receiver ≡ Some to
  pub roles : from.role ≡ other_role to.role
  pub is : pipe ≡ pipe_between t.settings from to

-- The lane is one on which nothing was ever delivered, between two ports of different roles.
pub record IsNewLane (t : HubTables) (w : Way) (l : LaneState) : Type 0 where
  pub from : PortState
  pub to : PortState
  pub sender : port_in t.ports w.sender ≡ Some from
  pub receiver : port_in t.ports w.receiver ≡ Some to
  pub roles : from.role ≡ other_role to.role
  pub lane :
      l
      ≡ empty_lane from.pool (buffer_from t.settings from.role) (limit_from t.settings from.role)

-- The tables with a port more, by numbers, ports, pipes and lanes: what is at an end of the new
-- port is new, all else is as before.
pub record PortIsNew (t : HubTables) (new : PortState) (t' : HubTables) : Type 0 where
  pub numbers : numbers_of t'.ports ≡ numbers_of t.ports ++ new.number ∷ []
  pub ports :
      (k : ℕ)
      → port_in t'.ports k
      ≡ or_else (option_map (connected_to t.settings new) (port_in t.ports k))
      (if new.number == k then Some (connected_from t.settings t.ports new) else None)
  pub pipes :
      (to from : ℕ) (pipe : PipeState) → pipe_from (pipes_to t'.ports to) from ≡ Some pipe
      → ((pipe_from (pipes_to t.ports to) from ≡ Some pipe) × ((to == new.number) ≡ false)
      × ((from == new.number) ≡ false))
      ⊎ IsNewPipe t' to from pipe
  pub lanes :
      (w : Way) (l : LaneState) → lane_on t'.ports w ≡ Some l
      → ((lane_on t.ports w ≡ Some l) × (is_end new.number w ≡ false)) ⊎ IsNewLane t' w l

-- Once a port is made whose number is no other's, and of which nothing is kept, all is as before but
-- what is at its ends, and all ports are connected.
abbrev pub NewPortsAreConnected : Type 0
NewPortsAreConnected =
    (t : HubTables) (new : PortState) (pools : List (Option PoolState)) → AreConnected t
    → is_there t.ports new.number ≡ false
    → ((n : ℕ) → has_number new.number (expired_in t.ports n) ≡ false)
    → new.expired ≡ no_pipes (room_for_gone t.settings new.role)
    → PortIsNew t new (with_port_made t new pools) × AreConnected (with_port_made t new pools)
