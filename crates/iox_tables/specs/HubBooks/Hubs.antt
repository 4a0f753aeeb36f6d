-- What is so of the tables of a hub between calls.
use Rattle.std.specs.Prelude.{◌≡◌, ℕ, ◌<◌, ◌≤◌, true, if◌then◌else◌, List, [], ◌++◌, length, map, Some}
use Rattle.iox_model.specs.declared.kind.Role.TheVariants.{Client}
use Rattle.iox_model.specs.declared.way.Way.{Way}
use Rattle.iox_model.specs.Maps.{has_number, AreDistinct}
use Rattle.iox_model.specs.Runs.{IsReachableState}
use Rattle.iox_model.specs.Settings.{is_client, other_role}
use Rattle.iox_lanes.specs.Lanes.{LaneState}
use Rattle.iox_tables.specs.HubStates.Tables.{HubTables, PoolState, PortState, numbers_of, owner_of, pipes_of, pool_at, port_in, senders_of, slot_at}
use Rattle.iox_tables.specs.HubStates.Ways.{lane_on, lanes_from, states_from}
use Rattle.iox_tables.specs.HubStates.States.{Given, state_shown}
use Rattle.iox_tables.specs.HubStates.Steps.{places_on}
use Rattle.iox_tables.specs.HubStates.Wirings.{HaveLimits, IsWired, buffer_from, role_in}
use Rattle.iox_tables.specs.HubBooks.Counts.{how_often, uses, OfAllLanes}
use Rattle.iox_tables.specs.HubBooks.Handles.{AreOfPorts, LoansAreAlone, OwnAreApart, ReceivedAreFromLanes, TakenHaveHandles}
use Rattle.iox_tables.specs.HubMaking.Expirings.{KeepsExpired}
use Rattle.iox_tables.specs.HubMaking.NewPorts.{states_of, width_of}

-- ---- slots

-- Each slot has as many holders as lanes and handles have its message. So nothing has a slot that
-- is not there.
abbrev pub HoldersAreCounted : HubTables → Type 0
HoldersAreCounted t = (pool k : ℕ) → (slot_at t.pools pool k).holders ≡ uses t pool k

-- somebody has the message in that slot
abbrev pub IsUsed : HubTables → ℕ → ℕ → Type 0
IsUsed t pool k = 1 ≤ (slot_at t.pools pool k).holders

-- The serials of a port's messages that somebody has differ, and are below the count of its loans.
pub record HaveSerials (t : HubTables) : Type 0 where
  pub apart :
      (pool j k : ℕ) → IsUsed t pool j → IsUsed t pool k
      → (slot_at t.pools pool j).serial ≡ (slot_at t.pools pool k).serial → j ≡ k
  pub below :
      (n k : ℕ) (p : PortState) → port_in t.ports n ≡ Some p → IsUsed t p.pool k
      → (slot_at t.pools p.pool k).serial < p.loans

-- ---- pools

-- The port has a pool of its size, that names it.
pub record HasPool (t : HubTables) (p : PortState) : Type 0 where
  pub pool : PoolState
  pub there : pool_at t.pools p.pool ≡ Some pool
  pub port : pool.port ≡ p.number
  pub node_id : pool.node_id ≡ p.node_id
  pub port_id : pool.port_id ≡ p.id
  pub size : length pool.slots ≡ p.size

-- Each connected port has its pool, and different pools are of different ports.
pub record HavePools (t : HubTables) : Type 0 where
  pub each : (n : ℕ) (p : PortState) → port_in t.ports n ≡ Some p → HasPool t p
  pub apart :
      (i j : ℕ) (a b : PoolState) → pool_at t.pools i ≡ Some a → pool_at t.pools j ≡ Some b
      → a.port ≡ b.port → i ≡ j

-- ---- lanes

-- no place stands twice on the lane
abbrev pub HasEachPlaceOnce : LaneState → Type 0
HasEachPlaceOnce l = (k : ℕ) → how_often k (places_on l) ≤ 1

-- Messages on the lane are of its sender's pool, and as many may wait as its sender's role says.
pub record IsLaneOf (t : HubTables) (sender : PortState) (l : LaneState) : Type 0 where
  pub of_pool : l.pool ≡ sender.pool
  pub buffer : l.buffer ≡ buffer_from t.settings sender.role

-- each lane from a connected port is so
abbrev pub LanesAreOfSenders : HubTables → Type 0
LanesAreOfSenders t =
    (w : Way) (l : LaneState) (sender : PortState) → lane_on t.ports w ≡ Some l
    → port_in t.ports w.sender ≡ Some sender → IsLaneOf t sender l

-- What is on a lane to a client answers the request of that lane.
abbrev pub ResponsesAreOnTheirLanes : HubTables → Type 0
ResponsesAreOnTheirLanes t =
    (w : Way) (l : LaneState) (k : ℕ) → lane_on t.ports w ≡ Some l
    → role_in t.ports w.receiver ≡ Client → has_number k (places_on l) ≡ true
    → (slot_at t.pools l.pool k).lane ≡ w.lane

-- From each port to each of the other role there are that many lanes and request states.
pub record HasWidth (to from : PortState) : Type 0 where
  pub lanes : length (lanes_from (pipes_of to) from.number) ≡ width_of to
  pub states : length (states_from (pipes_of to) from.number) ≡ states_of from

-- it is so of each two connected ports of different roles
abbrev pub HaveWidths : HubTables → Type 0
HaveWidths t =
    (n m : ℕ) (to from : PortState) → port_in t.ports n ≡ Some to
    → port_in t.ports m ≡ Some from → to.role ≡ other_role from.role → HasWidth to from

-- What is on a lane is of its sender's pool, even if its sender is gone.
abbrev pub PlacesAreOfSenders : HubTables → Type 0
PlacesAreOfSenders t =
    (w : Way) (l : LaneState) (k : ℕ) → lane_on t.ports w ≡ Some l
    → has_number k (places_on l) ≡ true → owner_of t.pools l.pool ≡ w.sender

-- Each port is wired, and keeps pipes of ports that are gone.
pub record AreWired (t : HubTables) : Type 0 where
  pub each : (n : ℕ) (p : PortState) → port_in t.ports n ≡ Some p → IsWired t p
  pub kept : (n : ℕ) (p : PortState) → port_in t.ports n ≡ Some p → KeepsExpired t p
  pub limits : HaveLimits t

-- ---- numbers

-- the numbers of ports and handles
abbrev pub numbers_in : HubTables → List ℕ
numbers_in t = numbers_of t.ports ++ map (λ h. h.number) t.handles

-- No number is used twice, and the next one was never used: of no port, handle or pool, and not by a
-- port that is gone and of which something is kept.
pub record HaveNumbers (t : HubTables) : Type 0 where
  pub apart : AreDistinct (numbers_in t)
  pub below : (n : ℕ) → has_number n (numbers_in t) ≡ true → n < t.next_number
  pub owners :
      (place : ℕ) (q : PoolState) → pool_at t.pools place ≡ Some q → q.port < t.next_number
  pub kept :
      (n : ℕ) (p : PortState) → port_in t.ports n ≡ Some p → (k : ℕ)
      → has_number k (senders_of p.expired.pipes) ≡ true → k < t.next_number

-- ---- all

-- The tables of a hub agree with each other.
pub record AreInOrder (t : HubTables) : Type 0 where
  -- slots
  pub counted : HoldersAreCounted t
  pub serials : HaveSerials t
  pub pools : HavePools t
  -- lanes
  pub once : OfAllLanes HasEachPlaceOnce t.ports
  pub lanes : LanesAreOfSenders t
  pub labels : ResponsesAreOnTheirLanes t
  pub owners : PlacesAreOfSenders t
  pub widths : HaveWidths t
  pub wired : AreWired t
  -- handles
  pub numbers : HaveNumbers t
  pub ports : AreOfPorts t
  pub alone : LoansAreAlone t
  pub own : OwnAreApart t
  pub taken : TakenHaveHandles t
  pub received : ReceivedAreFromLanes t

-- The tables of a hub: they agree, and a service and its hub can reach the state that they show.
pub record TablesAreReached (t : HubTables) : Type 0 where
  pub tables : AreInOrder t
  pub given : Given
  pub reached : IsReachableState (state_shown given t)
