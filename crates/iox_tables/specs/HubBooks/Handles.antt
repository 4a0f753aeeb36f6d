-- What is so of the handles of a hub between calls.
use Rattle.std.specs.Prelude.{◌≡◌, ◌⊎◌, ℕ, ◌<◌, ◌≤◌, true, false, Bool, ◌&&◌, ◌||◌, if◌then◌else◌, List, Option, Some, None}
use Rattle.iox_model.specs.declared.kind.Kind.{Kind}
use Rattle.iox_model.specs.declared.kind.Kind.TheVariants.{ActiveRequest, PendingResponse, Response}
use Rattle.iox_model.specs.declared.kind.Role.{Role}
use Rattle.iox_model.specs.declared.kind.Role.TheVariants.{Client, Server}
use Rattle.iox_model.specs.declared.way.Way.{Way}
use Rattle.iox_model.specs.Handles.{is_own, is_received, is_request_loan, is_response_loan, same_kind}
use Rattle.iox_model.specs.Maps.{same_way}
use Rattle.iox_model.specs.Messages.{request_way, response_way}
use Rattle.iox_lanes.specs.Lanes.{LaneState}
use Rattle.iox_tables.specs.HubStates.Tables.{HandleState, HubTables, PoolState, PortState, labels_of, owner_of, port_in, slot_at}
use Rattle.iox_tables.specs.HubStates.Ways.{lane_on}
use Rattle.iox_tables.specs.HubStates.Ends.{OfEachHandle}
use Rattle.iox_tables.specs.HubStates.Steps.{is_there}
use Rattle.iox_tables.specs.HubBooks.Counts.{how_many, how_often, is_at}

-- ---- each handle

-- the role of the ports that have handles of this kind
abbrev pub role_for : Kind → Role
role_for kind =
    if is_request_loan kind || (same_kind kind PendingResponse || same_kind kind Response)
    then Client else Server

-- The handle is a loan, a pending response or received. Its port is connected, of its node, and of
-- the role for its kind. A loan or a pending
-- response is of that port's pool, and where the port is a client, of one of its lanes. The client
-- of an active request is the port whose pool its message is of.
pub record IsOfPort (t : HubTables) (h : HandleState) : Type 0 where
  pub port : PortState
  pub there : port_in t.ports h.port ≡ Some port
  pub on_node : h.node ≡ port.node
  pub role : port.role ≡ role_for h.kind
  pub either : (is_own h.kind || is_received h.kind) ≡ true
  pub of_pool : is_own h.kind ≡ true → h.pool ≡ port.pool
  pub lane :
      is_own h.kind ≡ true → port.role ≡ Client
      → (slot_at t.pools h.pool h.slot).lane < port.size
  pub client : same_kind h.kind ActiveRequest ≡ true → h.client ≡ owner_of t.pools h.pool

-- it is so of each handle
abbrev pub AreOfPorts : HubTables → Type 0
AreOfPorts t = OfEachHandle (IsOfPort t) t.handles

-- ---- loans

-- the handle is a loan
abbrev pub is_loan : Kind → Bool
is_loan kind = is_request_loan kind || is_response_loan kind

-- nobody else has the message of a loan
abbrev pub IsAlone : HubTables → HandleState → Type 0
IsAlone t h = is_loan h.kind ≡ true → (slot_at t.pools h.pool h.slot).holders ≡ 1

-- it is so of each loan
abbrev pub LoansAreAlone : HubTables → Type 0
LoansAreAlone t = OfEachHandle (IsAlone t) t.handles

-- the handle is a loan or a pending response, of the message in that slot
abbrev pub is_own_at : ℕ → ℕ → HandleState → Bool
is_own_at pool k h = is_own h.kind && is_at pool k h

-- no two loans or pending responses have the same message
abbrev pub OwnAreApart : HubTables → Type 0
OwnAreApart t = (pool k : ℕ) → how_many (is_own_at pool k) t.handles ≤ 1

-- ---- received messages

-- the way on which the message of a received handle came
abbrev pub way_in : List (Option PoolState) → HandleState → Way
way_in pools h =
    if same_kind h.kind ActiveRequest then request_way h.client h.port
    else response_way h.port (labels_of pools h.pool h.slot).lane (owner_of pools h.pool)

-- the handle has the message in that slot, and it came on that way
abbrev pub is_from : List (Option PoolState) → Way → ℕ → ℕ → HandleState → Bool
is_from pools w pool k h = is_received h.kind && (same_way (way_in pools h) w && is_at pool k h)

-- The receiver of a lane has each message there as often as handles have it.
abbrev pub TakenHaveHandles : HubTables → Type 0
TakenHaveHandles t =
    (w : Way) (l : LaneState) (k : ℕ) → lane_on t.ports w ≡ Some l
    → how_often k l.taken ≡ how_many (is_from t.pools w l.pool k) t.handles

-- The way's lane has messages of that pool. Or there is no lane, and the sender is gone.
abbrev pub IsOfPoolOrGone : HubTables → Way → ℕ → Type 0
IsOfPoolOrGone t w pool =
    ((l : LaneState) × (lane_on t.ports w ≡ Some l) × (l.pool ≡ pool))
    ⊎ ((lane_on t.ports w ≡ None) × (is_there t.ports w.sender ≡ false))

-- a received handle came on such a way
abbrev pub IsFromLane : HubTables → HandleState → Type 0
IsFromLane t h = is_received h.kind ≡ true → IsOfPoolOrGone t (way_in t.pools h) h.pool

-- it is so of each received handle
abbrev pub ReceivedAreFromLanes : HubTables → Type 0
ReceivedAreFromLanes t = OfEachHandle (IsFromLane t) t.handles
