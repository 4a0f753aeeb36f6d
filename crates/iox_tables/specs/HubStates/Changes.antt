-- What a hub does to a lane or a request state in each step of a call, and what is so of lanes.
use Rattle.std.specs.Prelude.{◌≡◌, ℕ, ◌≤◌, if◌then◌else◌, nat_lt, List, [], ◌∷◌, ◌++◌, length, Some, ⊤}
use Rattle.iox_model.specs.declared.way.Way.{Way}
use Rattle.iox_model.specs.declared.way.RequestState.{RequestState}
use Rattle.iox_model.specs.Maps.{AreDistinct}
use Rattle.iox_lanes.specs.Lanes.{LaneState, delivered, is_full, without_oldest}
use Rattle.iox_tables.specs.HubStates.Tables.{HubTables}
use Rattle.iox_tables.specs.HubStates.Ways.{OnWays, with_lanes_on, with_states_on}
use Rattle.iox_tables.specs.HubStates.Shown.{MessagesByPlace, serials_in}

-- ---- one lane

-- its sender got back all that was given back
abbrev pub emptied_lane : LaneState → LaneState
emptied_lane l = record l { returned = [] }

-- one more waits; where that is one too many, the oldest is pushed out
abbrev pub pushed_lane : ℕ → LaneState → LaneState
pushed_lane k l =
    let more : LaneState = delivered l k in
    if nat_lt l.buffer (length more.waiting) then without_oldest more else more

-- ---- what is so of lanes

-- the serials of all messages on the lane
abbrev pub serials_on : MessagesByPlace → LaneState → List ℕ
serials_on message l =
    serials_in message l.pool l.returned
    ++ (serials_in message l.pool l.waiting ++ serials_in message l.pool l.taken)

-- no message is on the lane twice
abbrev pub HasEachOnce : MessagesByPlace → LaneState → Type 0
HasEachOnce message l = AreDistinct (serials_on message l)

-- it is so of each lane
abbrev pub OfEachLane : (LaneState → Type 0) → OnWays LaneState → Type 0
OfEachLane P lanes = (w : Way) (l : LaneState) → lanes w ≡ Some l → P l

-- each of these ways has something, of which it is so
abbrev pub OnEach : {A : Type 0} → (Way → A → Type 0) → OnWays A → List Way → Type 0
OnEach P on [] = ⊤
OnEach P on (w ∷ ws) = ((x : _) × (on w ≡ Some x) × P w x) × OnEach P on ws

-- ---- all tables

-- the lanes of these ways are changed
abbrev pub with_lanes : (LaneState → LaneState) → HubTables → List Way → HubTables
with_lanes g t ws = record t { ports = with_lanes_on g t.ports ws }

-- the request states of these ways are changed
abbrev pub with_states : (RequestState → RequestState) → HubTables → List Way → HubTables
with_states g t ws = record t { ports = with_states_on g t.ports ws }

-- Pushing the oldest out first, where the lane is full, and then delivering comes to the same, where
-- at least one may wait.
abbrev pub OldestMayGoFirst : Type 0
OldestMayGoFirst =
    (l : LaneState) (k : ℕ) → 1 ≤ l.buffer
    → pushed_lane k l
    ≡ (if is_full l then delivered (without_oldest l) k else delivered l k)
