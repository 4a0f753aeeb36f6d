-- What the steps of a sender on its lanes come to, one after another.
use Rattle.std.specs.Prelude.{◌≡◌, ℕ, ◌≤◌, true, not, List, [], ◌∷◌, Some, None, slice_get, ⊤}
use Rattle.iox_model.specs.declared.way.Way.{Way}
use Rattle.iox_model.specs.Maps.{AreDistinctWays, not_in}
use Rattle.iox_lanes.specs.Lanes.{LaneState, delivered, has_room, is_full, offered, without_returned}
use Rattle.iox_tables.specs.HubStates.Tables.{PortState}
use Rattle.iox_tables.specs.HubStates.Ways.{lane_on, with_lane_on, with_lanes_on}
use Rattle.iox_tables.specs.HubStates.Changes.{emptied_lane, pushed_lane}
use Rattle.iox_tables.specs.HubStates.Steps.{full_in}
use Rattle.iox_hub_ports.specs.Ports.{on_way, pushed, with_one_out}

-- both do the same to the lane of the way, if it has one
abbrev pub DoSame : (LaneState → LaneState) → (LaneState → LaneState) → List PortState → Way → Type 0
DoSame f g ports w = (l : LaneState) → lane_on ports w ≡ Some l → f l ≡ g l

-- it is so of each of these ways
abbrev pub OfEachWay : (Way → Type 0) → List Way → Type 0
OfEachWay P [] = ⊤
OfEachWay P (w ∷ ws) = P w × OfEachWay P ws

-- Changes that do the same to the lanes of these ways come to the same.
abbrev pub ChangesAgree : Type 0
ChangesAgree =
    (f g : LaneState → LaneState) (ports : List PortState) (ws : List Way) → AreDistinctWays ws
    → OfEachWay (DoSame f g ports) ws → with_lanes_on f ports ws ≡ with_lanes_on g ports ws

-- One change after another of the same lane is one change.
abbrev pub TwoChangesAreOne : Type 0
TwoChangesAreOne =
    (f g : LaneState → LaneState) (ports : List PortState) (w : Way)
    → with_lane_on g (with_lane_on f ports w) w ≡ with_lane_on (λ l. g (f l)) ports w

-- A sender gets all back on a way by getting back the oldest as long as there is one.
pub record EmptiesOneByOne (ports : List PortState) (w : Way) : Type 0 where
  pub goes_on :
      with_lane_on emptied_lane (with_lane_on without_returned ports w) w
      ≡ with_lane_on emptied_lane ports w
  pub ends :
      on_way (λ l. slice_get l.returned 0) None ports w ≡ None
      → with_lane_on emptied_lane ports w ≡ ports

-- It is so on each way.
abbrev pub EmptyingIsOneByOne : Type 0
EmptyingIsOneByOne = (ports : List PortState) (w : Way) → EmptiesOneByOne ports w

-- Where there is room once the oldest is out, a push leaves the lane as the machine's does.
abbrev pub PushesAreTheMachines : Type 0
PushesAreTheMachines =
    (l : LaneState) (k : ℕ) → 1 ≤ l.buffer → has_room (with_one_out l) ≡ true
    → pushed l k ≡ pushed_lane k l

-- the lane of the way has room exactly if it is not full
abbrev pub HasRoomUnlessFull : List PortState → Way → Type 0
HasRoomUnlessFull ports w =
    (l : LaneState) → lane_on ports w ≡ Some l → has_room l ≡ not (is_full l)

-- What is delivered on each of these ways where there is room is delivered on those that are not
-- full.
abbrev pub DeliveriesAreToFree : Type 0
DeliveriesAreToFree =
    (ports : List PortState) (k : ℕ) (ws : List Way) → AreDistinctWays ws
    → OfEachWay (HasRoomUnlessFull ports) ws
    → with_lanes_on (λ l. offered l k) ports ws
    ≡ with_lanes_on (λ l. delivered l k) ports (not_in (full_in (lane_on ports) ws []) ws)
