-- Code delivers on one way after another, and lets go of what is pushed out: what that comes to.
use Rattle.std.specs.Prelude.{◌≡◌, ℕ, ◌+◌, ◌<◌, ◌≤◌, Bool, true, List, [], ◌∷◌, ◌++◌, Option, Some, None}
use Rattle.iox_model.specs.declared.way.Way.{Way}
use Rattle.iox_model.specs.Maps.{AreDistinctWays}
use Rattle.iox_lanes.specs.Lanes.{LaneState}
use Rattle.iox_tables.specs.HubStates.Tables.{HandleState, HubTables, PoolState, PortState, slot_at}
use Rattle.iox_tables.specs.HubStates.Ways.{OnWays, lane_on, with_lane_on, with_lanes_on}
use Rattle.iox_tables.specs.HubStates.Wirings.{IsHandle}
use Rattle.iox_slots.specs.Pools.{with_slot}
use Rattle.iox_slots.specs.Slots.{held, let_go}
use Rattle.iox_tables.specs.HubBooks.Handles.{is_loan}
use Rattle.iox_tables.specs.HubBooks.Hubs.{AreInOrder}
use Rattle.iox_tables.specs.HubBooks.Keeps.{AreTargetsOf, HasOneHolderLess}
use Rattle.iox_tables.specs.HubBooks.Rooms.{most_holders}
use Rattle.iox_hub_delivering.specs.Deliveries.{HasDelivered, HasHandedOver, pushed_out_by}

-- one less has the message that was pushed out, if one was
abbrev pub with_out : List (Option PoolState) → ℕ → Option ℕ → List (Option PoolState)
with_out pools pool (Some j) = with_slot let_go pools pool j
with_out pools pool None = pools

-- The handle's message is delivered on one way more: somebody has its slot, and one more can be
-- counted. Then somebody has what is pushed out, and one less may have it.
pub record DeliversOneMore (overflow : Bool) (t : HubTables) (h : HandleState) (ws : List Way)
    (w : Way) (l : LaneState) (pools : List (Option PoolState)) : Type 0
  where
    pub taken : 0 < (slot_at pools h.pool h.slot).holders
    pub fits : (slot_at pools h.pool h.slot).holders + 1 ≤ most_holders t
    pub out :
        (j : ℕ) → pushed_out_by overflow h.slot l ≡ Some j
        → 0 < (slot_at (with_slot held pools h.pool h.slot) h.pool j).holders
    pub delivered :
        HasDelivered overflow h.slot (lane_on t.ports) (ws ++ w ∷ []) t.pools
        (with_out (with_slot held pools h.pool h.slot) h.pool (pushed_out_by overflow h.slot l))

-- It is so on each way after others, of those of a loan.
abbrev pub EachStepDelivers : Type 0
EachStepDelivers =
    (t : HubTables) (node n : ℕ) (h : HandleState) (overflow : Bool) (ws : List Way) (w : Way)
    (l : LaneState) (pools : List (Option PoolState)) → AreInOrder t → IsHandle t node n h
    → is_loan h.kind ≡ true → AreTargetsOf t h (ws ++ w ∷ []) → lane_on t.ports w ≡ Some l
    → HasDelivered overflow h.slot (lane_on t.ports) ws t.pools pools
    → DeliversOneMore overflow t h ws w l pools

-- However often a loan's message is delivered, somebody has its slot.
abbrev pub SentStaysHeld : Type 0
SentStaysHeld =
    (t : HubTables) (node n : ℕ) (h : HandleState) (overflow : Bool) (ws : List Way)
    (pools : List (Option PoolState)) → AreInOrder t → IsHandle t node n h
    → is_loan h.kind ≡ true → HasDelivered overflow h.slot (lane_on t.ports) ws t.pools pools
    → 0 < (slot_at pools h.pool h.slot).holders

-- The lane of the handle's one way has the message in place of the handle: somebody has what is
-- pushed out, and one less may have it.
pub record HandsOver (overflow : Bool) (t : HubTables) (h : HandleState) (w : Way)
    (l : LaneState) : Type 0
  where
    pub out :
        (j : ℕ) → pushed_out_by overflow h.slot l ≡ Some j
        → 0 < (slot_at t.pools h.pool j).holders
    pub handed :
        HasHandedOver overflow (lane_on t.ports) (w ∷ []) h t.pools
        (with_out t.pools h.pool (pushed_out_by overflow h.slot l))

-- It is so on each way of a loan.
abbrev pub OneWayHandsOver : Type 0
OneWayHandsOver =
    (t : HubTables) (node n : ℕ) (h : HandleState) (overflow : Bool) (w : Way) (l : LaneState)
    → AreInOrder t → IsHandle t node n h → is_loan h.kind ≡ true → w.sender ≡ h.port
    → lane_on t.ports w ≡ Some l → HandsOver overflow t h w l

-- On no way nothing is delivered.
abbrev pub NoStepDeliversNothing : Type 0
NoStepDeliversNothing =
    (overflow : Bool) (k : ℕ) (lanes : OnWays LaneState) (pools : List (Option PoolState))
    → HasDelivered overflow k lanes [] pools pools

-- One less has the message of a handle that is gone, where somebody had it.
abbrev pub LettingGoEndsHandles : Type 0
LettingGoEndsHandles =
    (h : HandleState) (pools : List (Option PoolState))
    → 0 < (slot_at pools h.pool h.slot).holders
    → HasOneHolderLess pools (with_slot let_go pools h.pool h.slot) h

-- The first ways of a loan are its ways too.
abbrev pub FirstWaysAreTargets : Type 0
FirstWaysAreTargets =
    (t : HubTables) (h : HandleState) (ws vs : List Way) → AreTargetsOf t h (ws ++ vs)
    → AreTargetsOf t h ws

-- A change of one lane after those of other ways is a change of all these ways; the lane was as it
-- was before them.
pub record ChangesOneMore (g : LaneState → LaneState) (ports : List PortState) (ws : List Way)
    (w : Way) : Type 0
  where
    pub same :
        with_lanes_on g ports (ws ++ w ∷ []) ≡ with_lane_on g (with_lanes_on g ports ws) w
    pub lane :
        AreDistinctWays (ws ++ w ∷ []) → lane_on (with_lanes_on g ports ws) w ≡ lane_on ports w

-- It is so of each change.
abbrev pub EachChangeIsOneMore : Type 0
EachChangeIsOneMore =
    (g : LaneState → LaneState) (ports : List PortState) (ws : List Way) (w : Way)
    → ChangesOneMore g ports ws w
