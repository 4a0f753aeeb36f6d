-- Who has which slot as a message is delivered on several ways.
use Rattle.std.specs.Prelude.{◌≡◌, ℕ, ◌+◌, ◌≤◌, Bool, true, ◌&&◌, if◌then◌else◌, ◌==◌, List, [], ◌∷◌, length, Option, Some, None}
use Rattle.std.specs.Option.{option_map_or}
use Rattle.iox_model.specs.declared.way.Way.{Way}
use Rattle.iox_lanes.specs.Lanes.{LaneState, delivered, is_full, oldest}
use Rattle.iox_tables.specs.HubStates.Tables.{HandleState, PoolState, slot_at}
use Rattle.iox_tables.specs.HubStates.Ways.{OnWays}
use Rattle.iox_tables.specs.HubStates.Changes.{OnEach}
use Rattle.iox_tables.specs.HubStates.Shown.{by_lane}
use Rattle.iox_tables.specs.HubBooks.Counts.{is_at, total}
use Rattle.iox_tables.specs.HubBooks.Keeps.{HasOneHolderLess, bare_pools}

-- ---- one lane

-- The message that is pushed out of the lane as the one in slot k is delivered: with overflow, the
-- oldest of a full lane.
abbrev pub pushed_out_by : Bool → ℕ → LaneState → Option ℕ
pushed_out_by overflow k l = if overflow && is_full l then oldest (delivered l k) else None

-- 1 if the message in slot j of that pool is pushed out, else 0
abbrev pub out_count : Bool → ℕ → ℕ → ℕ → LaneState → ℕ
out_count overflow k pool j l =
    if l.pool == pool then option_map_or (λ i. if i == j then 1 else 0) (pushed_out_by overflow k l) 0
    else 0

-- 1 if the message in slot k of the lane's pool is the one in slot j of that pool, else 0
abbrev pub in_count : ℕ → ℕ → ℕ → LaneState → ℕ
in_count k pool j l = if (l.pool == pool) && (k == j) then 1 else 0

-- ---- several ways

-- how often the message in slot j of that pool is pushed out on these ways
abbrev pub pushed_on : Bool → ℕ → OnWays LaneState → List Way → ℕ → ℕ → ℕ
pushed_on overflow k lanes ws pool j = total (by_lane (out_count overflow k pool j) 0 lanes) ws

-- how often it is the one that is delivered, once on each of these ways that has a lane
abbrev pub delivered_on : ℕ → OnWays LaneState → List Way → ℕ → ℕ → ℕ
delivered_on k lanes ws pool j = total (by_lane (in_count k pool j) 0 lanes) ws

-- Pools differ only in holders: one more has the message in slot k for each way on which it is
-- delivered, and one less each message that is pushed out there.
pub record HasDelivered (overflow : Bool) (k : ℕ) (lanes : OnWays LaneState) (ws : List Way)
    (old new : List (Option PoolState)) : Type 0
  where
    pub same : bare_pools old ≡ bare_pools new
    pub holders :
        (pool j : ℕ)
        → (slot_at new pool j).holders + pushed_on overflow k lanes ws pool j
        ≡ (slot_at old pool j).holders + delivered_on k lanes ws pool j

-- The same for the message of a handle that is then gone: one less has it.
pub record HasHandedOver (overflow : Bool) (lanes : OnWays LaneState) (ws : List Way)
    (h : HandleState) (old new : List (Option PoolState)) : Type 0
  where
    pub same : bare_pools old ≡ bare_pools new
    pub holders :
        (pool j : ℕ)
        → (slot_at new pool j).holders
        + (pushed_on overflow h.slot lanes ws pool j + (if is_at pool j h then 1 else 0))
        ≡ (slot_at old pool j).holders + delivered_on h.slot lanes ws pool j

-- ---- laws

-- Where at least one may wait, what is pushed out waited before: the oldest of a full lane.
abbrev pub PushedOutIsTheOldest : Type 0
PushedOutIsTheOldest =
    (l : LaneState) (k : ℕ) → 1 ≤ l.buffer
    → pushed_out_by true k l ≡ (if is_full l then oldest l else None)

-- On ways that each have a lane of that pool, the message in slot k of it is delivered once each,
-- and no other is.
abbrev pub EachWayIsOneDelivery : Type 0
EachWayIsOneDelivery =
    (k place : ℕ) (lanes : OnWays LaneState) (ws : List Way) (pool j : ℕ)
    → OnEach (λ w l. l.pool ≡ place) lanes ws
    → delivered_on k lanes ws pool j ≡ (if (place == pool) && (k == j) then length ws else 0)

-- A message may be delivered first, and its handle may go then, or the other way round.
pub record HandOversAreBoth (overflow : Bool) (lanes : OnWays LaneState) (ws : List Way)
    (h : HandleState) (old between new : List (Option PoolState)) : Type 0
  where
    pub delivered_first :
        HasDelivered overflow h.slot lanes ws old between → HasOneHolderLess between new h
        → HasHandedOver overflow lanes ws h old new
    pub gone_first :
        HasOneHolderLess old between h → HasDelivered overflow h.slot lanes ws between new
        → HasHandedOver overflow lanes ws h old new

-- It is so of all pools.
abbrev pub EachHandOverIsBoth : Type 0
EachHandOverIsBoth =
    (overflow : Bool) (lanes : OnWays LaneState) (ws : List Way) (h : HandleState)
    (old between new : List (Option PoolState))
    → HandOversAreBoth overflow lanes ws h old between new

-- On one way, the lane may have the message in place of the handle.
abbrev pub OneLaneMayTakeOver : Type 0
OneLaneMayTakeOver =
    (overflow : Bool) (lanes : OnWays LaneState) (w : Way) (l : LaneState) (h : HandleState)
    (old new : List (Option PoolState))
    → lanes w ≡ Some l → l.pool ≡ h.pool → bare_pools old ≡ bare_pools new
    → ((pool j : ℕ)
    → (slot_at new pool j).holders + out_count overflow h.slot pool j l
    ≡ (slot_at old pool j).holders)
    → HasHandedOver overflow lanes (w ∷ []) h old new
