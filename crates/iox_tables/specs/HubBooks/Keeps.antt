-- Tables that are in order stay so: what a call does to them, and to the holders of slots.
use Rattle.std.specs.Prelude.{◌≡◌, ℕ, ◌+◌, Bool, true, false, ◌&&◌, if◌then◌else◌, ◌==◌, List, [], ◌∷◌, map, Option}
use Rattle.std.specs.Option.{option_map}
use Rattle.iox_model.specs.declared.kind.Kind.TheVariants.{PendingResponse}
use Rattle.iox_model.specs.declared.way.RequestState.{RequestState}
use Rattle.iox_model.specs.declared.way.Way.{Way}
use Rattle.iox_model.specs.Maps.{AreDistinctWays, has_way, not_in}
use Rattle.iox_model.specs.Messages.{request_way, response_way}
use Rattle.iox_model.specs.Handles.{is_received, is_request_loan, is_response_loan}
use Rattle.iox_model.specs.declared.kind.Role.TheVariants.{Client, Server}
use Rattle.iox_lanes.specs.Lanes.{LaneState, delivered}
use Rattle.iox_lanes.specs.declared.incoming.Visits.{Visits}
use Rattle.iox_lanes.specs.declared.incoming.Visits.TheVariants.{Got, AtLimit, Nothing}
use Rattle.iox_lanes.specs.declared.wanted.Wanted.TheVariants.{Of}
use Rattle.iox_tables.specs.HubStates.Tables.{HandleState, HubTables, PoolState, SlotState, labels_of, slot_at}
use Rattle.iox_tables.specs.HubStates.Receives.{visits_at, wanted_by_server, with_request, with_response}
use Rattle.iox_tables.specs.HubStates.States.{Given, state_shown}
use Rattle.iox_tables.specs.HubStates.Ends.{with_call, with_changed, with_dropped}
use Rattle.iox_tables.specs.HubStates.Sendings.{pending_of}
use Rattle.iox_tables.specs.HubStates.Changes.{emptied_lane, pushed_lane, with_lanes, with_states}
use Rattle.iox_tables.specs.HubStates.Shown.{by_lane}
use Rattle.iox_tables.specs.HubStates.Ways.{lane_on}
use Rattle.iox_tables.specs.HubStates.Releases.{lane_of, with_given_back, with_pending_released, with_request_closed, with_value_released}
use Rattle.iox_tables.specs.HubStates.Wirings.{IsHandle, IsPending, IsServer, numbers_of_role, role_in}
use Rattle.iox_tables.specs.HubBooks.Counts.{how_often, is_at, total}
use Rattle.iox_tables.specs.HubBooks.Handles.{way_in}
use Rattle.iox_tables.specs.HubBooks.Hubs.{AreInOrder, HoldersAreCounted}

-- ---- pools

-- the slot, but for who has it
abbrev pub bare_slot : SlotState → SlotState
bare_slot s = record s { holders = 0 }

-- the pool, but for who has its slots
abbrev pub bare_pool : PoolState → PoolState
bare_pool p = record p { slots = map bare_slot p.slots }

-- the same, for each pool
abbrev pub bare_pools : List (Option PoolState) → List (Option PoolState)
bare_pools pools = map (option_map bare_pool) pools

-- Pools differ only in holders: each slot has so many more.
pub record HasMoreHolders (old new : List (Option PoolState)) (more : ℕ → ℕ → ℕ) : Type 0 where
  pub same : bare_pools old ≡ bare_pools new
  pub holders :
      (pool k : ℕ) → (slot_at new pool k).holders ≡ (slot_at old pool k).holders + more pool k

-- Holders are not shown: as they change the state stays.
abbrev pub BarePoolsShowTheSame : Type 0
BarePoolsShowTheSame =
    (x : Given) (t : HubTables) (pools : List (Option PoolState))
    → bare_pools t.pools ≡ bare_pools pools
    → state_shown x t ≡ state_shown x (record t { pools = pools })

-- ---- receives

-- one for the slot of the message that was got
abbrev pub got_once : Visits → ℕ → ℕ → ℕ
got_once (Got sender place j) pool k = if (place == pool) && (j == k) then 1 else 0
got_once AtLimit pool k = 0
got_once Nothing pool k = 0

-- A server's receive keeps the tables in order, where the slot of its message has one holder more.
abbrev pub RequestsKeepOrder : Type 0
RequestsKeepOrder =
    (t : HubTables) (node n : ℕ) (pools : List (Option PoolState)) → AreInOrder t
    → IsServer t node n
    → HasMoreHolders t.pools pools
    (got_once (visits_at t n 0 (wanted_by_server t.settings.fire_and_forget)))
    → AreInOrder (record (with_request t node n) { pools = pools })

-- So does the receive of a pending response.
abbrev pub ResponsesKeepOrder : Type 0
ResponsesKeepOrder =
    (t : HubTables) (node n : ℕ) (pools : List (Option PoolState)) → AreInOrder t
    → (pending : IsPending t node n)
    → HasMoreHolders t.pools pools
    (got_once (visits_at t pending.handle.port
    (labels_of t.pools pending.handle.pool pending.handle.slot).lane
    (Of (labels_of t.pools pending.handle.pool pending.handle.slot).request)))
    → AreInOrder (record (with_response t node pending.handle) { pools = pools })

-- ---- releases

-- Pools differ only in holders: the slot of the handle's message has one less.
pub record HasOneHolderLess (old new : List (Option PoolState)) (h : HandleState) : Type 0 where
  pub same : bare_pools old ≡ bare_pools new
  pub holders :
      (pool k : ℕ)
      → (slot_at new pool k).holders + (if is_at pool k h then 1 else 0)
      ≡ (slot_at old pool k).holders

-- The release of a loan keeps the tables in order, where its slot has one holder less.
abbrev pub LoanReleasesKeepOrder : Type 0
LoanReleasesKeepOrder =
    (t : HubTables) (node n : ℕ) (h : HandleState) (pools : List (Option PoolState))
    → AreInOrder t → IsHandle t node n h → is_received h.kind ≡ false
    → HasOneHolderLess t.pools pools h
    → AreInOrder (record (with_dropped t node n) { pools = pools })

-- So does that of a pending response, which closes requests.
abbrev pub PendingReleasesKeepOrder : Type 0
PendingReleasesKeepOrder =
    (t : HubTables) (node n : ℕ) (h : HandleState) (pools : List (Option PoolState))
    → AreInOrder t → IsHandle t node n h → h.kind ≡ PendingResponse
    → HasOneHolderLess t.pools pools h
    → AreInOrder (record (with_pending_released t node n h) { pools = pools })

-- So does that of a response, which is given back.
abbrev pub ResponseReleasesKeepOrder : Type 0
ResponseReleasesKeepOrder =
    (t : HubTables) (node n : ℕ) (h : HandleState) (pools : List (Option PoolState))
    → AreInOrder t → IsHandle t node n h → is_received h.kind ≡ true
    → HasOneHolderLess t.pools pools h
    → AreInOrder
    (record (with_dropped (with_given_back t (way_in t.pools h) h) node n) { pools = pools })

-- So does that of an active request, which is given back and closes a request.
abbrev pub RequestReleasesKeepOrder : Type 0
RequestReleasesKeepOrder =
    (t : HubTables) (node n : ℕ) (h : HandleState) (own : Way)
    (pools : List (Option PoolState))
    → AreInOrder t → IsHandle t node n h → is_received h.kind ≡ true
    → HasOneHolderLess t.pools pools h
    → AreInOrder
    (record (with_dropped (with_request_closed t (way_in t.pools h) own h) node n) {
      pools = pools;
    })

-- ---- what no slot and no handle sees

-- As request states change, as a port's own value is released, and as a call is counted, the tables
-- stay in order.
abbrev pub LittleChangesKeepOrder : Type 0
LittleChangesKeepOrder =
    (t : HubTables) → AreInOrder t
    → ((g : RequestState → RequestState) (ws : List Way) → AreInOrder (with_states g t ws))
    × ((n : ℕ) → AreInOrder (with_value_released t n))
    × AreInOrder (with_call t)

-- ---- sends

-- The ways of a loan's message: they differ, they come from the loan's port, and those to clients
-- are of the loan's lane.
pub record AreTargetsOf (t : HubTables) (h : HandleState) (ws : List Way) : Type 0 where
  pub apart : AreDistinctWays ws
  pub sender : (w : Way) → has_way w ws ≡ true → w.sender ≡ h.port
  pub lane :
      (w : Way) → has_way w ws ≡ true → role_in t.ports w.receiver ≡ Client
      → (slot_at t.pools h.pool h.slot).lane ≡ w.lane

-- how a lane gets the message in that slot: with overflow, or without
abbrev pub delivers : Bool → ℕ → LaneState → LaneState
delivers overflow k l = if overflow then pushed_lane k l else delivered l k

-- A loaned request that becomes a pending response as it is delivered keeps the tables in order,
-- where holders are counted anew.
abbrev pub RequestDeliveriesKeepOrder : Type 0
RequestDeliveriesKeepOrder =
    (t : HubTables) (node n : ℕ) (h : HandleState) (overflow : Bool) (ws : List Way) (count : ℕ)
    (pools : List (Option PoolState)) → AreInOrder t → IsHandle t node n h
    → is_request_loan h.kind ≡ true → AreTargetsOf t h ws → bare_pools t.pools ≡ bare_pools pools
    → HoldersAreCounted
    (record (with_changed (with_lanes (delivers overflow h.slot) t ws) (pending_of h count)) {
      pools = pools;
    })
    → AreInOrder
    (record (with_changed (with_lanes (delivers overflow h.slot) t ws) (pending_of h count)) {
      pools = pools;
    })

-- So does a loaned response that ends as it is delivered.
abbrev pub ResponseDeliveriesKeepOrder : Type 0
ResponseDeliveriesKeepOrder =
    (t : HubTables) (node n : ℕ) (h : HandleState) (overflow : Bool) (ws : List Way)
    (pools : List (Option PoolState)) → AreInOrder t → IsHandle t node n h
    → is_response_loan h.kind ≡ true → AreTargetsOf t h ws → bare_pools t.pools ≡ bare_pools pools
    → HoldersAreCounted
    (record (with_dropped (with_lanes (delivers overflow h.slot) t ws) node n) { pools = pools })
    → AreInOrder
    (record (with_dropped (with_lanes (delivers overflow h.slot) t ws) node n) { pools = pools })

-- All servers are such ways for a loaned request, those that are left of such ways are, and so is
-- the way of a response to its client.
pub record TargetsAreSuch (t : HubTables) (node n : ℕ) (h : HandleState) : Type 0 where
  pub requests :
      is_request_loan h.kind ≡ true
      → AreTargetsOf t h (map (request_way h.port) (numbers_of_role Server t.ports))
  pub response : AreTargetsOf t h (response_way h.client (lane_of t h) h.port ∷ [])
  pub left : (full ws : List Way) → AreTargetsOf t h ws → AreTargetsOf t h (not_in full ws)

-- It is so of each handle.
abbrev pub EachHasItsTargets : Type 0
EachHasItsTargets =
    (t : HubTables) (node n : ℕ) (h : HandleState) → AreInOrder t → IsHandle t node n h
    → TargetsAreSuch t node n h
