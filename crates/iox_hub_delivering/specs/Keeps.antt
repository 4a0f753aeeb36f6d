-- Sends keep the tables of a hub in order, where who has which slot changes as messages do.
use Rattle.std.specs.Prelude.{◌≡◌, ℕ, Bool, true, false, List, Option, Some}
use Rattle.std.specs.List.{list_any}
use Rattle.iox_model.specs.declared.way.Way.{Way}
use Rattle.iox_model.specs.Doings.{Sending}
use Rattle.iox_model.specs.Handles.{is_received, is_request_loan, is_response_loan}
use Rattle.iox_model.specs.Maps.{AreDistinctWays}
use Rattle.iox_model.specs.Requests.{targets}
use Rattle.iox_tables.specs.HubStates.Tables.{HandleState, HubTables, PoolState}
use Rattle.iox_tables.specs.HubStates.Ways.{lane_on}
use Rattle.iox_tables.specs.HubStates.States.{Given, state_shown}
use Rattle.iox_tables.specs.HubStates.Changes.{with_lanes}
use Rattle.iox_tables.specs.HubStates.Ends.{with_changed, with_dropped}
use Rattle.iox_tables.specs.HubStates.Sendings.{pending_of, request_sending, response_sending}
use Rattle.iox_tables.specs.HubStates.Sends.{free_targets, full_targets, with_emptied, with_pushed, with_sent}
use Rattle.iox_tables.specs.HubStates.Wirings.{IsHandle}
use Rattle.iox_tables.specs.HubBooks.Hubs.{AreInOrder}
use Rattle.iox_tables.specs.HubBooks.Keeps.{AreTargetsOf, HasOneHolderLess, delivers}
use Rattle.iox_tables.specs.HubLending.Emptying as back
use Rattle.iox_tables.specs.HubMaking.WholeReleases.{request_left}
use Rattle.iox_hub_delivering.specs.Deliveries.{HasDelivered, HasHandedOver}

-- ---- deliveries

-- A loaned request that becomes a pending response as it is delivered on ways of its own keeps the
-- tables in order.
abbrev pub DeliveredRequestsKeepOrder : Type 0
DeliveredRequestsKeepOrder =
    (t : HubTables) (node n : ℕ) (h : HandleState) (overflow : Bool) (ws : List Way) (count : ℕ)
    (pools : List (Option PoolState)) → AreInOrder t → IsHandle t node n h
    → is_request_loan h.kind ≡ true → AreTargetsOf t h ws
    → HasDelivered overflow h.slot (lane_on t.ports) ws t.pools pools
    → AreInOrder
    (record (with_changed (with_lanes (delivers overflow h.slot) t ws) (pending_of h count)) {
      pools = pools;
    })

-- So does a loaned response that ends as it is delivered.
abbrev pub DeliveredResponsesKeepOrder : Type 0
DeliveredResponsesKeepOrder =
    (t : HubTables) (node n : ℕ) (h : HandleState) (overflow : Bool) (ws : List Way)
    (pools : List (Option PoolState)) → AreInOrder t → IsHandle t node n h
    → is_response_loan h.kind ≡ true → AreTargetsOf t h ws
    → HasHandedOver overflow (lane_on t.ports) ws h t.pools pools
    → AreInOrder
    (record (with_dropped (with_lanes (delivers overflow h.slot) t ws) node n) { pools = pools })

-- ---- sends

-- With these pools in place of their own the tables are in order, and show the same.
pub record IsInOrderWith (x : Given) (t : HubTables) (pools : List (Option PoolState)) : Type 0
  where
    pub order : AreInOrder (record t { pools = pools })
    pub shown : state_shown x t ≡ state_shown x (record t { pools = pools })

-- The pools are as they are once all that was given back on the targets is got back.
abbrev pub AreGotBackFor : HubTables → Sending → List (Option PoolState) → Type 0
AreGotBackFor t y pools =
    back.HasFewerHolders t.pools pools (back.returned_on t (targets y))

-- What the send of a request without overflow leaves is in order, up to its end.
abbrev pub RequestSendsKeepOrder : Type 0
RequestSendsKeepOrder =
    (x : Given) (t : HubTables) (node n : ℕ) (h : HandleState) (count : ℕ)
    (between pools : List (Option PoolState)) → AreInOrder t → IsHandle t node n h
    → is_request_loan h.kind ≡ true
    → (let y : Sending = request_sending x t h in
    list_any y.fails (full_targets t y) ≡ false → AreGotBackFor t y between
    → HasDelivered false h.slot (lane_on (with_emptied t y).ports) (free_targets t y) between pools
    → IsInOrderWith x (request_left (with_sent t y h.slot) node n h (Some count)).1 pools)

-- So is what one with overflow leaves.
abbrev pub RequestPushesKeepOrder : Type 0
RequestPushesKeepOrder =
    (x : Given) (t : HubTables) (node n : ℕ) (h : HandleState) (count : ℕ)
    (between pools : List (Option PoolState)) → AreInOrder t → IsHandle t node n h
    → is_request_loan h.kind ≡ true
    → (let y : Sending = request_sending x t h in
    AreGotBackFor t y between
    → HasDelivered true h.slot (lane_on (with_emptied t y).ports) (targets y) between pools
    → IsInOrderWith x (request_left (with_pushed t y h.slot) node n h (Some count)).1 pools)

-- What the send of a response without overflow leaves is in order, before its port may be
-- disconnected and its call is counted.
abbrev pub ResponseSendsKeepOrder : Type 0
ResponseSendsKeepOrder =
    (x : Given) (t : HubTables) (node n : ℕ) (h : HandleState)
    (between pools : List (Option PoolState)) → AreInOrder t → IsHandle t node n h
    → is_response_loan h.kind ≡ true
    → (let y : Sending = response_sending x t h in
    list_any y.fails (full_targets t y) ≡ false → AreGotBackFor t y between
    → HasHandedOver false (lane_on (with_emptied t y).ports) (free_targets t y) h between pools
    → IsInOrderWith x (with_dropped (with_sent t y h.slot) node n) pools)

-- So is what one with overflow leaves.
abbrev pub ResponsePushesKeepOrder : Type 0
ResponsePushesKeepOrder =
    (x : Given) (t : HubTables) (node n : ℕ) (h : HandleState)
    (between pools : List (Option PoolState)) → AreInOrder t → IsHandle t node n h
    → is_response_loan h.kind ≡ true
    → (let y : Sending = response_sending x t h in
    AreGotBackFor t y between
    → HasHandedOver true (lane_on (with_emptied t y).ports) (targets y) h between pools
    → IsInOrderWith x (with_dropped (with_pushed t y h.slot) node n) pools)

-- A send that fails, of a request or a response, just ends its loan, once all is got back.
abbrev pub FailedSendsKeepOrder : Type 0
FailedSendsKeepOrder =
    (x : Given) (t : HubTables) (node n : ℕ) (h : HandleState) (y : Sending)
    (between pools : List (Option PoolState)) → AreInOrder t → IsHandle t node n h
    → is_received h.kind ≡ false → AreDistinctWays (targets y)
    → list_any y.fails (full_targets t y) ≡ true → AreGotBackFor t y between
    → HasOneHolderLess between pools h
    → IsInOrderWith x (with_dropped (with_sent t y h.slot) node n) pools

-- One that is refused before, or that nobody awaits, just ends its loan.
abbrev pub RefusedSendsKeepOrder : Type 0
RefusedSendsKeepOrder =
    (x : Given) (t : HubTables) (node n : ℕ) (h : HandleState)
    (pools : List (Option PoolState)) → AreInOrder t → IsHandle t node n h
    → is_received h.kind ≡ false → HasOneHolderLess t.pools pools h
    → IsInOrderWith x (with_dropped t node n) pools
