-- Loans that are delivered keep the tables of a hub in order, where pools change as messages do.
use Rattle.std.specs.Prelude.{◌≡◌, ℕ, Bool, if◌then◌else◌, List, map, Option, Some}
use Rattle.std.proofs.Common.{ap₂, ◌∙◌, arith}
use Rattle.iox_model.specs.declared.way.Way.{Way}
use Rattle.iox_tables.specs.HubStates.Tables.{HandleState, HubTables, PoolState, numbers_of}
use Rattle.iox_tables.specs.HubStates.Ways.{lane_on}
use Rattle.iox_tables.specs.HubStates.Changes.{with_lanes}
use Rattle.iox_tables.specs.HubStates.Ends.{with_changed, with_dropped}
use Rattle.iox_tables.specs.HubStates.Sendings.{pending_of}
use Rattle.iox_tables.specs.HubStates.Wirings.{IsHandle, handle_in}
use Rattle.iox_tables.proofs.HubStates.Naming.{handle_node, handle_number}
use Rattle.iox_tables.specs.HubBooks.Counts.{is_at, lane_count}
use Rattle.iox_tables.specs.HubBooks.Hubs.{AreInOrder, HoldersAreCounted}
use Rattle.iox_tables.specs.HubBooks.Keeps.{AreTargetsOf, delivers}
use Rattle.iox_tables.proofs.HubBooks.HandleTotals.{handle_changed, handle_dropped}
use Rattle.iox_tables.proofs.HubBooks.LaneLists.{lanes_total}
use Rattle.iox_tables.proofs.HubBooks.LoanDeliveries.{request_deliveries_keep_order, response_deliveries_keep_order}
use Rattle.iox_tables.proofs.HubBooks.Release.{handles_apart}
use Rattle.iox_hub_delivering.specs.Deliveries.{HasDelivered, HasHandedOver}
use Rattle.iox_hub_delivering.specs.Keeps.{DeliveredRequestsKeepOrder, DeliveredResponsesKeepOrder}
use Rattle.iox_hub_delivering.proofs.Pushed.{lanes_give}

-- the handle is found by its own node and number
pub its_name : (t : HubTables) (node n : ℕ) (h : HandleState) → IsHandle t node n h → handle_in t.handles h.node h.number ≡ Some h
its_name t node n h named =
    ap₂ (λ a b. handle_in t.handles a b) (handle_node t.handles node n h named.there) (handle_number t.handles node n h named.there) ∙ named.there

module _ (t : HubTables) (order : AreInOrder t) (node n : ℕ) (h : HandleState) (named : IsHandle t node n h) (overflow : Bool) (ws : List Way) (targets : AreTargetsOf t h ws)
    (pools : List (Option PoolState))
  where
    pub requests_counted : (count : ℕ) → HasDelivered overflow h.slot (lane_on t.ports) ws t.pools pools
        → HoldersAreCounted (record (with_changed (with_lanes (delivers overflow h.slot) t ws) (pending_of h count)) { pools = pools })
    requests_counted count given pool j =
        let new = given.holders pool j in
        let old = order.counted pool j in
        let lanes = lanes_total (lane_count pool j) (delivers overflow h.slot) t.ports ws targets.apart in
        let sums = lanes_give overflow h.slot pool j (lane_on t.ports) ws in
        let handles = handle_changed (λ k. if is_at pool j k then 1 else 0) t.handles (pending_of h count) h (its_name t node n h named) in
        omega (arith, new, old, lanes, sums, handles)

    pub responses_counted : HasHandedOver overflow (lane_on t.ports) ws h t.pools pools
        → HoldersAreCounted (record (with_dropped (with_lanes (delivers overflow h.slot) t ws) node n) { pools = pools })
    responses_counted given pool j =
        let new = given.holders pool j in
        let old = order.counted pool j in
        let lanes = lanes_total (lane_count pool j) (delivers overflow h.slot) t.ports ws targets.apart in
        let sums = lanes_give overflow h.slot pool j (lane_on t.ports) ws in
        let handles = handle_dropped (λ k. if is_at pool j k then 1 else 0) t.handles node n h named.there (handles_apart (numbers_of t.ports) (map (λ x. x.number) t.handles) order.numbers.apart) in
        omega (arith, new, old, lanes, sums, handles)

pub delivered_requests_keep_order : DeliveredRequestsKeepOrder
delivered_requests_keep_order t node n h overflow ws count pools order named kind targets given =
    request_deliveries_keep_order t node n h overflow ws count pools order named kind targets given.same
    (requests_counted t order node n h named overflow ws targets pools count given)

pub delivered_responses_keep_order : DeliveredResponsesKeepOrder
delivered_responses_keep_order t node n h overflow ws pools order named kind targets given =
    response_deliveries_keep_order t node n h overflow ws pools order named kind targets given.same
    (responses_counted t order node n h named overflow ws targets pools given)
