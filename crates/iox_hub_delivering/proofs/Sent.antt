-- Sends keep the tables of a hub in order, with what comes before their deliveries.
use Rattle.std.specs.Prelude.{◌≡◌, ℕ, Bool, true, false, if◌then◌else◌, List, Option}
use Rattle.std.specs.List.{list_any}
use Rattle.std.proofs.Common.{sym, ap, subst, ◌∙◌}
use Rattle.iox_model.specs.declared.way.Way.{Way}
use Rattle.iox_model.specs.Doings.{Sending}
use Rattle.iox_model.specs.Requests.{targets, to_open}
use Rattle.iox_tables.specs.HubStates.Tables.{HandleState, HubTables, PoolState}
use Rattle.iox_tables.specs.HubStates.Ways.{OnWays, lane_on}
use Rattle.iox_tables.specs.HubStates.States.{Given}
use Rattle.iox_tables.specs.HubStates.Changes.{with_lanes}
use Rattle.iox_tables.specs.HubStates.Ends.{with_call, with_changed, with_dropped}
use Rattle.iox_lanes.specs.Lanes.{LaneState}
use Rattle.iox_tables.specs.HubStates.Sendings.{pending_of, request_sending, response_sending}
use Rattle.iox_tables.specs.HubStates.Sends.{free_targets, full_targets, with_delivered, with_emptied, with_opened, with_pushed, with_sent}
use Rattle.iox_tables.specs.HubStates.Wirings.{IsHandle}
use Rattle.iox_model.specs.Handles.{is_request_loan, is_response_loan}
use Rattle.iox_tables.specs.HubBooks.Hubs.{AreInOrder}
use Rattle.iox_tables.specs.HubBooks.Keeps.{AreTargetsOf, bare_pools, delivers}
use Rattle.iox_tables.proofs.HubBooks.Little.{little_changes_keep_order}
use Rattle.iox_tables.proofs.HubBooks.Released.{loan_releases_keep_order}
use Rattle.iox_tables.proofs.HubBooks.Rooms.{bare_pools_show_the_same}
use Rattle.iox_tables.proofs.HubBooks.Targets.{each_has_its_targets}
use Rattle.iox_hub_delivering.specs.Deliveries.{HasDelivered, HasHandedOver}
use Rattle.iox_hub_delivering.specs.Keeps.{AreGotBackFor, FailedSendsKeepOrder, IsInOrderWith, RefusedSendsKeepOrder, RequestPushesKeepOrder, RequestSendsKeepOrder, ResponsePushesKeepOrder, ResponseSendsKeepOrder}
use Rattle.iox_hub_delivering.proofs.Before.{emptied_alike, emptied_in_order, named_stays, opened_alike, opened_in_order, opened_lanes, opened_ports, request_targets, response_targets, targets_stay}
use Rattle.iox_hub_delivering.proofs.Delivered.{delivered_requests_keep_order, delivered_responses_keep_order}

-- tables in order show the same with their pools, but for holders, in place of others
pub in_order_with : (x : Given) (t : HubTables) (pools : List (Option PoolState)) → bare_pools t.pools ≡ bare_pools pools → AreInOrder (record t { pools = pools }) → IsInOrderWith x t pools
in_order_with x t pools same order = record { order = order; shown = bare_pools_show_the_same x t pools same }

-- where nothing full makes it fail, it is delivered
pub goes_out : (t : HubTables) (y : Sending) (k : ℕ) → list_any y.fails (full_targets t y) ≡ false → with_sent t y k ≡ with_delivered t y k (free_targets t y)
goes_out t y k passes = ap (λ (b : Bool). if b then with_emptied t y else with_delivered t y k (free_targets t y)) passes

-- where something does, it is not
pub fails_at : (t : HubTables) (y : Sending) (k : ℕ) → list_any y.fails (full_targets t y) ≡ true → with_sent t y k ≡ with_emptied t y
fails_at t y k fails = ap (λ (b : Bool). if b then with_emptied t y else with_delivered t y k (free_targets t y)) fails

module _ (x : Given) (t : HubTables) (order : AreInOrder t) (node n : ℕ) (h : HandleState) (named : IsHandle t node n h) (between pools : List (Option PoolState)) where
  -- ---- requests

  module _ (kind : is_request_loan h.kind ≡ true) (count : ℕ) (back : AreGotBackFor t (request_sending x t h) between) where
    abbrev y : Sending
    y = request_sending x t h

    given : AreTargetsOf t h (targets y)
    given = request_targets x t order node n h named kind

    request_out : (overflow : Bool) (ws : List Way) → AreTargetsOf t h ws → HasDelivered overflow h.slot (lane_on (with_emptied t y).ports) ws between pools
        → AreInOrder (record (with_changed (with_lanes (delivers overflow h.slot) (with_opened (with_emptied t y) y.loan.request (to_open y)) ws) (pending_of h count)) { pools = pools })
    request_out overflow ws its delivered =
        delivered_requests_keep_order (record t { ports = opened_ports t order y given.apart between back; pools = between }) node n h overflow ws count pools
        (opened_in_order t order y given.apart between back)
        (named_stays t (opened_ports t order y given.apart between back) between (opened_alike t order y given.apart between back) node n h named) kind
        (targets_stay t (opened_ports t order y given.apart between back) between (opened_alike t order y given.apart between back) h ws back.same its)
        (subst (λ (on : OnWays LaneState). HasDelivered overflow h.slot on ws between pools) (opened_lanes t order y given.apart between back) delivered)

    request_sent : list_any y.fails (full_targets t y) ≡ false → HasDelivered false h.slot (lane_on (with_emptied t y).ports) (free_targets t y) between pools
        → IsInOrderWith x (with_call (with_changed (with_sent t y h.slot) (pending_of h count))) pools
    request_sent passes delivered =
        subst (λ s. IsInOrderWith x (with_call (with_changed s (pending_of h count))) pools) (sym (goes_out t y h.slot passes))
        (in_order_with x (with_call (with_changed (with_delivered t y h.slot (free_targets t y)) (pending_of h count))) pools (back.same ∙ delivered.same)
        (little_changes_keep_order (record (with_changed (with_delivered t y h.slot (free_targets t y)) (pending_of h count)) { pools = pools })
        (request_out false (free_targets t y) ((each_has_its_targets t node n h order named).left (full_targets t y) (targets y) given) delivered)).2)

    request_pushed : HasDelivered true h.slot (lane_on (with_emptied t y).ports) (targets y) between pools
        → IsInOrderWith x (with_call (with_changed (with_pushed t y h.slot) (pending_of h count))) pools
    request_pushed delivered =
        in_order_with x (with_call (with_changed (with_pushed t y h.slot) (pending_of h count))) pools (back.same ∙ delivered.same)
        (little_changes_keep_order (record (with_changed (with_pushed t y h.slot) (pending_of h count)) { pools = pools }) (request_out true (targets y) given delivered)).2

  -- ---- responses

  module _ (kind : is_response_loan h.kind ≡ true) (back : AreGotBackFor t (response_sending x t h) between) where
    abbrev z : Sending
    z = response_sending x t h

    its : AreTargetsOf t h (targets z)
    its = response_targets x t order node n h named kind

    response_out : (overflow : Bool) (ws : List Way) → AreTargetsOf t h ws → HasHandedOver overflow (lane_on (with_emptied t z).ports) ws h between pools
        → AreInOrder (record (with_dropped (with_lanes (delivers overflow h.slot) (with_opened (with_emptied t z) z.loan.request (to_open z)) ws) node n) { pools = pools })
    response_out overflow ws given delivered =
        delivered_responses_keep_order (record t { ports = opened_ports t order z its.apart between back; pools = between }) node n h overflow ws pools
        (opened_in_order t order z its.apart between back)
        (named_stays t (opened_ports t order z its.apart between back) between (opened_alike t order z its.apart between back) node n h named) kind
        (targets_stay t (opened_ports t order z its.apart between back) between (opened_alike t order z its.apart between back) h ws back.same given)
        (subst (λ (on : OnWays LaneState). HasHandedOver overflow on ws h between pools) (opened_lanes t order z its.apart between back) delivered)

    response_sent : list_any z.fails (full_targets t z) ≡ false → HasHandedOver false (lane_on (with_emptied t z).ports) (free_targets t z) h between pools
        → IsInOrderWith x (with_dropped (with_sent t z h.slot) node n) pools
    response_sent passes delivered =
        subst (λ s. IsInOrderWith x (with_dropped s node n) pools) (sym (goes_out t z h.slot passes))
        (in_order_with x (with_dropped (with_delivered t z h.slot (free_targets t z)) node n) pools (back.same ∙ delivered.same)
        (response_out false (free_targets t z) ((each_has_its_targets t node n h order named).left (full_targets t z) (targets z) its) delivered))

    response_pushed : HasHandedOver true (lane_on (with_emptied t z).ports) (targets z) h between pools
        → IsInOrderWith x (with_dropped (with_pushed t z h.slot) node n) pools
    response_pushed delivered =
        in_order_with x (with_dropped (with_pushed t z h.slot) node n) pools (back.same ∙ delivered.same) (response_out true (targets z) its delivered)

pub request_sends_keep_order : RequestSendsKeepOrder
request_sends_keep_order x t node n h count between pools order named kind passes back delivered =
    request_sent x t order node n h named between pools kind count back passes delivered

pub request_pushes_keep_order : RequestPushesKeepOrder
request_pushes_keep_order x t node n h count between pools order named kind back delivered =
    request_pushed x t order node n h named between pools kind count back delivered

pub response_sends_keep_order : ResponseSendsKeepOrder
response_sends_keep_order x t node n h between pools order named kind passes back delivered =
    response_sent x t order node n h named between pools kind back passes delivered

pub response_pushes_keep_order : ResponsePushesKeepOrder
response_pushes_keep_order x t node n h between pools order named kind back delivered =
    response_pushed x t order node n h named between pools kind back delivered

-- ---- sends that come to nothing

pub failed_sends_keep_order : FailedSendsKeepOrder
failed_sends_keep_order x t node n h y between pools order named not apart fails back fewer =
    subst (λ s. IsInOrderWith x (with_dropped s node n) pools) (sym (fails_at t y h.slot fails))
    (in_order_with x (with_dropped (with_emptied t y) node n) pools (back.same ∙ fewer.same)
    (loan_releases_keep_order (record (with_emptied t y) { pools = between }) node n h pools (emptied_in_order t order y apart between back)
    (named_stays t (with_emptied t y).ports between (emptied_alike t order y apart between back) node n h named) not fewer))

pub refused_sends_keep_order : RefusedSendsKeepOrder
refused_sends_keep_order x t node n h pools order named not fewer =
    in_order_with x (with_dropped t node n) pools fewer.same (loan_releases_keep_order t node n h pools order named not fewer)
