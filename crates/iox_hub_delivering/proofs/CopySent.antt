-- Sends of copies keep the tables of a hub in order, with what comes before their deliveries.
use Rattle.std.specs.Prelude.{◌≡◌, ℕ, Bool, true, false, if◌then◌else◌, List, map, Option, refl}
use Rattle.std.specs.List.{list_any}
use Rattle.std.proofs.Common.{sym, ap, subst, ◌∙◌}
use Rattle.iox_model.specs.declared.kind.Role.TheVariants.{Client, Server}
use Rattle.iox_model.specs.declared.way.RequestState.{RequestState}
use Rattle.iox_model.specs.declared.way.RequestState.TheVariants.{Named}
use Rattle.iox_model.specs.declared.way.Way.{Way}
use Rattle.iox_model.specs.Doings.{Sending}
use Rattle.iox_model.specs.Handles.{is_request_loan}
use Rattle.iox_model.specs.Messages.{request_way, response_way}
use Rattle.iox_model.specs.Requests.{targets, to_open}
use Rattle.iox_lanes.specs.Lanes.{LaneState}
use Rattle.iox_tables.specs.HubStates.Tables.{HandleState, HubTables, PoolState, PortState, slot_at}
use Rattle.iox_tables.specs.HubStates.Ways.{OnWays, lane_on, with_lanes_on, with_states_on}
use Rattle.iox_tables.specs.HubStates.States.{Given}
use Rattle.iox_tables.specs.HubStates.Changes.{emptied_lane, with_lanes}
use Rattle.iox_tables.specs.HubStates.Ends.{with_call}
use Rattle.iox_tables.specs.HubStates.Sends.{free_targets, full_targets, with_emptied, with_sent}
use Rattle.iox_tables.specs.HubStates.Shown.{by_lane}
use Rattle.iox_tables.proofs.HubStates.Keys.{all_lanes_stay}
use Rattle.iox_tables.specs.HubBooks.Counts.{total}
use Rattle.iox_tables.specs.HubBooks.Hubs.{AreInOrder}
use Rattle.iox_tables.specs.HubBooks.Keeps.{AreTargetsOf, HasOneHolderLess, delivers}
use Rattle.iox_tables.proofs.HubBooks.Frames.{AreAlike, lanes_on_bare, states_on_bare}
use Rattle.iox_tables.proofs.HubBooks.Little.{little_changes_keep_order}
use Rattle.iox_tables.proofs.HubBooks.Targets.{each_has_its_targets}
use Rattle.iox_tables.specs.HubLoans.CopySends.{copy_sending, with_copied, with_loan_call}
use Rattle.iox_tables.specs.HubLoans.Lenders.{Lender}
use Rattle.iox_tables.specs.HubLoans.Loans.{loaned_handle, with_loaned_slot}
use Rattle.iox_tables.specs.HubLending.Emptying.{returned_count}
use Rattle.iox_tables.specs.HubLending.Emptying as back
use Rattle.iox_tables.specs.HubLending.Lending.{MayLend}
use Rattle.iox_tables.proofs.HubLending.Emptied.{emptying_keeps_order}
use Rattle.iox_tables.proofs.HubLending.OneMore.{roles_same}
use Rattle.iox_hub_delivering.specs.CopySends.{FailedCopySendsInOrder, RequestCopiesPushInOrder, RequestCopiesSendInOrder, ResponseCopiesPushInOrder, ResponseCopiesSendInOrder}
use Rattle.iox_hub_delivering.specs.Deliveries.{HasDelivered, HasHandedOver}
use Rattle.iox_hub_delivering.specs.Keeps.{AreGotBackFor, IsInOrderWith}
use Rattle.iox_hub_delivering.proofs.Before.{request_targets, response_targets}
use Rattle.iox_hub_delivering.proofs.Copied.{copy_failed, h, is_request, is_response, named, request_copied, response_copied, same_lanes, u, v, v_order, w}
use Rattle.iox_hub_delivering.proofs.Loaned.{loan_after, loan_after_states}
use Rattle.iox_hub_delivering.proofs.Sent.{fails_at, goes_out, in_order_with}
use Rattle.iox_model.specs.declared.kind.Role.{Role}

module _ (t : HubTables) (order : AreInOrder t) (y : Lender) (k slot : ℕ) (lends : MayLend t y slot) where
  abbrev loan : HandleState
  loan = h t order y k slot lends

  abbrev before : HubTables
  before = u t order y k slot lends

  abbrev out : HubTables
  out = v t order y k slot lends

  out_order : AreInOrder out
  out_order = v_order t order y k slot lends

  -- ---- the ways of a copy

  module _ (x : Given) where
    to_servers : y.port.role ≡ Client → AreTargetsOf out loan (targets (copy_sending Client x before loan))
    to_servers role =
        subst (AreTargetsOf out loan)
        (ap
        (λ (ns : List ℕ).
        if is_request_loan loan.kind then map (request_way loan.port) ns
        else map (λ client. response_way client (slot_at before.pools loan.pool loan.slot).lane loan.port) ns)
        (roles_same t.ports y.port.number Server))
        (request_targets x out out_order y.port.node t.next_number loan (named t order y k slot lends t.ports refl before.pools refl) (is_request y.port.role role))

    to_client : y.port.role ≡ Server → AreTargetsOf out loan (targets (copy_sending Server x before loan))
    to_client role = response_targets x out out_order y.port.node t.next_number loan (named t order y k slot lends t.ports refl before.pools refl) (is_response y.port.role role)

    to_receivers : (role : Role) → y.port.role ≡ role → AreTargetsOf out loan (targets (copy_sending role x before loan))
    to_receivers Client = to_servers
    to_receivers Server = to_client

  module _ (z : Sending) (its : AreTargetsOf out loan (targets z)) (between : List (Option PoolState)) (got : AreGotBackFor before z between) where
    -- ---- the tables before deliveries

    abbrev emptied_ports : List PortState
    emptied_ports = with_lanes_on emptied_lane t.ports (targets z)

    emptied_alike : AreAlike t.ports emptied_ports
    emptied_alike = lanes_on_bare emptied_lane (λ l. refl) t.ports (targets z)

    emptied_ready : AreInOrder (w t order y k slot lends emptied_ports emptied_alike between got.same)
    emptied_ready =
        subst (λ (ps : List PortState). AreInOrder (record out { ports = ps; pools = between })) (loan_after emptied_lane t.ports (targets z) y.port.number)
        (emptying_keeps_order out (targets z) between out_order its.apart
        (subst (λ (on : OnWays LaneState). back.HasFewerHolders before.pools between (λ pool j. total (by_lane (returned_count pool j) 0 on) (targets z))) (same_lanes t order y k slot lends) got))

    abbrev named_now : RequestState → RequestState
    named_now r = Named z.loan.request false

    abbrev opened : List PortState
    opened = with_states_on named_now emptied_ports (to_open z)

    opened_alike : AreAlike t.ports opened
    opened_alike = states_on_bare named_now emptied_ports (to_open z) ∙ emptied_alike

    ready : AreInOrder (w t order y k slot lends opened opened_alike between got.same)
    ready =
        subst (λ (ps : List PortState). AreInOrder (record out { ports = ps; pools = between })) (loan_after_states named_now emptied_ports (to_open z) y.port.number)
        ((little_changes_keep_order (w t order y k slot lends emptied_ports emptied_alike between got.same) emptied_ready).0 named_now (to_open z))

    opened_lanes : lane_on emptied_ports ≡ lane_on opened
    opened_lanes = sym (all_lanes_stay named_now emptied_ports (to_open z))

    -- ---- sends

    module _ (x : Given) (overflow : Bool) (ws : List Way) (ways : AreTargetsOf out loan ws) (pools : List (Option PoolState)) where
      abbrev sent : HubTables
      sent = with_lanes (delivers overflow slot) (record before { ports = opened }) ws

      request_sent : (count : ℕ) → y.port.role ≡ Client → HasDelivered overflow slot (lane_on emptied_ports) ws between pools
          → IsInOrderWith x (with_call (with_loan_call (with_copied Client sent loan count) loan)) pools
      request_sent count role given =
          in_order_with x (with_call (with_loan_call (with_copied Client sent loan count) loan)) pools (got.same ∙ given.same)
          (little_changes_keep_order (record (with_loan_call (with_copied Client sent loan count) loan) { pools = pools })
          (request_copied t order y k slot lends opened opened_alike between got.same ready overflow ws ways pools count (is_request y.port.role role)
          (subst (λ (on : OnWays LaneState). HasDelivered overflow slot on ws between pools) opened_lanes given))).2

      response_sent : (count : ℕ) → y.port.role ≡ Server → HasHandedOver overflow (lane_on emptied_ports) ws loan between pools
          → IsInOrderWith x (with_call (with_loan_call (with_copied Server sent loan count) loan)) pools
      response_sent count role given =
          in_order_with x (with_call (with_loan_call (with_copied Server sent loan count) loan)) pools (got.same ∙ given.same)
          (little_changes_keep_order (record (with_loan_call (with_copied Server sent loan count) loan) { pools = pools })
          (response_copied t order y k slot lends opened opened_alike between got.same ready overflow ws ways pools (is_response y.port.role role)
          (subst (λ (on : OnWays LaneState). HasHandedOver overflow on ws loan between pools) opened_lanes given))).2

    free_ways : AreTargetsOf out loan (free_targets before z)
    free_ways =
        (each_has_its_targets out y.port.node t.next_number loan out_order (named t order y k slot lends t.ports refl before.pools refl)).left (full_targets before z) (targets z) its

    failed : (x : Given) (pools : List (Option PoolState)) → list_any z.fails (full_targets before z) ≡ true → HasOneHolderLess between pools loan
        → IsInOrderWith x (with_loan_call (with_sent before z slot) loan) pools
    failed x pools fails fewer =
        subst (λ s. IsInOrderWith x (with_loan_call s loan) pools) (sym (fails_at before z slot fails))
        (in_order_with x (with_loan_call (with_emptied before z) loan) pools (got.same ∙ fewer.same)
        (copy_failed t order y k slot lends emptied_ports emptied_alike between got.same emptied_ready pools fewer))

-- ---- the laws

abbrev copy : HubTables → Lender → ℕ → HandleState
copy t y slot = loaned_handle t y false slot

-- the send of the copy by a port of that role
abbrev sends : Role → Given → HubTables → Lender → ℕ → ℕ → Sending
sends role x t y k slot = copy_sending role x (with_loaned_slot t y k slot) (copy t y slot)

pub request_copies_send_in_order : RequestCopiesSendInOrder
request_copies_send_in_order x t y k slot count between pools may passes got given =
    let z : Sending = sends Client x t y k slot in
    let its = to_servers t may.order y k slot may.lends x may.by_role in
    subst (λ s. IsInOrderWith x (with_call (with_loan_call (with_copied Client s (copy t y slot) count) (copy t y slot))) pools) (sym (goes_out (with_loaned_slot t y k slot) z slot passes))
    (request_sent t may.order y k slot may.lends z its between got x false (free_targets (with_loaned_slot t y k slot) z)
    (free_ways t may.order y k slot may.lends z its between got) pools count may.by_role given)

pub request_copies_push_in_order : RequestCopiesPushInOrder
request_copies_push_in_order x t y k slot count between pools may got given =
    let z : Sending = sends Client x t y k slot in
    let its = to_servers t may.order y k slot may.lends x may.by_role in
    request_sent t may.order y k slot may.lends z its between got x true (targets z) its pools count may.by_role given

pub response_copies_send_in_order : ResponseCopiesSendInOrder
response_copies_send_in_order x t y k slot count between pools may passes got given =
    let z : Sending = sends Server x t y k slot in
    let its = to_client t may.order y k slot may.lends x may.by_role in
    subst (λ s. IsInOrderWith x (with_call (with_loan_call (with_copied Server s (copy t y slot) count) (copy t y slot))) pools) (sym (goes_out (with_loaned_slot t y k slot) z slot passes))
    (response_sent t may.order y k slot may.lends z its between got x false (free_targets (with_loaned_slot t y k slot) z)
    (free_ways t may.order y k slot may.lends z its between got) pools count may.by_role given)

pub response_copies_push_in_order : ResponseCopiesPushInOrder
response_copies_push_in_order x t y k slot count between pools may got given =
    let z : Sending = sends Server x t y k slot in
    let its = to_client t may.order y k slot may.lends x may.by_role in
    response_sent t may.order y k slot may.lends z its between got x true (targets z) its pools count may.by_role given

pub failed_copy_sends_in_order : FailedCopySendsInOrder
failed_copy_sends_in_order role x t y k slot between pools may fails got fewer =
    failed t may.order y k slot may.lends (sends role x t y k slot) (to_receivers t may.order y k slot may.lends x role may.by_role) between got x pools fails fewer
