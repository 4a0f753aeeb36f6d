-- Copies that are sent, or are not, keep the tables of a hub in order.
use Rattle.std.specs.Prelude.{◌≡◌, ℕ, ◌<◌, Bool, true, false, List, [], ◌∷◌, ◌++◌, map, Option, refl}
use Rattle.std.proofs.Common.{sym, ap, subst, ◌∙◌}
use Rattle.iox_model.specs.declared.kind.Role.{Role}
use Rattle.iox_model.specs.declared.kind.Role.TheVariants.{Client, Server}
use Rattle.iox_model.specs.declared.way.Way.{Way}
use Rattle.iox_model.specs.Handles.{is_received, is_request_loan, is_response_loan}
use Rattle.iox_model.specs.Loans.{kind_of_loan}
use Rattle.iox_model.specs.Maps.{has_number}
use Rattle.iox_lanes.specs.Lanes.{LaneState}
use Rattle.iox_tables.specs.HubStates.Tables.{HandleState, HubTables, PoolState, PortState, numbers_of, senders_of}
use Rattle.iox_tables.specs.HubStates.Ways.{OnWays, lane_on, with_lanes_on, with_port}
use Rattle.iox_tables.specs.HubStates.Ends.{changed_handles, dropped_handles}
use Rattle.iox_tables.specs.HubStates.Sendings.{pending_of}
use Rattle.iox_tables.specs.HubStates.Wirings.{IsHandle}
use Rattle.iox_tables.specs.HubBooks.Handles.{IsOfPort}
use Rattle.iox_tables.specs.HubBooks.Hubs.{AreInOrder, HaveNumbers}
use Rattle.iox_tables.specs.HubBooks.Keeps.{AreTargetsOf, HasOneHolderLess, bare_pools, delivers}
use Rattle.iox_tables.proofs.HubBooks.Frames.{AreAlike, lanes_on_bare}
use Rattle.iox_tables.proofs.HubBooks.Going.{of_port_stays}
use Rattle.iox_tables.proofs.HubBooks.Held.{each_handle_from}
use Rattle.iox_tables.proofs.HubBooks.Released.{loan_releases_keep_order}
use Rattle.iox_tables.proofs.HubBooks.Structures.{lanes_stay, low_kept, pool_before, pools_stay, same_lane, same_numbers, same_role_in, widths_stay, wired_stay}
use Rattle.iox_tables.specs.HubLoans.Lenders.{Lender}
use Rattle.iox_tables.specs.HubLoans.Loans.{loaned_handle, loaned_slot, with_loaned, with_loaned_slot}
use Rattle.iox_tables.specs.HubLending.Keeping.{HasMessage, HaveMessages}
use Rattle.iox_tables.specs.HubLending.Lending.{MayLend}
use Rattle.iox_tables.proofs.HubLending.Lent.{loans_keep_order}
use Rattle.iox_tables.proofs.HubLending.NewSlot as new_slot
use Rattle.iox_tables.proofs.HubLending.OneMore.{lanes_same, numbers_same, one_loan, role_same, was}
use Rattle.iox_hub_delivering.specs.Copies.{FailedCopiesKeepOrder, RequestCopiesKeepOrder, ResponseCopiesKeepOrder}
use Rattle.iox_hub_delivering.specs.Deliveries.{HasDelivered, HasHandedOver}
use Rattle.iox_hub_delivering.proofs.Delivered.{delivered_requests_keep_order, delivered_responses_keep_order}
use Rattle.iox_hub_delivering.proofs.Loaned.{last_changed, last_dropped, last_found, loan_after, next_is_new, no_port}
use Rattle.iox_tables.proofs.HubBooks.OneGiven.{gives_bare}

-- tables whose next number is another one are in order where numbers are
renumbered : (t : HubTables) (m : ℕ) → AreInOrder t → HaveNumbers (record t { next_number = m }) → AreInOrder (record t { next_number = m })
renumbered t m order numbers = record {
  counted = order.counted;
  serials = record { apart = order.serials.apart; below = order.serials.below };
  pools = pools_stay t (record t { next_number = m }) order refl refl refl;
  once = order.once;
  lanes = lanes_stay t (record t { next_number = m }) order refl refl refl;
  labels = order.labels;
  owners = order.owners;
  widths = widths_stay t (record t { next_number = m }) order refl refl refl;
  wired = wired_stay t (record t { next_number = m }) order refl refl refl;
  numbers = numbers;
  ports = each_handle_from (IsOfPort t) (IsOfPort (record t { next_number = m })) (of_port_stays t (record t { next_number = m }) order refl refl) t.handles order.ports;
  alone = order.alone;
  own = order.own;
  taken = order.taken;
  received = order.received;
}

have_messages : (t : HubTables) → AreInOrder t → HaveMessages t
have_messages t order = each_handle_from (IsOfPort t) HasMessage (λ h is. is.either) t.handles order.ports

pub is_request : (role : Role) → role ≡ Client → is_request_loan (kind_of_loan role false) ≡ true
is_request role e = ap (λ r. is_request_loan (kind_of_loan r false)) e

pub is_response : (role : Role) → role ≡ Server → is_response_loan (kind_of_loan role false) ≡ true
is_response role e = ap (λ r. is_response_loan (kind_of_loan r false)) e

is_no_message : (role : Role) → is_received (kind_of_loan role false) ≡ false
is_no_message Client = refl
is_no_message Server = refl

module _ (t : HubTables) (order : AreInOrder t) (y : Lender) (k slot : ℕ) (lends : MayLend t y slot) where
  abbrev pub h : HandleState
  h = loaned_handle t y false slot

  abbrev pub u : HubTables
  u = with_loaned_slot t y k slot

  -- the tables with the handle too, as if the loan was handed out
  abbrev pub v : HubTables
  v = with_loaned t y false k slot

  pub v_order : AreInOrder v
  v_order = (loans_keep_order t y false k slot order (have_messages t order) lends).0

  -- its ways, and lanes
  its_targets : (ws : List Way) → AreTargetsOf u h ws → AreTargetsOf v h ws
  its_targets ws targets = record {
    apart = targets.apart;
    sender = targets.sender;
    lane = λ w has client. targets.lane w has (sym (role_same t.ports y.port.number w.receiver) ∙ client);
  }

  pub same_lanes : lane_on t.ports ≡ lane_on v.ports
  same_lanes = sym (lanes_same t.ports y.port.number)

  -- ports with other things on lanes, and pools that differ in holders
  module _ (ports : List PortState) (alike : AreAlike t.ports ports) (between : List (Option PoolState)) (bared : bare_pools u.pools ≡ bare_pools between) where
    abbrev pub w : HubTables
    w = record v { ports = with_port one_loan ports y.port.number; pools = between }

    numbers_are : numbers_of w.ports ≡ numbers_of t.ports
    numbers_are = numbers_same ports y.port.number ∙ same_numbers t.ports ports alike

    pub named : IsHandle w y.port.node t.next_number h
    named = record {
      there = last_found y.port.node t.next_number h refl refl t.handles (next_is_new t order).1;
      no_port = no_port w.ports t.next_number (ap (has_number t.next_number) numbers_are ∙ (next_is_new t order).0);
    }

    targets_now : (ws : List Way) → AreTargetsOf v h ws → AreTargetsOf w h ws
    targets_now ws targets = record {
      apart = targets.apart;
      sender = targets.sender;
      lane = λ m has client.
          sym (same_lane u.pools between bared y.port.pool slot)
          ∙ targets.lane m has
          (role_same t.ports y.port.number m.receiver ∙ sym (same_role_in t.ports ports alike m.receiver) ∙ sym (role_same ports y.port.number m.receiver) ∙ client);
    }

    lanes_now : lane_on ports ≡ lane_on w.ports
    lanes_now = sym (lanes_same ports y.port.number)

    -- the next number is lower where no handle is left
    pub lower : AreInOrder (record w { handles = t.handles }) → AreInOrder (record w { handles = t.handles; next_number = t.next_number })
    lower left_order =
        renumbered (record w { handles = t.handles }) t.next_number left_order
        (record {
          apart = left_order.numbers.apart;
          below = λ m has. order.numbers.below m (subst (λ ns. has_number m (ns ++ map (λ g. g.number) t.handles) ≡ true) numbers_are has);
          owners = λ place q at.
              let p = pool_before u.pools between bared place q at in
              let a = new_slot.pool_before t y.port.pool slot (loaned_slot y k) lends.free place p.0 p.1 in
              subst (λ i. i < t.next_number) (a.2 ∙ ap (λ (x : PoolState). x.port) p.2) (order.numbers.owners place a.0 a.1);
          kept = λ m p at j has.
              let b = was ports y.port.number m p at in
              low_kept t.ports ports alike t.next_number order.numbers.kept m b.port b.there j (ap (λ (x : PortState). has_number j (senders_of x.expired.pipes)) b.same ∙ has);
        })

  -- ---- sends

  module _ (ports : List PortState) (alike : AreAlike t.ports ports) (between : List (Option PoolState)) (bared : bare_pools u.pools ≡ bare_pools between)
      (ready : AreInOrder (w ports alike between bared)) (overflow : Bool) (ws : List Way) (targets : AreTargetsOf v h ws) (pools : List (Option PoolState))
    where
      abbrev sent_ports : List PortState
      sent_ports = with_lanes_on (delivers overflow slot) ports ws

      ports_are : with_lanes_on (delivers overflow slot) (with_port one_loan ports y.port.number) ws ≡ with_port one_loan sent_ports y.port.number
      ports_are = loan_after (delivers overflow slot) ports ws y.port.number

      sent_alike : AreAlike t.ports sent_ports
      sent_alike = lanes_on_bare (delivers overflow slot) (gives_bare overflow slot) ports ws ∙ alike

      pub request_copied : (count : ℕ) → is_request_loan h.kind ≡ true → HasDelivered overflow slot (lane_on ports) ws between pools
          → AreInOrder (record v { ports = with_port one_loan sent_ports y.port.number; handles = t.handles ++ pending_of h count ∷ []; pools = pools })
      request_copied count kind given =
          subst (λ (hs : List HandleState). AreInOrder (record v { ports = with_port one_loan sent_ports y.port.number; handles = hs; pools = pools }))
          (last_changed (pending_of h count) h refl refl t.handles (next_is_new t order).1)
          (subst (λ (ps : List PortState). AreInOrder (record v { ports = ps; handles = changed_handles (pending_of h count) v.handles; pools = pools })) ports_are
          (delivered_requests_keep_order (w ports alike between bared) y.port.node t.next_number h overflow ws count pools ready (named ports alike between bared) kind
          (targets_now ports alike between bared ws targets)
          (subst (λ (on : OnWays LaneState). HasDelivered overflow slot on ws between pools) (lanes_now ports alike between bared) given)))

      pub response_copied : is_response_loan h.kind ≡ true → HasHandedOver overflow (lane_on ports) ws h between pools
          → AreInOrder (record v { ports = with_port one_loan sent_ports y.port.number; handles = t.handles; next_number = t.next_number; pools = pools })
      response_copied kind given =
          lower sent_ports sent_alike pools (bared ∙ given.same)
          (subst (λ (hs : List HandleState). AreInOrder (record v { ports = with_port one_loan sent_ports y.port.number; handles = hs; pools = pools }))
          (last_dropped y.port.node t.next_number h refl refl t.handles (next_is_new t order).1)
          (subst (λ (ps : List PortState). AreInOrder (record v { ports = ps; handles = dropped_handles y.port.node t.next_number v.handles; pools = pools })) ports_are
          (delivered_responses_keep_order (w ports alike between bared) y.port.node t.next_number h overflow ws pools ready (named ports alike between bared) kind
          (targets_now ports alike between bared ws targets)
          (subst (λ (on : OnWays LaneState). HasHandedOver overflow on ws h between pools) (lanes_now ports alike between bared) given))))

  module _ (ports : List PortState) (alike : AreAlike t.ports ports) (between : List (Option PoolState)) (bared : bare_pools u.pools ≡ bare_pools between)
      (ready : AreInOrder (w ports alike between bared)) (pools : List (Option PoolState))
    where
      pub copy_failed : HasOneHolderLess between pools h
          → AreInOrder (record v { ports = with_port one_loan ports y.port.number; handles = t.handles; next_number = t.next_number; pools = pools })
      copy_failed fewer =
          lower ports alike pools (bared ∙ fewer.same)
          (subst (λ (hs : List HandleState). AreInOrder (record v { ports = with_port one_loan ports y.port.number; handles = hs; pools = pools }))
          (last_dropped y.port.node t.next_number h refl refl t.handles (next_is_new t order).1)
          (loan_releases_keep_order (w ports alike between bared) y.port.node t.next_number h pools ready (named ports alike between bared) (is_no_message y.port.role) fewer))

pub request_copies_keep_order : RequestCopiesKeepOrder
request_copies_keep_order t y k slot overflow ws count pools is role given =
    request_copied t is.order y k slot is.lends t.ports refl (u t is.order y k slot is.lends).pools refl (v_order t is.order y k slot is.lends) overflow ws
    (its_targets t is.order y k slot is.lends ws is.targets) pools count (is_request y.port.role role) given

pub response_copies_keep_order : ResponseCopiesKeepOrder
response_copies_keep_order t y k slot overflow ws count pools is role given =
    response_copied t is.order y k slot is.lends t.ports refl (u t is.order y k slot is.lends).pools refl (v_order t is.order y k slot is.lends) overflow ws
    (its_targets t is.order y k slot is.lends ws is.targets) pools (is_response y.port.role role) given

pub failed_copies_keep_order : FailedCopiesKeepOrder
failed_copies_keep_order t y k slot pools order lends fewer =
    copy_failed t order y k slot lends t.ports refl (u t order y k slot lends).pools refl (v_order t order y k slot lends) pools fewer
