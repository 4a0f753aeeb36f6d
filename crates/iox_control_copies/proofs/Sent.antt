-- What the machine does with the copy of a response that its client waits for.
use Rattle.std.specs.Prelude.{◌≡◌, ℕ, Bool, true, false, not, ◌||◌, if◌then◌else◌, List, [], ◌∷◌, map, length, Option, Some, None, refl}
use Rattle.std.specs.List.{list_any}
use Rattle.std.specs.Option.{option_map_or}
use Rattle.std.proofs.Common.{sym, ap, ap₂, subst, ◌∙◌}
use Rattle.std.proofs.lemmas.Option.{same_Some}
use Rattle.iox_model.specs.declared.call.Call.TheVariants.{SendCopy}
use Rattle.iox_model.specs.declared.kind.Role.{Role}
use Rattle.iox_model.specs.declared.kind.Role.TheVariants.{Server}
use Rattle.iox_model.specs.declared.reply.Refusal.TheVariants as refusals
use Rattle.iox_model.specs.declared.reply.Reply.TheVariants as replies
use Rattle.iox_model.specs.declared.way.RequestState.TheVariants.{Named}
use Rattle.iox_model.specs.declared.way.Way.{Way}
use Rattle.iox_model.specs.Commands.{Payload, Reply}
use Rattle.iox_model.specs.Doings.{Sending}
use Rattle.iox_model.specs.Handles.{is_own, is_request_loan}
use Rattle.iox_model.specs.Loans.{Choice, kind_of_loan}
use Rattle.iox_model.specs.Maps.{AreDistinctWays, not_in}
use Rattle.iox_model.specs.Messages.{request_way, response_way}
use Rattle.iox_model.specs.Requests.{fails_at, targets, to_open}
use Rattle.iox_model.specs.States as m
use Rattle.iox_laws.proofs.WeaveLaws.MapLemmas.{same_way-refl}
use Rattle.iox_laws.specs.CallFunctions.Calls.{call_by}
use Rattle.iox_lanes.specs.Lanes.{LaneState, delivered, is_full}
use Rattle.iox_tables.specs.HubStates.Tables.{HandleState, HubTables, PoolState, PortState, SlotState, port_in}
use Rattle.iox_tables.specs.HubStates.Ways.{OnWays, lane_on, state_on, with_lane_on}
use Rattle.iox_tables.specs.HubStates.Changes.{HasEachOnce, OfEachLane, OnEach, emptied_lane, with_lanes, with_states}
use Rattle.iox_tables.specs.HubStates.Sends.{MaySendFrom}
use Rattle.iox_tables.specs.HubStates.Shown.{MessagesByPlace}
use Rattle.iox_tables.specs.HubStates.States.{Given, fixed_of, message_of, state_shown}
use Rattle.iox_tables.specs.HubStates.Steps.{IsOpenToNew, IsOpenable, full_in, places_on}
use Rattle.iox_tables.specs.HubStates.Wirings.{IsHandle, buffer_from}
use Rattle.iox_model.specs.Maps.{has_number}
use Rattle.iox_tables.specs.HubBooks.Handles.{is_loan}
use Rattle.iox_tables.specs.HubBooks.Hubs.{AreInOrder}
use Rattle.iox_tables.specs.HubBooks.Keeps.{delivers}
use Rattle.iox_tables.proofs.HubBooks.Sendable.{open_to_new}
use Rattle.iox_tables.proofs.HubBooks.Used.{once_on}
use Rattle.iox_tables.specs.HubLending.Emptying.{AreGotBack, with_back}
use Rattle.iox_tables.specs.HubLending.Lending.{MayLend}
use Rattle.iox_tables.proofs.HubLending.Back.{back_in_order}
use Rattle.iox_tables.proofs.HubLending.Bared.{messages_same, put_same}
use Rattle.iox_tables.proofs.HubLending.OneMore.{lanes_same, role_same, there_same}
use Rattle.iox_tables.specs.HubLoans.CopySends.{IsCopyToMake, copied, copy_sending, is_lender_awaited, with_copy, with_words}
use Rattle.iox_tables.specs.HubLoans.Lenders.{Lender, with_got_back}
use Rattle.iox_tables.specs.HubLoans.Loans.{loaned_contents, loaned_handle, loaned_slot, with_loaned, with_loaned_slot}
use Rattle.iox_tables.specs.HubLoans.Slots.{IsUnused}
use Rattle.iox_tables.proofs.HubLoans.CopyCalls.{copy_sent, copy_sent_over}
use Rattle.iox_tables.proofs.HubLoans.Lent.{fixed_back}
use Rattle.iox_tables.proofs.HubLoans.Placed.{slot_is, unused_slots_may_change}
use Rattle.iox_hub_delivering.proofs.Copied.{named, v_order}
use Rattle.iox_hub_phases.proofs.Agreeing.{same_stays}
use Rattle.iox_hub_ports.specs.Ports.{on_way}
use Rattle.iox_control_copies.specs.Answers.{way_of, with_copy_lost}
use Rattle.iox_control_copies.proofs.Lanes.{lane_back, the_lane}

-- ---- pools that differ only in holders

-- ---- the copy

module _ (x : Given) (t : HubTables) (node n k : ℕ) (q : Payload) (c : Choice) (y : Lender) (slot : ℕ) (make : IsCopyToMake x t node n k q c y slot) (order : AreInOrder t)
    (there : port_in t.ports y.port.number ≡ Some y.port) (server : y.port.role ≡ Server) (awaits : is_lender_awaited t y ≡ true)
    (pools : List (Option PoolState)) (got : AreGotBack t y.port pools) (lends : MayLend (with_back t y.port pools) y slot)
  where
    abbrev w : Way
    w = way_of y

    abbrev port : ℕ
    port = y.port.number

    abbrev back : HubTables
    back = with_got_back t y.port

    abbrev d : HubTables
    d = with_back t y.port pools

    abbrev pub x' : Given
    x' = with_words x t y slot q.words

    abbrev pub u : HubTables
    u = with_copy t y k slot

    abbrev h : HandleState
    h = loaned_handle t y false slot

    abbrev v : HubTables
    v = with_loaned d y false k slot

    abbrev z : Sending
    z = copy_sending Server x' u h

    d_order : AreInOrder d
    d_order = back_in_order t order port y.port there pools got

    v_ordered : AreInOrder v
    v_ordered = v_order d d_order y k slot lends

    its_handle : IsHandle v y.port.node t.next_number h
    its_handle = named d d_order y k slot lends d.ports refl (with_loaned_slot d y k slot).pools refl

    abbrev l : LaneState
    l = (the_lane t order y there server awaits).0

    at_first : lane_on t.ports w ≡ Some l
    at_first = (the_lane t order y there server awaits).1

    at_back : lane_on back.ports w ≡ Some (emptied_lane l)
    at_back = lane_back t order y there server awaits

    same_on : lane_on v.ports ≡ lane_on back.ports
    same_on = lanes_same back.ports port

    -- ---- it may be sent

    messages : message_of x' v.pools ≡ message_of x' u.pools
    messages = messages_same x' v.pools u.pools (sym (put_same t.pools pools y.port.pool slot (loaned_slot y k) got.same))

    open_before : IsOpenToNew x' v y.port.pool slot w (emptied_lane l)
    open_before =
        open_to_new v v_ordered x' y.port.node t.next_number h its_handle (ap (λ (r : Role). is_loan (kind_of_loan r false)) server) (ap (λ (r : Role). is_own (kind_of_loan r false)) server)
        w (emptied_lane l) refl (ap (λ (on : OnWays LaneState). on w) same_on ∙ at_back)

    open_now : IsOpenToNew x' u y.port.pool slot w (emptied_lane l)
    open_now = record {
      open_to = record {
        of_pool = open_before.open_to.of_pool;
        sender = sym (there_same back.ports port port) ∙ open_before.open_to.sender;
        buffer = open_before.open_to.buffer ∙ ap (buffer_from t.settings) (role_same back.ports port port);
      };
      once = subst (λ (f : MessagesByPlace). HasEachOnce f (delivered (emptied_lane l) slot)) messages open_before.once;
    }

    each_once : OfEachLane (HasEachOnce (message_of x' u.pools)) (lane_on u.ports)
    each_once r i at =
        subst (λ (f : MessagesByPlace). HasEachOnce f i) messages (once_on v v_ordered x' r i (ap (λ (on : OnWays LaneState). on r) same_on ∙ at))

    not_request : is_request_loan h.kind ≡ false
    not_request = ap (λ (r : Role). is_request_loan (kind_of_loan r false)) server

    one_target : targets z ≡ w ∷ []
    one_target =
        ap (λ (b : Bool). if b then map (request_way port) z.to else map (λ client. response_way client z.loan.lane port) z.to) not_request
        ∙ ap (λ (s : SlotState). response_way y.client s.lane port ∷ []) (slot_is t.pools y.port.pool slot (loaned_slot y k) make.takes.there)

    none_opened : to_open z ≡ []
    none_opened = ap (λ (b : Bool). if b then map (response_way port z.loan.lane) z.to else []) not_request

    may_from : MaySendFrom x' u z y.port.pool slot
    may_from = record {
      message = refl;
      apart = subst AreDistinctWays (sym one_target) (refl, tt);
      states_apart = subst AreDistinctWays (sym none_opened) tt;
      once = each_once;
      lanes = subst (OnEach (IsOpenToNew x' u y.port.pool slot) (lane_on u.ports)) (sym one_target) ((emptied_lane l, at_back, open_now), tt);
      states = subst (OnEach (IsOpenable u) (state_on u.ports)) (sym none_opened) tt;
    }

    -- nothing is left to get back
    emptied_same : with_lane_on emptied_lane back.ports w ≡ back.ports
    emptied_same =
        same_stays emptied_lane back.ports w
        (λ i at. subst (λ (j : LaneState). emptied_lane j ≡ j) (same_Some (emptied_lane l) i (sym at_back ∙ at)) refl)

    abbrev does : Reply × m.State
    does = call_by (state_shown x t) node (SendCopy n q) c []

    -- the response is last in line
    abbrev in_line : Bool → List PortState → Reply × m.State
    in_line b ps = (replies.Done, state_shown x' (with_copy_lost false (with_lanes (delivers b slot) (record u { ports = ps }) (w ∷ [])) port))

    -- ---- with overflow

    pub goes_over : t.settings.response_overflow ≡ true → does ≡ in_line true u.ports
    goes_over on =
        copy_sent_over x t node n k q c [] y slot make Server server awaits on may_from
        ∙ ap₂
        (λ (ws opens : List Way). (
          replies.Done,
          state_shown x' (with_copy_lost false
              (with_lanes (delivers true slot) (with_states (λ r. Named z.loan.request false) (with_lanes emptied_lane u ws) opens) ws) port),
        ))
        one_target none_opened
        ∙ ap (in_line true) emptied_same

    -- ---- without overflow

    full_then : option_map_or is_full (lane_on (with_lanes emptied_lane u (w ∷ [])).ports w) true ≡ on_way is_full true t.ports w
    full_then =
        ap (λ ps. option_map_or is_full (lane_on ps w) true) emptied_same
        ∙ ap (λ o. option_map_or is_full o true) at_back
        ∙ sym (ap (λ o. option_map_or is_full o true) at_first)

    -- what is left, by the ways that are full
    abbrev ends : List Way → List Way → List Way → Reply × m.State
    ends full ws opens =
        copied Server x'
        (if list_any z.fails full then with_lanes emptied_lane u ws
        else with_lanes (λ i. delivered i slot) (with_states (λ r. Named z.loan.request false) (with_lanes emptied_lane u ws) opens) (not_in full ws)) h
        (if list_any z.fails full then None else Some (length (not_in full ws)))

    goes : (full : Bool) → on_way is_full true t.ports w ≡ full → t.settings.response_overflow ≡ false → does ≡ ends (if full then w ∷ [] else []) (w ∷ []) []
    goes full is off =
        copy_sent x t node n k q c [] y slot make Server server awaits off may_from
        ∙ ap₂ (λ (ws opens : List Way). ends (full_in (lane_on (with_lanes emptied_lane u ws).ports) ws []) ws opens) one_target none_opened
        ∙ ap (λ (b : Bool). ends (if b then w ∷ [] else []) (w ∷ []) []) (full_then ∙ is)

    pub goes_in_line : on_way is_full true t.ports w ≡ false → t.settings.response_overflow ≡ false → does ≡ in_line false u.ports
    goes_in_line free off = goes false free off ∙ ap (in_line false) emptied_same

    -- where the client is full
    abbrev end_where : Bool → List Way → Reply × m.State
    end_where b ws =
        copied Server x' (if b then with_lanes emptied_lane u (w ∷ []) else with_lanes (λ i. delivered i slot) (with_lanes emptied_lane u (w ∷ [])) ws) h
        (if b then None else Some (length ws))

    unused : (fails : Bool) → IsUnused (with_copy_lost fails back port) y.port.pool slot
    unused true = record {
      lanes = subst (OfEachLane (λ i. i.pool ≡ y.port.pool → has_number slot (places_on i) ≡ false)) (sym same_on) make.takes.unused.lanes;
      handles = make.takes.unused.handles;
    }
    unused false = record {
      lanes = subst (OfEachLane (λ i. i.pool ≡ y.port.pool → has_number slot (places_on i) ≡ false)) (sym same_on) make.takes.unused.lanes;
      handles = make.takes.unused.handles;
    }

    -- its words are not shown
    lost_shows : (fails : Bool) → state_shown x (with_copy_lost fails back port) ≡ state_shown x' (with_copy_lost fails u port)
    lost_shows true = unused_slots_may_change x (with_copy_lost true back port) y.port.pool slot (loaned_slot y k) (loaned_contents x t y q.words) (unused true)
    lost_shows false = unused_slots_may_change x (with_copy_lost false back port) y.port.pool slot (loaned_slot y k) (loaned_contents x t y q.words) (unused false)

    fixed_is : fixed_of x' u ≡ fixed_of x t
    fixed_is =
        sym (ap (λ (s : m.State). s.fixed) (unused_slots_may_change x back y.port.pool slot (loaned_slot y k) (loaned_contents x t y q.words) make.takes.unused))
        ∙ fixed_back x t y there

    module _ (fails : Bool) (failure : fails_at (fixed_of x t) w ≡ fails) (full : on_way is_full true t.ports w ≡ true) (off : t.settings.response_overflow ≡ false) where
      fails_now : z.fails w ≡ fails
      fails_now = ap (λ (f : m.Fixed). fails_at f w) fixed_is ∙ failure

      pub is_undelivered : fails ≡ true → does ≡ (replies.Refused refusals.UnableToDeliver, state_shown x (with_copy_lost true back port))
      is_undelivered is =
          goes true full off
          ∙ ap (λ (b : Bool). end_where (b || false) (not_in (w ∷ []) (w ∷ []))) (fails_now ∙ is)
          ∙ ap (λ ps. (replies.Refused refusals.UnableToDeliver, state_shown x' (with_copy_lost true (record u { ports = ps }) port))) emptied_same
          ∙ ap (λ (s : m.State). (replies.Refused refusals.UnableToDeliver, s)) (sym (lost_shows true))

      pub is_skipped : fails ≡ false → does ≡ (replies.Done, state_shown x (with_copy_lost false back port))
      is_skipped is =
          goes true full off
          ∙ ap₂ (λ (b c : Bool). end_where (b || false) (if not (c || false) then w ∷ [] else [])) (fails_now ∙ is) (same_way-refl w)
          ∙ ap (λ ps. (replies.Done, state_shown x' (with_copy_lost false (record u { ports = ps }) port))) emptied_same
          ∙ ap (λ (s : m.State). (replies.Done, s)) (sym (lost_shows false))
