-- What the machine does with the copy of a request that its client may send.
use Rattle.std.specs.Prelude.{◌≡◌, ℕ, Bool, true, false, if◌then◌else◌, nat_le, List, [], ◌∷◌, ◌++◌, length, map, Option, Some, None, refl, ⊤, ◌+◌}
use Rattle.std.specs.List.{list_any}
use Rattle.std.proofs.Common.{sym, ap, ap₂, subst, ◌∙◌, inl}
use Rattle.iox_model.specs.declared.call.Call.TheVariants.{SendCopy}
use Rattle.iox_model.specs.declared.kind.Role.{Role}
use Rattle.iox_model.specs.declared.kind.Role.TheVariants.{Client, Server}
use Rattle.iox_model.specs.declared.reply.Refusal.TheVariants as refusals
use Rattle.iox_model.specs.declared.reply.Reply.TheVariants as replies
use Rattle.iox_model.specs.declared.way.RequestState.{RequestState}
use Rattle.iox_model.specs.declared.way.RequestState.TheVariants.{Named}
use Rattle.iox_model.specs.declared.way.Way.{Way}
use Rattle.iox_model.specs.Commands.{Payload, Reply}
use Rattle.iox_model.specs.Doings.{Sending}
use Rattle.iox_model.specs.Handles.{is_request_loan}
use Rattle.iox_model.specs.Loans.{Choice, kind_of_loan}
use Rattle.iox_model.specs.Maps.{has_way, not_in, or_else}
use Rattle.iox_model.specs.Messages.{request_way, response_way}
use Rattle.iox_model.specs.Outstandings.{kept}
use Rattle.iox_model.specs.Requests.{fails_at, targets, to_open}
use Rattle.iox_model.specs.States as m
use Rattle.iox_laws.specs.CallFunctions.Calls.{call_by}
use Rattle.iox_lanes.specs.Lanes.{LaneState, delivered}
use Rattle.iox_tables.specs.HubStates.Changes.{HasEachOnce, OfEachLane, OnEach, emptied_lane, pushed_lane, with_lanes}
use Rattle.iox_tables.specs.HubStates.Ends.{changed_handles, with_added, with_call, with_loan}
use Rattle.iox_tables.specs.HubStates.Releases.{lane_of, pending_states, request_of}
use Rattle.iox_tables.specs.HubStates.Sendings.{pending_of}
use Rattle.iox_tables.specs.HubStates.Sends.{MaySendFrom, sent_count, with_opened, with_pushed, with_sent}
use Rattle.iox_tables.specs.HubStates.Shown.{MessagesByPlace}
use Rattle.iox_tables.specs.HubStates.States.{Given, fixed_of, state_shown}
use Rattle.iox_tables.specs.HubStates.Steps.{IsOpenToNew, full_in, places_on}
use Rattle.iox_tables.specs.HubStates.Tables.{HandleState, HubTables, PoolState, PortState, port_in}
use Rattle.iox_tables.specs.HubStates.Ways.{OnWays, lane_on, with_lanes_on, with_port, with_states_on}
use Rattle.iox_tables.specs.HubStates.Wirings.{IsHandle, numbers_of_role}
use Rattle.iox_model.specs.Maps.{has_number}
use Rattle.iox_tables.specs.HubBooks.Hubs.{AreInOrder}
use Rattle.iox_tables.specs.HubBooks.Keeps.{bare_pools, delivers}
use Rattle.iox_tables.proofs.HubBooks.Held.{each_handle_from}
use Rattle.iox_tables.proofs.HubBooks.Rooms.{bare_pools_show_the_same}
use Rattle.iox_tables.proofs.HubBooks.Sendable.{requests_may_be_sent}
use Rattle.iox_hub_delivering.proofs.Copied.{named, v_order}
use Rattle.iox_hub_delivering.proofs.Loaned.{last_changed, loan_after, loan_after_states, next_is_new}
use Rattle.iox_tables.specs.HubLending.Emptying.{with_back}
use Rattle.iox_tables.specs.HubLending.Lending.{MayLend}
use Rattle.iox_tables.proofs.HubLending.Back.{getting_back_keeps_order}
use Rattle.iox_tables.proofs.HubLending.Bared.{differ, messages_same}
use Rattle.iox_tables.proofs.HubLending.Chosen.{free_slots_may_take_loans}
use Rattle.iox_tables.proofs.HubLending.OneMore.{lanes_same, one_loan, roles_same}
use Rattle.iox_tables.proofs.HubLending.Owning.{slot_there}
use Rattle.iox_tables.specs.HubLoans.CopySends.{IsCopyToMake, copied, copy_sending, goes_out, with_loan_call, with_words}
use Rattle.iox_tables.specs.HubLoans.Counts.{AreOnNodes, IsOnNode}
use Rattle.iox_tables.specs.HubLoans.Lenders.{IsClient, Lender, calls_refusal, count_refusal_by, loan_refusal, shape_in, size_refusal, ways_by, with_got_back}
use Rattle.iox_tables.specs.HubLoans.Loans.{MayTakeLoan, loaned_contents, loaned_handle, loaned_slot, with_loaned, with_loaned_slot}
use Rattle.iox_tables.specs.HubLoans.Slots.{IsUnused}
use Rattle.iox_tables.proofs.HubLoans.CopyCalls.{copy_sent, copy_sent_over}
use Rattle.iox_tables.proofs.HubLoans.CopyMay.{copies_may_be_sent}
use Rattle.iox_tables.proofs.HubLoans.Lent.{fixed_back}
use Rattle.iox_tables.proofs.HubLoans.Placed.{unused_slots_may_change}
use Rattle.iox_control.specs.Controls.{ControlState, IsControl}
use Rattle.iox_control_copies.specs.Asked.{Asked}
use Rattle.iox_control_copies.specs.Lends.{IsAskedOf, IsGotBack}
use Rattle.iox_control_requests.specs.Requests.{ways_of, with_request_sent}
use Rattle.iox_control_requests.specs.Servers.{request_ways}
use Rattle.iox_control_requests.proofs.Emptied.{each_after, same_ways_then}
use Rattle.iox_control_request_copies.proofs.Emptied.{each_before, emptied_same, full_in_same}
use Rattle.iox_control_request_copies.proofs.Machine as machine
use Rattle.iox_control_requests.proofs.Whole.{any_same}

module _ (x : Given) (c : ControlState) (node n : ℕ) (q : Payload) (a : Asked) (order : IsControl c) (client : IsClient c.tables node n)
    (of_role : q.role ≡ Client) (elements : q.elements ≡ Some a.elements) (asked : IsAskedOf x.request a)
    (lane slot : ℕ) (d : ControlState) (got : IsGotBack c client.port d) (may : MayLend d.tables (machine.y x c node n q a order client of_role elements asked lane) slot)
    (passes : loan_refusal x c.tables (machine.y x c node n q a order client of_role elements asked lane) a.elements ≡ None)
  where
    abbrev t : HubTables
    t = c.tables

    abbrev p : PortState
    p = client.port

    abbrev k : ℕ
    k = a.elements

    abbrev y : Lender
    y = machine.y x c node n q a order client of_role elements asked lane

    abbrev ch : Choice
    ch = machine.ch x c node n q a order client of_role elements asked lane

    abbrev pools : List (Option PoolState)
    pools = d.tables.pools

    -- the same tables, but for who has which slot
    abbrev t' : HubTables
    t' = record t { pools = pools }

    abbrev pub back : HubTables
    back = with_back t p pools

    same : bare_pools t.pools ≡ bare_pools pools
    same = got.back.same

    there : port_in t.ports p.number ≡ Some p
    there = machine.there x c node n q a order client of_role elements asked

    kept_order : AreInOrder back × (port_in (with_got_back t p).ports p.number ≡ Some p)
    kept_order = getting_back_keeps_order t p.number p pools order.order there got.back

    lends : MayLend back y slot
    lends = subst (λ (e : ControlState). MayLend e.tables y slot) got.left may

    abbrev pub u : HubTables
    u = with_loaned_slot back y k slot

    abbrev pub h : HandleState
    h = loaned_handle t y false slot

    abbrev pub v : HubTables
    v = with_loaned back y false k slot

    abbrev pub x' : Given
    x' = with_words x t' y slot q.words

    abbrev z : Sending
    z = copy_sending Client x' u h

    v_ordered : AreInOrder v
    v_ordered = v_order back kept_order.0 y k slot lends

    its_handle : IsHandle v p.node t.next_number h
    its_handle = named back kept_order.0 y k slot lends back.ports refl u.pools refl

    request : is_request_loan h.kind ≡ true
    request = ap (λ (r : Role). is_request_loan (kind_of_loan r false)) client.client

    from : MaySendFrom x' u z h.pool h.slot
    from = copies_may_be_sent x' u h Client (requests_may_be_sent x' v p.node t.next_number h v_ordered its_handle request)

    -- ---- the copy may be made

    start_same : state_shown x t ≡ state_shown x t'
    start_same = bare_pools_show_the_same x t pools same

    back_same : state_shown x (with_got_back t p) ≡ state_shown x back
    back_same = bare_pools_show_the_same x (with_got_back t p) pools same

    -- what is got back is the same
    back_is : with_got_back t' p ≡ back
    back_is =
        ap (λ (ws : List Way). with_lanes emptied_lane t' ws)
        (ap (λ (r : Role). ways_by r t' p.number) client.client ∙ sym (ap (λ (r : Role). ways_by r t p.number) client.client))

    takes : MayTakeLoan x t p slot
    takes =
        free_slots_may_take_loans x t p.number slot p pools order.order got.back
        (record { there = there; within = lends.within; free = lends.free })

    unused_back : IsUnused back p.pool slot
    unused_back = record { lanes = takes.unused.lanes; handles = takes.unused.handles }

    takes_now : MayTakeLoan x t' p slot
    takes_now = record {
      once = subst (λ (f : MessagesByPlace). OfEachLane (HasEachOnce f) (lane_on t.ports)) (messages_same x t.pools pools same) takes.once;
      dry = ap (λ (s : m.State). nat_le p.size (length (kept s p.number []))) (ap (state_shown x) back_is ∙ sym back_same) ∙ takes.dry;
      pool = record {
        owner = sym ((differ t.pools pools same).owners p.pool) ∙ takes.pool.owner;
        node_id = sym ((differ t.pools pools same).ids p.pool).0 ∙ takes.pool.node_id;
        port_id = sym ((differ t.pools pools same).ids p.pool).1 ∙ takes.pool.port_id;
      };
      there = slot_there back kept_order.0 p.number p kept_order.1 slot lends.within;
      unused = subst (λ (b : HubTables). IsUnused b p.pool slot) (sym back_is) unused_back;
    }

    abbrev client_now : IsClient t' node n
    client_now = record { port = p; there = client.there; on_node = client.on_node; client = client.client; held = client.held }

    nodes_now : AreOnNodes t'
    nodes_now =
        each_handle_from (IsOnNode t) (IsOnNode t') (λ g is. record { port = is.port; there = is.there; node = is.node }) t.handles
        (machine.nodes x c node n q a order client of_role elements asked)

    passes_now : loan_refusal x t' y k ≡ None
    passes_now =
        ap (λ (r : Role). or_else (calls_refusal t) (or_else (size_refusal p (shape_in x t p) k) (count_refusal_by r t' y))) client.client
        ∙ sym (ap (λ (r : Role). or_else (calls_refusal t) (or_else (size_refusal p (shape_in x t p) k) (count_refusal_by r t y))) client.client)
        ∙ passes

    make : IsCopyToMake x t' node n k q ch y slot
    make = record {
      lender = inl (client_now, refl);
      nodes = nodes_now;
      role = machine.role x c node n q a order client of_role elements asked;
      elements = elements;
      passes = passes_now;
      memory = refl;
      takes = takes_now;
    }

    -- ---- what the send is

    abbrev ws : List Way
    ws = request_ways p.number back.ports

    abbrev opens : List Way
    opens = pending_states u h

    abbrev servers : List ℕ
    servers = numbers_of_role Server back.ports

    all_targets : targets z ≡ ws
    all_targets =
        ap (λ (b : Bool). if b then map (request_way p.number) servers else map (λ client. response_way client (lane_of u h) p.number) servers) request

    all_open : to_open z ≡ opens
    all_open = ap (λ (b : Bool). if b then map (response_way p.number (lane_of u h)) servers else []) request

    its_ways : ws ≡ ways_by p.role t p.number
    its_ways =
        same_ways_then p.number t.ports (ways_by p.role t p.number)
        ∙ sym (ap (λ (r : Role). ways_by r t p.number) client.client)

    returned : OnEach (λ w l. l.returned ≡ []) (lane_on back.ports) ws
    returned =
        each_after (λ w l. ⊤) t.ports (ways_by p.role t p.number) ws (λ w has. subst (λ (us : List Way). has_way w us ≡ true) its_ways has)
        (each_before (IsOpenToNew x' u p.pool slot) t.ports (ways_by p.role t p.number) ws
        (subst (λ (us : List Way). OnEach (IsOpenToNew x' u p.pool slot) (lane_on back.ports) us) all_targets from.lanes))

    -- nothing is left to get back
    unchanged : with_lanes_on emptied_lane back.ports ws ≡ back.ports
    unchanged = emptied_same back.ports ws returned

    abbrev does : Reply × m.State
    does = call_by (state_shown x t) node (SendCopy n q) ch []

    abbrev slotted : HubTables → HubTables
    slotted b = with_loaned_slot b y k slot

    from_now : MaySendFrom x' (slotted (with_got_back t' p)) (copy_sending Client x' (slotted (with_got_back t' p)) h) p.pool slot
    from_now = subst (λ (b : HubTables). MaySendFrom x' (slotted b) (copy_sending Client x' (slotted b) h) p.pool slot) (sym back_is) from

    moved : does ≡ call_by (state_shown x t') node (SendCopy n q) ch []
    moved = ap (λ (s : m.State). call_by s node (SendCopy n q) ch []) start_same

    -- it is sent, and these ways get it
    abbrev pub left : Bool → List Way → Reply × m.State
    left b gets = (
      replies.Handle t.next_number,
      state_shown x' (with_call (with_loan_call (with_added (with_lanes (delivers b slot) (with_opened u (request_of u h) opens) gets) (pending_of h (length gets))) h)),
    )

    module _ (goes : goes_out Client t y ≡ true) where
      pub over : t.settings.request_overflow ≡ true → does ≡ left true ws
      over on =
          moved
          ∙ copy_sent_over x t' node n k q ch [] y slot make Client client.client goes on from_now
          ∙ ap (λ (b : HubTables). copied Client x' (with_pushed (slotted b) (copy_sending Client x' (slotted b) h) slot) h (Some (length (targets (copy_sending Client x' (slotted b) h))))) back_is
          ∙ ap₂ (λ (us os : List Way). copied Client x' (with_lanes (pushed_lane slot) (with_opened (with_lanes emptied_lane u us) z.loan.request os) us) h (Some (length us)))
          all_targets all_open
          ∙ ap (λ (ps : List PortState). copied Client x' (with_lanes (pushed_lane slot) (with_opened (record u { ports = ps }) z.loan.request opens) ws) h (Some (length ws))) unchanged

      -- ---- without overflow

      abbrev ends : Bool → List Way → List PortState → List Way → List Way → Reply × m.State
      ends b full ps us os =
          copied Client x'
          (if b then record u { ports = ps } else with_lanes (λ l. delivered l slot) (with_opened (record u { ports = ps }) z.loan.request os) (not_in full us)) h
          (if b then None else Some (length (not_in full us)))

      abbrev full : List Way
      full = full_in (lane_on back.ports) ws []

      plain : t.settings.request_overflow ≡ false → does ≡ ends (list_any z.fails full) full back.ports ws opens
      plain off =
          moved
          ∙ copy_sent x t' node n k q ch [] y slot make Client client.client goes off from_now
          ∙ ap (λ (b : HubTables). copied Client x' (with_sent (slotted b) (copy_sending Client x' (slotted b) h) slot) h (sent_count (slotted b) (copy_sending Client x' (slotted b) h))) back_is
          ∙ ap₂ (λ (us os : List Way). ends (list_any z.fails (full_in (lane_on (with_lanes_on emptied_lane back.ports us)) us [])) (full_in (lane_on (with_lanes_on emptied_lane back.ports us)) us [])
          (with_lanes_on emptied_lane back.ports us) us os) all_targets all_open
          ∙ ap (λ (ps : List PortState). ends (list_any z.fails (full_in (lane_on ps) ws [])) (full_in (lane_on ps) ws []) ps ws opens) unchanged

      pub sends : t.settings.request_overflow ≡ false → list_any z.fails full ≡ false → does ≡ left false (not_in full ws)
      sends off none = plain off ∙ ap (λ (b : Bool). ends b full back.ports ws opens) none

      fails_then : t.settings.request_overflow ≡ false → list_any z.fails full ≡ true
          → does ≡ (replies.Refused refusals.UnableToDeliver, state_shown x' (with_loan_call u h))
      fails_then off some = plain off ∙ ap (λ (b : Bool). ends b full back.ports ws opens) some

      unused_later : IsUnused (with_call (with_loan back p.number)) p.pool slot
      unused_later = record {
        lanes = subst (OfEachLane (λ i. i.pool ≡ p.pool → has_number slot (places_on i) ≡ false)) (sym (lanes_same back.ports p.number)) unused_back.lanes;
        handles = unused_back.handles;
      }

      pub undelivered : t.settings.request_overflow ≡ false → list_any z.fails full ≡ true
          → does ≡ (replies.Refused refusals.UnableToDeliver, state_shown x (with_call (with_loan (with_got_back t p) p.number)))
      undelivered off some =
          fails_then off some
          ∙ ap (λ (s : m.State). (replies.Refused refusals.UnableToDeliver, s))
          (sym (unused_slots_may_change x (with_call (with_loan back p.number)) p.pool slot (loaned_slot y k) (loaned_contents x t' y q.words) unused_later)
          ∙ sym (bare_pools_show_the_same x (with_call (with_loan (with_got_back t p) p.number)) pools same))

    -- ---- which servers are full

    fixed_is : fixed_of x' u ≡ fixed_of x t
    fixed_is =
        sym (ap (λ (s : m.State). s.fixed) (unused_slots_may_change x back p.pool slot (loaned_slot y k) (loaned_contents x t' y q.words) unused_back))
        ∙ ap (λ (s : m.State). s.fixed) (sym back_same)
        ∙ fixed_back x t y there

    pub failing_is : (fails : Way → Bool) → ((w : Way) → w.sender ≡ p.number → fails_at (fixed_of x t) w ≡ fails w)
        → list_any z.fails (full_in (lane_on back.ports) ws []) ≡ list_any fails (full_in (lane_on t.ports) (request_ways p.number t.ports) [])
    failing_is fails failure =
        any_same z.fails fails p.number (lane_on back.ports) (λ w own. ap (λ (f : m.Fixed). fails_at f w) fixed_is ∙ failure w own) servers [] refl
        ∙ ap (λ (us : List Way). list_any fails (full_in (lane_on back.ports) us [])) (same_ways_then p.number t.ports (ways_by p.role t p.number))
        ∙ ap (list_any fails) (full_in_same (ways_by p.role t p.number) t.ports (request_ways p.number t.ports) [])

    -- ---- the tables are those of a loan and its send

    one_step : (b : Bool) → ways_of v h b ≡ ways_of u h b
    one_step b =
        ap₂ (λ (on : OnWays LaneState) (ns : List ℕ). if b then map (request_way p.number) ns else not_in (full_in on (map (request_way p.number) ns) []) (map (request_way p.number) ns))
        (lanes_same back.ports p.number) (roles_same back.ports p.number Server)

    opens_same : pending_states v h ≡ opens
    opens_same = ap (map (response_way p.number (lane_of u h))) (roles_same back.ports p.number Server)

    abbrev named_now : RequestState → RequestState
    named_now r = Named (request_of u h) false

    abbrev made : List PortState → List HandleState → HubTables
    made ports handles = record v { ports = ports; handles = handles; calls = t.calls + 1 + 1 }

    pub tables_are : (b : Bool) → with_request_sent v h b
        ≡ with_call (with_loan_call (with_added (with_lanes (delivers b slot) (with_opened u (request_of u h) opens) (ways_of u h b)) (pending_of h (length (ways_of u h b)))) h)
    tables_are b =
        ap₂ (λ (os gets : List Way). made (with_lanes_on (delivers b slot) (with_states_on named_now (with_port one_loan back.ports p.number) os) gets) (changed_handles (pending_of h (length gets)) (t.handles ++ h ∷ [])))
        opens_same (one_step b)
        ∙ ap₂ made
        (ap (λ (ps : List PortState). with_lanes_on (delivers b slot) ps (ways_of u h b)) (loan_after_states named_now back.ports opens p.number)
        ∙ loan_after (delivers b slot) (with_states_on named_now back.ports opens) (ways_of u h b) p.number)
        (last_changed (pending_of h (length (ways_of u h b))) h refl refl t.handles (next_is_new t order.order).1)
