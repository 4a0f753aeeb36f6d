-- The copy of a client's request is the machine's whole call.
use Rattle.std.specs.Prelude.{◌≡◌, ℕ, ◌+◌, ◌<◌, ◌≤◌, Bool, true, false, not, ◌&&◌, ◌||◌, ◌==◌, if◌then◌else◌, nat_lt, List, [], ◌∷◌, length, map, Option, Some, None, refl}
use Rattle.std.specs.List.{list_all, list_any, range_with_len}
use Rattle.std.specs.Option.{option_map_or}
use Rattle.std.proofs.Common.{sym, ap, ap₂, subst, ◌∙◌, arith, true≢false}
use Rattle.std.proofs.lemmas.Bool.{lt-ltb}
use Rattle.iox_model.specs.declared.call.Call.TheVariants.{SendCopy}
use Rattle.iox_model.specs.declared.kind.Kind.TheVariants.{PendingResponse}
use Rattle.iox_model.specs.declared.kind.Role.{Role}
use Rattle.iox_model.specs.declared.kind.Role.TheVariants.{Client, Server}
use Rattle.iox_model.specs.declared.reply.Refusal.TheVariants as refusals
use Rattle.iox_model.specs.declared.reply.Reply.TheVariants as replies
use Rattle.iox_model.specs.declared.way.Way.{Way}
use Rattle.iox_model.specs.Begins.{MayChoose}
use Rattle.iox_model.specs.Commands.{Payload, Reply}
use Rattle.iox_model.specs.Handles.{Subject, is_request_loan, own_state, same_kind}
use Rattle.iox_model.specs.Loans.{kind_of_loan}
use Rattle.iox_model.specs.Maps.{AreDistinctWays}
use Rattle.iox_model.specs.Messages.{request_way}
use Rattle.iox_model.specs.Peers.{buffer_on, others, role_at}
use Rattle.iox_model.specs.Requests.{fails_at}
use Rattle.iox_model.specs.Settings.{overflow_of, shape_of}
use Rattle.iox_model.specs.States as m
use Rattle.iox_model.specs.WholeCalls.{IsWholeCall}
use Rattle.iox_laws.proofs.WeaveLaws.MapLemmas.{others_are_all}
use Rattle.iox_laws.specs.CallFunctions.Calls.{call_by}
use Rattle.iox_laws.specs.CallFunctions.Copies.{MayCopy, copied_order}
use Rattle.iox_laws.specs.CallFunctions.Loans.{request_loan}
use Rattle.iox_laws.specs.CallFunctions.LoanSends.{MaySend, sending_ways}
use Rattle.iox_laws.specs.CallFunctions.Overflows.{NotOver}
use Rattle.iox_laws.proofs.CallFunctions.Copying.{each_copy_is_whole}
use Rattle.iox_lanes.specs.declared.wanted.Label.{Label}
use Rattle.iox_lanes.specs.Lanes.{LaneState}
use Rattle.iox_tables.specs.HubStates.Changes.{OnEach}
use Rattle.iox_tables.specs.HubStates.Shown.{waiting_in}
use Rattle.iox_tables.specs.HubStates.States.{Given, fixed_of, limits_of, message_of, port_of, state_shown}
use Rattle.iox_tables.specs.HubStates.Steps.{full_in}
use Rattle.iox_tables.specs.HubStates.Tables.{HandleState, HubTables, PoolState, PortState, port_in}
use Rattle.iox_tables.specs.HubStates.Ways.{lane_on}
use Rattle.iox_tables.specs.HubStates.Wirings.{buffer_from, numbers_of_role}
use Rattle.iox_tables.proofs.HubStates.Fixing.{buffer_is, role_is, roles_are}
use Rattle.iox_tables.specs.HubBooks.Hubs.{AreInOrder}
use Rattle.iox_tables.proofs.HubBooks.Frames.{length_map}
use Rattle.iox_tables.proofs.HubBooks.Rooms.{bare_pools_show_the_same}
use Rattle.iox_tables.specs.HubLending.Choosing.{IsFreeSlot}
use Rattle.iox_tables.specs.HubLending.Emptying.{AreGotBack, with_back}
use Rattle.iox_tables.specs.HubLending.Lending.{MayLend}
use Rattle.iox_tables.proofs.HubLending.Back.{getting_back_keeps_order, ways_apart}
use Rattle.iox_tables.proofs.HubLending.Bared.{differ}
use Rattle.iox_tables.proofs.HubLending.Owning.{number_is}
use Rattle.iox_tables.specs.HubLoans.Counts.{has_all_active, is_lane_free, is_lane_taken, is_on_lane}
use Rattle.iox_tables.specs.HubLoans.Lenders.{IsClient, Lender, loan_refusal, ways_by}
use Rattle.iox_tables.specs.HubLoans.Loans.{with_loaned}
use Rattle.iox_tables.specs.HubLoans.Slots.{with_contents}
use Rattle.iox_tables.proofs.HubLoans.Loaning.{each_choice_may_be}
use Rattle.iox_control.specs.Controls.{ControlState, IsControl}
use Rattle.iox_control.proofs.WholeLemmas.{is_whole_of}
use Rattle.iox_control_copies.specs.Asked.{Asked}
use Rattle.iox_control_copies.specs.Loaned.{Loaned}
use Rattle.iox_control_copies.specs.Place.{Place}
use Rattle.iox_control_copies.specs.Lends.{IsAskedOf, IsGotBack, MayBeOn, refusal_of}
use Rattle.iox_control_copies.proofs.LaneLemmas.{lane_within, some_lane}
use Rattle.iox_control_requests.specs.Requests.{ways_of, with_request_sent}
use Rattle.iox_control_requests.specs.Servers.{request_ways}
use Rattle.iox_control_request_copies.specs.declared.copied.Copied.{Copied}
use Rattle.iox_control_request_copies.specs.declared.copied.Copied.TheVariants.{To, Refused, OutOfMemory, ExceedsMaxActiveRequests, UnableToDeliver}
use Rattle.iox_control_request_copies.specs.Copies.{AreFailuresOf, Copies, IsLentAndSent, IsLost, WaitsThen, fails_for, given_after_copy, handle_of_loan, loan_of, reply_of_copy}
use Rattle.iox_control_request_copies.proofs.Machine as machine
use Rattle.iox_control_request_copies.proofs.Made as made

not_over : (buffer k : ℕ) → k ≤ buffer → nat_lt buffer k ≡ false
not_over buffer k e = grind (arith)

module _ (x : Given) (c : ControlState) (node n : ℕ) (q : Payload) (a : Asked) (order : IsControl c) (client : IsClient c.tables node n)
    (of_role : q.role ≡ Client) (elements : q.elements ≡ Some a.elements) (asked : IsAskedOf x.request a) (filled : a.uninit ≡ false)
    (fails : Way → Bool) (failure : AreFailuresOf x c.tables n fails)
  where
    abbrev t : HubTables
    t = c.tables

    abbrev p : PortState
    p = client.port

    abbrev k : ℕ
    k = a.elements

    abbrev s : m.State
    s = state_shown x t

    abbrev y : ℕ → Lender
    y lane = machine.y x c node n q a order client of_role elements asked lane

    abbrev Whole : Reply → m.State → Type 0
    Whole reply s' = IsWholeCall s node (SendCopy n q) reply s'

    abbrev does : ℕ → Reply × m.State
    does lane = call_by s node (SendCopy n q) (machine.ch x c node n q a order client of_role elements asked lane) []

    number : p.number ≡ n
    number = number_is t order.order n p client.there

    there : port_in t.ports p.number ≡ Some p
    there = machine.there x c node n q a order client of_role elements asked

    failure_so : (w : Way) → w.sender ≡ p.number → fails_at (fixed_of x t) w ≡ fails w
    failure_so w own = failure w (own ∙ number)

    -- ---- it may be sent

    abbrev Waits : Type 0
    Waits = t.settings.request_overflow ≡ true → OnEach (λ w l. length l.waiting ≤ l.buffer) (lane_on t.ports) (request_ways n t.ports)

    abbrev loan : ℕ → ℕ → m.Handle
    loan lane j = request_loan s.fixed (machine.ch x c node n q a order client of_role elements asked lane) (port_of x p) (copied_order j q.words)

    its_ways : (lane j : ℕ) → sending_ways s.fixed (loan lane j) ≡ request_ways p.number t.ports
    its_ways lane j =
        ap (λ (r : Role). if is_request_loan (kind_of_loan r false) then map (request_way p.number) (others s.fixed p.node Server) else own_state (loan lane j) ∷ []) client.client
        ∙ ap (map (request_way p.number)) (others_are_all (fixed_of x t) p.node Server refl ∙ roles_are x t.ports Server)

    each_not_over : (ns : List ℕ) → OnEach (λ w l. length l.waiting ≤ l.buffer) (lane_on t.ports) (map (request_way p.number) ns) → NotOver s (map (request_way p.number) ns)
    each_not_over [] waits = tt
    each_not_over (j ∷ js) waits = (one (request_way p.number j) refl waits.0, each_not_over js waits.1)
      where
        one : (w : Way) → w.sender ≡ p.number → (l : LaneState) × (lane_on t.ports w ≡ Some l) × (length l.waiting ≤ l.buffer)
            → nat_lt (buffer_on (fixed_of x t) w) (length (option_map_or (waiting_in (message_of x t.pools)) (lane_on t.ports w) [])) ≡ false
        one w own waits =
            let l : LaneState = waits.0 in
            let its : port_in t.ports w.sender ≡ Some p = ap (port_in t.ports) own ∙ there in
            let many : length (waiting_in (message_of x t.pools) l) ≡ length l.waiting = length_map (message_of x t.pools l.pool) l.waiting in
            let low : length l.waiting ≤ l.buffer = waits.2 in
            let buffer : buffer_on (fixed_of x t) w ≡ l.buffer
            = buffer_is x t w ∙ ap (λ (o : Option PortState). buffer_from t.settings (option_map_or (λ p. p.role) o Client)) its ∙ sym (order.order.lanes w l p waits.1 its).buffer in
            ap (λ o. nat_lt (buffer_on (fixed_of x t) w) (length (option_map_or (waiting_in (message_of x t.pools)) o []))) waits.1
            ∙ not_over _ _ (omega (arith, many, low, buffer))

    may_send : (lane j : ℕ) → Waits → MaySend s (loan lane j)
    may_send lane j waits = record {
      apart = subst AreDistinctWays (sym (its_ways lane j)) (subst AreDistinctWays (ap (λ (r : Role). ways_by r t p.number) client.client) (ways_apart t order.order p.role p.number));
      within = λ on.
          subst (NotOver s) (sym (its_ways lane j))
          (each_not_over (numbers_of_role Server t.ports)
          (subst (λ (i : ℕ). OnEach (λ w l. length l.waiting ≤ l.buffer) (lane_on t.ports) (request_ways i t.ports)) (sym number) (waits (sym overflow_is ∙ on))));
    }
      where
        overflow_is : overflow_of s.fixed.limits (role_at s.fixed p.number) ≡ t.settings.request_overflow
        overflow_is =
            ap (overflow_of s.fixed.limits) (role_is x t p.number ∙ ap (λ (o : Option PortState). option_map_or (λ q. q.role) o Client) there ∙ client.client)

    whole_by : (lane : ℕ) → MayChoose (fixed_of x t) node (machine.ch x c node n q a order client of_role elements asked lane) (SendCopy n q) → Waits
        → (reply : Reply) (s' : m.State) → does lane ≡ (reply, s') → Whole reply s'
    whole_by lane choice waits reply s' is =
        is_whole_of s node (SendCopy n q) (does lane) reply s'
        (each_copy_is_whole s node n (machine.ch x c node n q a order client of_role elements asked lane) q choice (λ v. refl)
        (λ j e. subst (λ (z : Option Subject). MayCopy s (machine.ch x c node n q a order client of_role elements asked lane) z (copied_order j q.words))
        (sym (machine.names x c node n q a order client of_role elements asked)) (may_send lane j waits)))
        is

    -- ---- the lane that it takes

    any_lane : (f g : HandleState → Bool) → ((h : HandleState) → f h ≡ g h) → (hs : List HandleState) → list_any f hs ≡ list_any g hs
    any_lane f g same [] = refl
    any_lane f g same (h ∷ hs) = ap₂ (λ (a b : Bool). a || b) (same h) (any_lane f g same hs)

    taken_same : (pools : List (Option PoolState)) (lane : ℕ) → AreGotBack t p pools → is_lane_taken (with_back t p pools) p.number lane ≡ is_lane_taken t p.number lane
    taken_same pools lane back =
        any_lane (λ h. (h.port == p.number) && is_on_lane (with_back t p pools) lane h) (λ h. (h.port == p.number) && is_on_lane t lane h)
        (λ h. ap (λ (l : Label). (h.port == p.number) && ((is_request_loan h.kind || same_kind h.kind PendingResponse) && (l.lane == lane)))
        (sym ((differ t.pools pools back.same).labels h.pool h.slot)))
        t.handles

    lane_free : (pools : List (Option PoolState)) (lane : ℕ) → AreGotBack t p pools → MayBeOn p.role (with_back t p pools) (y 0) lane → is_lane_free t p lane ≡ true
    lane_free pools lane back chosen =
        let on = subst (λ r. MayBeOn r (with_back t p pools) (y 0) lane) client.client chosen in
        opens (not (is_lane_taken t p.number lane)) (nat_lt lane p.size) (list_all (is_lane_taken t p.number) (range_with_len 0 p.size))
        (ap not (sym (taken_same pools lane back) ∙ on.1))
        (lt-ltb lane p.size on.0)
      where
        opens : (f g h : Bool) → f ≡ true → g ≡ true → (f && (g || h)) ≡ true
        opens true true h e e' = refl
        opens true false h e e' = absurd (true≢false (sym e'))
        opens false g h e e' = absurd (true≢false (sym e))

    may_choose : (lane : ℕ) (d : ControlState) → IsGotBack c p d → MayBeOn p.role d.tables (y 0) lane
        → MayChoose (fixed_of x t) node (machine.ch x c node n q a order client of_role elements asked lane) (SendCopy n q)
    may_choose lane d got chosen =
        (each_choice_may_be x t node n (machine.ch x c node n q a order client of_role elements asked lane) (machine.nodes x c node n q a order client of_role elements asked)).requests client
        (lane_free d.tables.pools lane got.back (subst (λ (e : ControlState). MayBeOn p.role e.tables (y 0) lane) got.left chosen)) (SendCopy n q) refl

    kept : (d : ControlState) → IsGotBack c p d → AreInOrder d.tables × (port_in d.tables.ports p.number ≡ Some p)
    kept d got =
        subst (λ (e : ControlState). AreInOrder e.tables × (port_in e.tables.ports p.number ≡ Some p)) (sym got.left)
        (getting_back_keeps_order t p.number p d.tables.pools order.order there got.back)

    -- ---- it is sent

    abbrev full_now : Bool
    full_now = list_any fails (full_in (lane_on t.ports) (request_ways p.number t.ports) [])

    module _ (number_of : ℕ) (servers : ℕ) (place : Place) (new : ControlState) (free : has_all_active t p.number ≡ false) (fine : fails_for fails t p.number ≡ false)
        (is : IsLentAndSent c p a t.settings.request_overflow (loan_of number_of place) servers new)
      where
        abbrev l : Loaned
        l = loan_of number_of place

        abbrev d : ControlState
        d = is.lent.between

        abbrev lane : ℕ
        lane = is.lent.made.lane

        lends : MayLend d.tables (y lane) l.slot
        lends = record {
          there = (kept d is.lent.back).1;
          within = is.lent.made.within;
          free = is.lent.made.free;
          lane = λ role. lane_within d.tables (y 0) lane is.lent.made.chosen role;
        }

        passes : loan_refusal x t (y lane) k ≡ None
        passes = machine.refusal_same x c node n q a order client of_role elements asked lane ∙ is.lent.passes x (machine.asked_so x c node n q a order client of_role elements asked)

        abbrev v : HubTables
        v = made.v x c node n q a order client of_role elements asked lane l.slot d is.lent.back lends passes

        abbrev h : HandleState
        h = made.h x c node n q a order client of_role elements asked lane l.slot d is.lent.back lends passes

        abbrev u : HubTables
        u = made.u x c node n q a order client of_role elements asked lane l.slot d is.lent.back lends passes

        next_is : number_of ≡ t.next_number
        next_is = is.lent.made.number ∙ ap (λ (e : ControlState). e.tables.next_number) is.lent.back.left

        loaned_is : is.loaned.tables ≡ v
        loaned_is =
            ap (λ (e : ControlState). e.tables) is.lent.made.left
            ∙ ap (λ (b : Bool). with_loaned d.tables (y lane) b k l.slot) filled
            ∙ ap (λ (e : ControlState). with_loaned e.tables (y lane) false k l.slot) is.lent.back.left

        handle_is : handle_of_loan p l ≡ h
        handle_is = λ i. record {
          node = p.node;
          number = next_is i;
          kind = ap (λ (r : Role). kind_of_loan r false) (sym client.client) i;
          port = p.number;
          pool = is.lent.made.pool i;
          slot = l.slot;
          client = p.number;
          connections = 0;
        }

        goes : (b : Bool) → t.settings.request_overflow ≡ b
            → does lane ≡ made.left x c node n q a order client of_role elements asked lane l.slot d is.lent.back lends passes b (ways_of u h b)
        goes true on = made.over x c node n q a order client of_role elements asked lane l.slot d is.lent.back lends passes (ap not free) on
        goes false off =
            made.sends x c node n q a order client of_role elements asked lane l.slot d is.lent.back lends passes (ap not free) off
            (made.failing_is x c node n q a order client of_role elements asked lane l.slot d is.lent.back lends passes fails failure_so
            ∙ sym (ap (λ (b : Bool). not b && full_now) off) ∙ fine)

        abbrev o : Bool
        o = t.settings.request_overflow

        abbrev x' : Given
        x' = made.x' x c node n q a order client of_role elements asked lane l.slot d is.lent.back lends passes

        sent_is : does lane ≡ (replies.Handle number_of, state_shown (given_after_copy x q (To number_of servers place)) new.tables)
        sent_is =
            goes o refl
            ∙ ap (λ (u : HubTables). (replies.Handle t.next_number, state_shown x' u))
            (sym (made.tables_are x c node n q a order client of_role elements asked lane l.slot d is.lent.back lends passes o)
            ∙ ap₂ (λ (w : HubTables) (g : HandleState). with_request_sent w g o) (sym loaned_is) (sym handle_is))
            ∙ ap (λ (z : m.State). (replies.Handle t.next_number, z))
            (bare_pools_show_the_same x' (with_request_sent is.loaned.tables (handle_of_loan p l) o) new.tables.pools is.delivered.same
            ∙ ap (λ (e : ControlState). state_shown x' e.tables) (sym is.left)
            ∙ ap (λ (g : Given). state_shown g new.tables)
            (ap₂ (λ (pool : ℕ) (r : Role). with_contents x pool place.slot (record { user = (shape_of (limits_of x t) r).user; payload = q.words; filled = 0 })) (sym is.lent.made.pool) client.client))
            ∙ ap (λ (i : ℕ). (replies.Handle i, state_shown (given_after_copy x q (To number_of servers place)) new.tables)) (sym next_is)

        sent_whole : Waits → Whole (replies.Handle number_of) (state_shown (given_after_copy x q (To number_of servers place)) new.tables)
        sent_whole waits =
            whole_by lane (may_choose lane d is.lent.back is.lent.made.chosen) waits (replies.Handle number_of)
            (state_shown (given_after_copy x q (To number_of servers place)) new.tables) sent_is

    -- ---- a server may not take it

    undelivered_whole : (new : ControlState) → has_all_active t p.number ≡ false → fails_for fails t p.number ≡ true → IsLost c p a new
        → Whole (replies.Refused refusals.UnableToDeliver) (state_shown x new.tables)
    undelivered_whole new free bad is =
        let found = some_lane is.between.tables p.number is.slot p (kept is.between is.back).0 free_now in
        on_lane found.0 (subst (λ (r : Role). MayBeOn r is.between.tables (y 0) found.0) (sym client.client) (found.1, found.2))
      where
        off : t.settings.request_overflow ≡ false
        off = step t.settings.request_overflow bad
          where
            step : (b : Bool) → (not b && full_now) ≡ true → b ≡ false
            step false e = refl
            step true e = absurd (true≢false (sym e))

        free_now : IsFreeSlot is.between.tables p.number p is.between.tables.pools is.slot
        free_now = record { there = (kept is.between is.back).1; within = is.free.within; free = is.free.free }

        on_lane : (lane : ℕ) → MayBeOn p.role is.between.tables (y 0) lane → Whole (replies.Refused refusals.UnableToDeliver) (state_shown x new.tables)
        on_lane lane chosen =
            whole_by lane (may_choose lane is.between is.back chosen) (λ on. absurd (true≢false (sym on ∙ off))) (replies.Refused refusals.UnableToDeliver) (state_shown x new.tables)
            (made.undelivered x c node n q a order client of_role elements asked lane is.slot is.between is.back
            (record { there = free_now.there; within = free_now.within; free = free_now.free; lane = λ role. lane_within is.between.tables (y 0) lane chosen role })
            (machine.refusal_same x c node n q a order client of_role elements asked lane ∙ is.passes x (machine.asked_so x c node n q a order client of_role elements asked))
            (ap not free) off
            (made.failing_is x c node n q a order client of_role elements asked lane is.slot is.between is.back
            (record { there = free_now.there; within = free_now.within; free = free_now.free; lane = λ role. lane_within is.between.tables (y 0) lane chosen role })
            (machine.refusal_same x c node n q a order client of_role elements asked lane ∙ is.passes x (machine.asked_so x c node n q a order client of_role elements asked))
            fails failure_so
            ∙ sym (ap (λ (b : Bool). not b && full_now) off) ∙ bad)
            ∙ ap (λ (z : m.State). (replies.Refused refusals.UnableToDeliver, z)) (machine.lost_shows x c node n q a order client of_role elements asked new is))

    -- ---- all that it comes to

    pub copies_whole : (r : Copied) (new : ControlState) → Copies c p a fails r new → WaitsThen t n r → Whole (reply_of_copy r) (state_shown (given_after_copy x q r) new.tables)
    copies_whole (To number servers place) new is waits = sent_whole number servers place new is.0 is.1 is.2 (λ on. waits)
    copies_whole (Refused r) new is waits = machine.refused_whole x c node n q a order client of_role elements asked new (refusal_of r) is
    copies_whole OutOfMemory new is waits = machine.dry_whole x c node n q a order client of_role elements asked new is
    copies_whole ExceedsMaxActiveRequests new is waits = machine.spent_whole x c node n q a order client of_role elements asked new is.0 is.1
    copies_whole UnableToDeliver new is waits = undelivered_whole new is.0 is.1 is.2
