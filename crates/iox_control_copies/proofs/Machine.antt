-- What the copy of a response comes to is a whole call of the machine.
use Rattle.std.specs.Prelude.{◌≡◌, ℕ, ◌≤◌, Bool, true, false, if◌then◌else◌, nat_lt, [], ◌∷◌, map, length, Option, Some, None, refl}
use Rattle.std.specs.Option.{option_map, option_map_or}
use Rattle.std.proofs.Common.{sym, ap, subst, ◌∙◌, inr, arith}
use Rattle.std.proofs.lemmas.Option.{same_Some}
use Rattle.iox_model.specs.declared.call.Call.TheVariants.{SendCopy}
use Rattle.iox_model.specs.declared.kind.Role.{Role}
use Rattle.iox_model.specs.declared.kind.Role.TheVariants.{Client, Server}
use Rattle.iox_model.specs.declared.reply.Refusal.TheVariants as refusals
use Rattle.iox_model.specs.declared.reply.Reply.TheVariants as replies
use Rattle.iox_model.specs.declared.way.Way.{Way}
use Rattle.iox_model.specs.Commands.{Call, Payload, Refusal, Reply}
use Rattle.iox_model.specs.Handles.{Subject, is_request_loan, subject}
use Rattle.iox_model.specs.Loans.{Choice, kind_of_loan}
use Rattle.iox_model.specs.Maps.{AreDistinctWays}
use Rattle.iox_model.specs.Messages.{request_way}
use Rattle.iox_model.specs.Moments.{is_overfull}
use Rattle.iox_model.specs.Peers.{buffer_on, others}
use Rattle.iox_model.specs.Settings.{shape_of}
use Rattle.iox_model.specs.States as m
use Rattle.iox_model.specs.WholeCalls.{IsWholeCall}
use Rattle.iox_laws.specs.CallFunctions.Calls.{call_by}
use Rattle.iox_laws.specs.CallFunctions.Copies.{MayCopy, copied_order}
use Rattle.iox_laws.specs.CallFunctions.Loans.{response_loan}
use Rattle.iox_laws.specs.CallFunctions.LoanSends.{MaySend, sending_ways}
use Rattle.iox_laws.specs.CallFunctions.Overflows.{NotOver}
use Rattle.iox_laws.proofs.CallFunctions.Copying.{each_copy_is_whole}
use Rattle.iox_lanes.specs.Lanes.{IsSound, LaneState}
use Rattle.iox_tables.specs.HubStates.Tables.{HubTables, PortState, port_in}
use Rattle.iox_tables.specs.HubStates.Ways.{lane_on}
use Rattle.iox_tables.specs.HubStates.Releases.{handle_shown}
use Rattle.iox_tables.specs.HubStates.Shown.{waiting_in}
use Rattle.iox_tables.specs.HubStates.States.{Given, fixed_of, limits_of, message_of, port_of, state_shown}
use Rattle.iox_tables.specs.HubStates.Wirings.{buffer_from}
use Rattle.iox_tables.proofs.HubStates.Fixing.{buffer_is, find_port}
use Rattle.iox_tables.proofs.HubStates.Naming.{each_handle_is_named}
use Rattle.iox_tables.proofs.HubBooks.Frames.{length_map}
use Rattle.iox_tables.proofs.HubBooks.Rooms.{bare_pools_show_the_same}
use Rattle.iox_tables.proofs.HubBooks.Used.{once_on}
use Rattle.iox_tables.specs.HubLending.Emptying.{with_back}
use Rattle.iox_tables.proofs.HubLending.Back.{dry_pools_have_holders}
use Rattle.iox_tables.proofs.HubLending.Bared.{holders_may_come_back_first}
use Rattle.iox_tables.proofs.HubLending.Chosen.{free_slots_may_take_loans}
use Rattle.iox_tables.proofs.HubLending.Owning.{handles_are_on_nodes, number_is}
use Rattle.iox_tables.specs.HubLoans.Copies.{copy_refusal}
use Rattle.iox_tables.specs.HubLoans.CopySends.{IsCopyToMake, is_lender_awaited}
use Rattle.iox_tables.specs.HubLoans.Counts.{AreOnNodes}
use Rattle.iox_tables.specs.HubLoans.Lenders.{IsActive, IsLender, Lender, lender_of_response, shape_in, with_got_back}
use Rattle.iox_tables.proofs.HubLoans.CopyCalls.{unawaited_copies_go_to_nobody}
use Rattle.iox_tables.proofs.HubLoans.Copying.{copies_are_refused, copies_find_dry_pools}
use Rattle.iox_tables.proofs.HubLoans.Loaning.{each_choice_may_be}
use Rattle.iox_control.specs.Controls.{ControlState, IsControl}
use Rattle.iox_control.proofs.WholeLemmas.{is_whole_of}
use Rattle.iox_control_lending.specs.declared.asked.Asked.{Asked}
use Rattle.iox_control_lending.specs.Lends.{FindsDry, IsAskedOf, IsRefused}
use Rattle.iox_control_lending.proofs.MadeLemmas.{have_messages}
use Rattle.iox_control_copies.specs.Answers.{IsLost, MayBeCopied, way_of, with_copy_lost}

not_over : (buffer k : ℕ) → k ≤ buffer → nat_lt buffer k ≡ false
not_over buffer k e = grind (arith)

module _ (x : Given) (c : ControlState) (node n : ℕ) (q : Payload) (a : Asked) (order : IsControl c) (active : IsActive c.tables node n)
    (of_role : q.role ≡ Server) (elements : q.elements ≡ Some a.elements) (asked : IsAskedOf x.response a)
    (sound : (l : LaneState) → lane_on c.tables.ports (way_of (lender_of_response c.tables active.handle active.port)) ≡ Some l → IsSound l)
  where
    abbrev t : HubTables
    t = c.tables

    abbrev pub y : Lender
    y = lender_of_response t active.handle active.port

    abbrev w : Way
    w = way_of y

    abbrev s : m.State
    s = state_shown x t

    abbrev call : Call
    call = SendCopy n q

    abbrev pub choice : Choice
    choice = record { lane = y.lane; memory = true }

    pub lender : IsLender t node n y.lane y
    lender = inr (active, refl)

    pub nodes : AreOnNodes t
    nodes = handles_are_on_nodes t order.order

    pub role : q.role ≡ y.port.role
    role = of_role ∙ sym active.server

    pub there : port_in t.ports y.port.number ≡ Some y.port
    there = ap (port_in t.ports) (number_is t order.order active.handle.port active.port active.there) ∙ active.there

    asked_so : IsAskedOf (shape_in x t y.port) a
    asked_so = subst (λ (r : Role). IsAskedOf (shape_of (limits_of x t) r) a) (sym active.server) asked

    -- ---- it is a whole call

    within : is_overfull s w ≡ false
    within = step (lane_on t.ports w) refl
      where
        step : (o : Option LaneState) → lane_on t.ports w ≡ o → nat_lt (buffer_on (fixed_of x t) w) (length (option_map_or (waiting_in (message_of x t.pools)) o [])) ≡ false
        step None at = not_over _ 0 (omega arith)
        step (Some l) at =
            let many : length (waiting_in (message_of x t.pools) l) ≡ length l.waiting = length_map (message_of x t.pools l.pool) l.waiting in
            let low = (sound l at).waits in
            let buffer : buffer_on (fixed_of x t) w ≡ l.buffer
            = buffer_is x t w ∙ ap (λ (o : Option PortState). buffer_from t.settings (option_map_or (λ p. p.role) o Client)) there ∙ sym (order.order.lanes w l y.port at there).buffer in
            not_over _ _ (omega (arith, many, low, buffer))

    abbrev shown : m.Handle
    shown = handle_shown x t active.handle

    one_way : (k : ℕ) → sending_ways (fixed_of x t) (response_loan (fixed_of x t) shown (port_of x active.port) (copied_order k q.words)) ≡ w ∷ []
    one_way k =
        ap (λ (b : Bool). if b then map (request_way y.port.number) (others (fixed_of x t) active.port.node Server) else w ∷ [])
        (ap (λ (r : Role). is_request_loan (kind_of_loan r false)) active.server)

    may_send : (k : ℕ) → MaySend s (response_loan (fixed_of x t) shown (port_of x active.port) (copied_order k q.words))
    may_send k = record {
      apart = subst AreDistinctWays (sym (one_way k)) (refl, tt);
      within = λ on. subst (NotOver s) (sym (one_way k)) (within, tt);
    }

    may_copy : (k : ℕ) → MayCopy s choice (subject (fixed_of x t) node n) (copied_order k q.words)
    may_copy k =
        subst (λ (z : Option Subject). MayCopy s choice z (copied_order k q.words)) (sym (each_handle_is_named x t node n active.handle active.named).names)
        (λ p at.
        subst (λ (r : m.Port). MaySend s (response_loan (fixed_of x t) shown r (copied_order k q.words)))
        (same_Some (port_of x active.port) p (sym (find_port x t.ports active.handle.port ∙ ap (option_map (port_of x)) active.there) ∙ at))
        (may_send k))

    pub whole_by : (reply : Reply) (s' : m.State) → call_by s node call choice [] ≡ (reply, s') → IsWholeCall s node call reply s'
    whole_by reply s' is =
        is_whole_of s node call (call_by s node call choice []) reply s'
        (each_copy_is_whole s node n choice q ((each_choice_may_be x t node n choice nodes).responses active call refl) (λ v. refl) (λ k e. may_copy k))
        is

    -- ---- no loan is made

    pub refused_whole : (new : ControlState) (r : Refusal) → IsRefused c y a r new → IsWholeCall s node call (replies.Refused r) (state_shown x new.tables)
    refused_whole new r is =
        whole_by (replies.Refused r) (state_shown x new.tables)
        (copies_are_refused x t node n q choice [] y r lender nodes role
        (subst (λ (o : Option ℕ). copy_refusal x t y o ≡ Some r) (sym elements) (is.told x asked_so))
        ∙ ap (λ (d : ControlState). (replies.Refused r, state_shown x d.tables)) (sym is.left))

    pub dry_whole : (new : ControlState) → FindsDry c y a new → IsWholeCall s node call (replies.Refused refusals.OutOfMemory) (state_shown x new.tables)
    dry_whole new is =
        whole_by (replies.Refused refusals.OutOfMemory) (state_shown x new.tables)
        (copies_find_dry_pools x t node n a.elements q choice [] y lender nodes role elements (is.passes x asked_so) refl
        (λ v l at. once_on t order.order x v l at)
        (dry_pools_have_holders x t y.port.number y.port new.tables.pools order.order (have_messages t order.order) there is.back.back ∙ is.full)
        ∙ ap (λ (v : m.State). (replies.Refused refusals.OutOfMemory, v))
        ((holders_may_come_back_first x t y.port new.tables.pools y false a.elements 0 is.back.back.same).0
        ∙ ap (λ (d : ControlState). state_shown x d.tables) (sym is.back.left)))

    -- ---- a slot may be lent

    pub to_make : (slot : ℕ) (d : ControlState) → MayBeCopied c y a slot d → IsCopyToMake x t node n a.elements q choice y slot
    to_make slot d may = record {
      lender = lender;
      nodes = nodes;
      role = role;
      elements = elements;
      passes = may.passes x asked_so;
      memory = refl;
      takes =
          free_slots_may_take_loans x t y.port.number slot y.port d.tables.pools order.order may.back.back
          (record { there = there; within = may.may.within; free = may.may.free });
    }

    -- what is lost shows the same, however many have each slot
    pub lost_shows : (fails : Bool) (new : ControlState) (is : IsLost c y a fails new)
        → state_shown x (with_copy_lost fails (with_got_back t y.port) y.port.number) ≡ state_shown x new.tables
    lost_shows fails new is =
        step fails
        ∙ ap (λ (d : ControlState). state_shown x (with_copy_lost fails d.tables y.port.number)) (sym is.may.back.left)
        ∙ ap (λ (d : ControlState). state_shown x d.tables) (sym is.left)
      where
        step : (b : Bool) → state_shown x (with_copy_lost b (with_got_back t y.port) y.port.number)
            ≡ state_shown x (with_copy_lost b (with_back t y.port is.between.tables.pools) y.port.number)
        step true = bare_pools_show_the_same x (with_copy_lost true (with_got_back t y.port) y.port.number) is.between.tables.pools is.may.back.back.same
        step false = bare_pools_show_the_same x (with_copy_lost false (with_got_back t y.port) y.port.number) is.between.tables.pools is.may.back.back.same

    -- nobody waits
    pub nobody_whole : (new : ControlState) → is_lender_awaited t y ≡ false → IsLost c y a false new → IsWholeCall s node call replies.Done (state_shown x new.tables)
    nobody_whole new off is =
        whole_by replies.Done (state_shown x new.tables)
        (unawaited_copies_go_to_nobody x t node n a.elements q choice [] y is.slot (to_make is.slot is.between is.may) active.server off
        ∙ ap (λ (v : m.State). (replies.Done, v)) (lost_shows false new is))
