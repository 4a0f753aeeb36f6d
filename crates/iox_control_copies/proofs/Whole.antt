-- The copy of an active request's response is the machine's whole call.
use Rattle.std.specs.Prelude.{◌≡◌, ℕ, Bool, true, false, not, ◌&&◌, [], ◌∷◌, Some, None, refl}
use Rattle.std.proofs.Common.{sym, ap, ap₂, subst, ◌∙◌, true≢false}
use Rattle.std.proofs.lemmas.Option.{same_Some}
use Rattle.iox_model.specs.declared.call.Call.TheVariants.{SendCopy}
use Rattle.iox_model.specs.declared.kind.Role.{Role}
use Rattle.iox_model.specs.declared.kind.Role.TheVariants.{Server}
use Rattle.iox_model.specs.declared.reply.Refusal.TheVariants as refusals
use Rattle.iox_model.specs.declared.reply.Reply.TheVariants as replies
use Rattle.iox_model.specs.Commands.{Payload, Reply}
use Rattle.iox_model.specs.Messages.{response_way}
use Rattle.iox_model.specs.Requests.{fails_at}
use Rattle.iox_model.specs.Settings.{shape_of}
use Rattle.iox_tables.specs.HubStates.Releases.{lane_of}
use Rattle.iox_tables.proofs.HubLending.Owning.{number_is, two}
use Rattle.iox_control_responses.specs.Responses.{IsFailure}
use Rattle.iox_model.specs.States as m
use Rattle.iox_model.specs.WholeCalls.{IsWholeCall}
use Rattle.iox_laws.specs.CallFunctions.Calls.{call_by}
use Rattle.iox_lanes.specs.Lanes.{IsSound, LaneState, is_full}
use Rattle.iox_tables.specs.HubStates.Tables.{HandleState, HubTables, PortState, port_in}
use Rattle.iox_tables.specs.HubStates.Ways.{lane_on}
use Rattle.iox_tables.specs.HubStates.Changes.{with_lanes}
use Rattle.iox_tables.specs.HubStates.States.{Given, fixed_of, limits_of, state_shown}
use Rattle.iox_tables.specs.HubStates.Wirings.{handle_in}
use Rattle.iox_tables.specs.HubBooks.Keeps.{delivers}
use Rattle.iox_tables.proofs.HubBooks.Rooms.{bare_pools_show_the_same}
use Rattle.iox_tables.specs.HubLending.Lending.{MayLend}
use Rattle.iox_tables.specs.HubLoans.CopySends.{IsCopyToMake, is_lender_awaited}
use Rattle.iox_tables.specs.HubLoans.Lenders.{IsActive, Lender, lender_of_response, with_got_back}
use Rattle.iox_tables.specs.HubLoans.Loans.{loaned_slot, with_loaned_slot}
use Rattle.iox_tables.specs.HubLoans.Slots.{with_contents}
use Rattle.iox_hub_ports.specs.Ports.{on_way}
use Rattle.iox_control.specs.Controls.{ControlState, IsControl}
use Rattle.iox_control_lending.specs.declared.asked.Asked.{Asked}
use Rattle.iox_control_lending.specs.declared.asked.Place.{Place}
use Rattle.iox_control_lending.specs.Lends.{IsAskedOf, refusal_of}
use Rattle.iox_control_copies.specs.declared.answered.Answered.{Answered}
use Rattle.iox_control_copies.specs.declared.answered.Answered.TheVariants.{Done, Refused, OutOfMemory, Undelivered}
use Rattle.iox_control_copies.specs.Answers.{CopyComesTo, IsInLine, IsLost, MayBeCopied, fails_for, given_after_copy, goes_in_line, is_shut_for, reply_of_copy, way_of, with_copy_lost, with_copy_sent}
use Rattle.iox_control_copies.proofs.Machine as machine
use Rattle.iox_control_copies.proofs.Sent as sent
use Rattle.iox_tables.proofs.HubLending.Bared.{put_same}

shut_both : (a b : Bool) → (a && not b) ≡ true → (a ≡ true) × (b ≡ false)
shut_both true false e = (refl, refl)
shut_both true true e = absurd (true≢false (sym e))
shut_both false b e = absurd (true≢false (sym e))

not_shut : (a b : Bool) → not (a && not b) ≡ true → b ≡ false → a ≡ false
not_shut true true e f = absurd (true≢false f)
not_shut true false e f = absurd (true≢false (sym e))
not_shut false b e f = refl

-- what is not put in line, though it is awaited, is shut out
shut_out : (a b : Bool) → (a && not b) ≡ false → a ≡ true → b ≡ true
shut_out true true e f = refl
shut_out true false e f = absurd (true≢false e)
shut_out false b e f = absurd (true≢false (sym f))

no_failure : (a b f : Bool) → (a && (b && f)) ≡ false → a ≡ true → b ≡ true → f ≡ false
no_failure true true f e p r = e
no_failure true false f e p r = absurd (true≢false (sym r))
no_failure false b f e p r = absurd (true≢false (sym p))

module _ (x : Given) (c : ControlState) (node n : ℕ) (q : Payload) (a : Asked) (order : IsControl c) (active : IsActive c.tables node n)
    (of_role : q.role ≡ Server) (elements : q.elements ≡ Some a.elements) (asked : IsAskedOf x.response a)
    (sound : (l : LaneState) → lane_on c.tables.ports (way_of (lender_of_response c.tables active.handle active.port)) ≡ Some l → IsSound l)
    (fails : Bool) (failure : fails_at (fixed_of x c.tables) (way_of (lender_of_response c.tables active.handle active.port)) ≡ fails)
  where
    abbrev t : HubTables
    t = c.tables

    abbrev y : Lender
    y = lender_of_response t active.handle active.port

    abbrev k : ℕ
    k = a.elements

    abbrev s : m.State
    s = state_shown x t

    abbrev Whole : Reply → m.State → Type 0
    Whole reply s' = IsWholeCall s node (SendCopy n q) reply s'

    abbrev does : Reply × m.State
    does = call_by s node (SendCopy n q) (machine.choice x c node n q a order active of_role elements asked sound) []

    whole_by : (reply : Reply) (s' : m.State) → does ≡ (reply, s') → Whole reply s'
    whole_by = machine.whole_by x c node n q a order active of_role elements asked sound

    there : port_in t.ports y.port.number ≡ Some y.port
    there = machine.there x c node n q a order active of_role elements asked sound

    module _ (slot : ℕ) (d : ControlState) (may : MayBeCopied c y a slot d) (awaits : is_lender_awaited t y ≡ true) where
      lends : MayLend (record (with_got_back t y.port) { pools = d.tables.pools }) y slot
      lends = subst (λ (e : ControlState). MayLend e.tables y slot) may.back.left may.may

      abbrev made : IsCopyToMake x t node n k q (machine.choice x c node n q a order active of_role elements asked sound) y slot
      made = machine.to_make x c node n q a order active of_role elements asked sound slot d may

      line : (b : Bool) → t.settings.response_overflow ≡ b → is_shut_for t y ≡ false
          → does ≡ (
            replies.Done,
            state_shown (sent.x' x t node n k q (machine.choice x c node n q a order active of_role elements asked sound) y slot made order.order there active.server awaits d.tables.pools may.back.back lends)
                (with_copy_lost false (with_lanes (delivers b slot) (with_loaned_slot (with_got_back t y.port) y k slot) (way_of y ∷ [])) y.port.number),
          )
      line true on free =
          sent.goes_over x t node n k q (machine.choice x c node n q a order active of_role elements asked sound) y slot made order.order there active.server awaits d.tables.pools may.back.back lends on
      line false off free =
          sent.goes_in_line x t node n k q (machine.choice x c node n q a order active of_role elements asked sound) y slot made order.order there active.server awaits d.tables.pools may.back.back lends
          (not_shut (on_way is_full true t.ports (way_of y)) t.settings.response_overflow (ap not free) off) off

    in_line_whole : (place : Place) (new : ControlState) → goes_in_line t y ≡ true → IsInLine c y a place new
        → Whole replies.Done (state_shown (given_after_copy x q (Done (Some place))) new.tables)
    in_line_whole place new goes is =
        let parts = shut_both (is_lender_awaited t y) (is_shut_for t y) goes in
        whole_by replies.Done (state_shown (given_after_copy x q (Done (Some place))) new.tables)
        (line place.slot is.between is.may parts.0 t.settings.response_overflow refl parts.1
        ∙ ap (λ (v : m.State). (replies.Done, v))
        (bare_pools_show_the_same _ (with_copy_sent (with_got_back t y.port) y k place.slot) new.tables.pools
        (put_same t.pools is.between.tables.pools y.port.pool place.slot (loaned_slot y k) is.may.back.back.same ∙ is.handed.same)
        ∙ ap₂ state_shown
        (ap₂ (λ (pool : ℕ) (r : Role). with_contents x pool place.slot (record { user = (shape_of (limits_of x t) r).user; payload = q.words; filled = 0 })) (sym is.pool) active.server)
        (ap (λ (e : ControlState). record (with_copy_sent e.tables y k place.slot) { pools = new.tables.pools }) (sym is.may.back.left)
        ∙ sym (ap (λ (e : ControlState). e.tables) is.left))))

    shut_parts : is_shut_for t y ≡ true → (on_way is_full true t.ports (way_of y) ≡ true) × (t.settings.response_overflow ≡ false)
    shut_parts shut = shut_both (on_way is_full true t.ports (way_of y)) t.settings.response_overflow shut

    undelivered_whole : (new : ControlState) → fails_for t y fails ≡ true → IsLost c y a true new → Whole (replies.Refused refusals.UnableToDeliver) (state_shown x new.tables)
    undelivered_whole new lost is =
        let first = two (is_lender_awaited t y) (is_shut_for t y && fails) lost in
        let next = two (is_shut_for t y) fails first.1 in
        let shut = shut_parts next.0 in
        whole_by (replies.Refused refusals.UnableToDeliver) (state_shown x new.tables)
        (sent.is_undelivered x t node n k q (machine.choice x c node n q a order active of_role elements asked sound) y is.slot (made is.slot is.between is.may first.0) order.order there active.server first.0
        is.between.tables.pools is.may.back.back (lends is.slot is.between is.may first.0) fails failure shut.0 shut.1 next.1
        ∙ ap (λ (v : m.State). (replies.Refused refusals.UnableToDeliver, v)) (machine.lost_shows x c node n q a order active of_role elements asked sound true new is))

    nobody_whole : (new : ControlState) → goes_in_line t y ≡ false → fails_for t y fails ≡ false → IsLost c y a false new → Whole replies.Done (state_shown x new.tables)
    nobody_whole new off kept is = step (is_lender_awaited t y) refl
      where
        step : (b : Bool) → is_lender_awaited t y ≡ b → Whole replies.Done (state_shown x new.tables)
        step false none = machine.nobody_whole x c node n q a order active of_role elements asked sound new none is
        step true awaits =
            let shut_is = shut_out (is_lender_awaited t y) (is_shut_for t y) off awaits in
            let shut = shut_parts shut_is in
            whole_by replies.Done (state_shown x new.tables)
            (sent.is_skipped x t node n k q (machine.choice x c node n q a order active of_role elements asked sound) y is.slot (made is.slot is.between is.may awaits) order.order there active.server awaits
            is.between.tables.pools is.may.back.back (lends is.slot is.between is.may awaits) fails failure shut.0 shut.1
            (no_failure (is_lender_awaited t y) (is_shut_for t y) fails kept awaits shut_is)
            ∙ ap (λ (v : m.State). (replies.Done, v)) (machine.lost_shows x c node n q a order active of_role elements asked sound false new is))

    answers_whole : (r : Answered) (new : ControlState) → CopyComesTo c y a fails r new → Whole (reply_of_copy r) (state_shown (given_after_copy x q r) new.tables)
    answers_whole (Done (Some place)) new is = in_line_whole place new is.0 is.1
    answers_whole (Done None) new is = nobody_whole new is.0 is.1 is.2
    answers_whole Undelivered new is = undelivered_whole new is.0 is.1
    answers_whole (Refused r) new is = machine.refused_whole x c node n q a order active of_role elements asked sound new (refusal_of r) is
    answers_whole OutOfMemory new is = machine.dry_whole x c node n q a order active of_role elements asked sound new is

-- the same, by the handle that is found
pub copy_whole : (c : ControlState) (node n : ℕ) (a : Asked) (fails : Bool) (result : Answered) (new : ControlState) → IsControl c → IsActive c.tables node n
    → ((h : HandleState) (p : PortState) → handle_in c.tables.handles node n ≡ Some h → port_in c.tables.ports h.port ≡ Some p
    → (l : LaneState) → lane_on c.tables.ports (way_of (lender_of_response c.tables h p)) ≡ Some l → IsSound l)
    → ((h : HandleState) (p : PortState) → handle_in c.tables.handles node n ≡ Some h → port_in c.tables.ports h.port ≡ Some p
    → CopyComesTo c (lender_of_response c.tables h p) a fails result new)
    → (h : HandleState) → handle_in c.tables.handles node n ≡ Some h
    → (x : Given) (q : Payload) → IsAskedOf x.response a → IsFailure x c.tables h fails
    → q.role ≡ Server → q.elements ≡ Some a.elements
    → IsWholeCall (state_shown x c.tables) node (SendCopy n q) (reply_of_copy result) (state_shown (given_after_copy x q result) new.tables)
copy_whole c node n a fails result new order active sound answers h there x q asked failure role elements =
    answers_whole x c node n q a order active role elements asked (sound active.handle active.port active.named.there active.there) fails
    (ap (λ (k : ℕ). fails_at (fixed_of x c.tables) (response_way active.handle.client (lane_of c.tables active.handle) k))
    (number_is c.tables order.order active.handle.port active.port active.there)
    ∙ subst (λ (k : HandleState). IsFailure x c.tables k fails) (same_Some h active.handle (sym there ∙ active.named.there)) failure)
    result new (answers active.handle active.port active.named.there active.there)
