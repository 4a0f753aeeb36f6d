-- The copy of a response, by what it came to: it is one whole call, and leads to a hub.
use Rattle.std.specs.Prelude.{◌≡◌, ℕ, ◌-◌, ◌<◌, ◌≤◌, Bool, true, false, List, Option, Some, None, refl}
use Rattle.std.proofs.Common.{sym, ap, subst, ◌∙◌}
use Rattle.std.proofs.lemmas.Option.{none-some, same_Some}
use Rattle.iox_model.specs.declared.call.Call.TheVariants.{SendCopy}
use Rattle.iox_model.specs.declared.kind.Role.TheVariants.{Server}
use Rattle.iox_model.specs.Commands.{Payload}
use Rattle.iox_model.specs.Settings.{Shape, is_client, shape_of}
use Rattle.iox_model.specs.WholeCalls.{IsWholeCall}
use Rattle.iox_store.specs.Stored.{StoredMessage, room_with}
use Rattle.iox_tables.specs.HubBooks.Hubs.{AreInOrder}
use Rattle.iox_tables.specs.HubLoans.Lenders.{IsActive, Lender, lender_of_response, shape_in}
use Rattle.iox_tables.specs.HubLoans.Loans.{with_loaned}
use Rattle.iox_tables.specs.HubStates.Ends.{OfEachHandle}
use Rattle.iox_tables.specs.HubStates.States.{Given, limits_of, state_shown}
use Rattle.iox_tables.specs.HubStates.Tables.{HandleState, HubTables, PortState, port_in}
use Rattle.iox_tables.specs.HubStates.Wirings.{handle_in}
use Rattle.iox_control.specs.Controls.{ControlState, IsControl}
use Rattle.iox_control_request_copies.specs.Answered.{Answered}
use Rattle.iox_control_request_copies.specs.Answered.TheVariants.{Done, Refused, OutOfMemory, Undelivered}
use Rattle.iox_control_request_copies.specs.Answers.{CopyComesTo, IsInLine, IsLost, given_after_copy, reply_of_copy, with_copy_sent}
use Rattle.iox_control_request_copies.specs.Asked.{Asked}
use Rattle.iox_control_request_copies.specs.Loaned.{Loaned}
use Rattle.iox_control_request_copies.specs.Place.{Place}
use Rattle.iox_control_request_copies.specs.LoanRefusal.TheVariants.{WantOfMemory}
use Rattle.iox_control_request_copies.specs.Lends.{IsAskedOf, IsLoaned, MayBeOn, on_lane}
use Rattle.iox_control_request_copies.specs.Responses.{IsFailure}
use Rattle.iox_hub.specs.Copying.{LeavesAnswered, asked_of_copy, copied_stored, hub_with_copies, copy_place}
use Rattle.iox_hub.specs.Fits.{WordsFit, are_requests_in, count_in, longest_in}
use Rattle.iox_hub.specs.Growing.{LoanHasRoom}
use Rattle.iox_backpressure.specs.Failing.{fails_with}
use Rattle.iox_backpressure.specs.Handlers.{handler_in}
use Rattle.iox_hub.specs.Hubs.{HubState, IsHub, fails_of, given_by, many_in, state_of_hub, with_control}
use Rattle.iox_hub.specs.Lending.{payload_of, with_message}
use Rattle.iox_hub.specs.Words.{Carried, stored_in}
use Rattle.iox_hub.proofs.GrowingRoom.{loan_has_room, test_never_wants}
use Rattle.iox_hub.proofs.CopyingWords.{line_fits, lost_fits, none_there}
use Rattle.iox_hub.proofs.LendingCalls.{refused_left}
use Rattle.iox_hub.proofs.LendingGiven.{IsNoUnfilled, filled_unread, given_put, hub_is_left}
use Rattle.iox_hub.proofs.LendingMade.{back_fits, back_order, lent_requests, lent_within}
use Rattle.iox_hub.proofs.Handling.{response_fails, response_said}
use Rattle.iox_tables.specs.HubStates.Releases.{way_to_client}

-- A copy of so many elements was asked of a hub for that active request, and came to this result.
pub record IsAnswerCall (h : HubState) (k : ℕ) (ws : List ℕ) (node n : ℕ) (new : ControlState) (result : Answered) : Type 0 where
  pub active : IsActive h.control.tables node n
  pub reply :
      (j : HandleState) → handle_in h.control.tables.handles node n ≡ Some j → (p : PortState) → port_in h.control.tables.ports j.port ≡ Some p
      → CopyComesTo h.control (lender_of_response h.control.tables j p) (asked_of_copy h.response k) (fails_of h p (way_to_client h.control.tables j)) result new
  pub order : IsControl new
  pub whole :
      (x : Given) → IsWholeCall (state_of_hub x h) node (SendCopy n (payload_of Server k ws)) (reply_of_copy result)
      (state_shown (given_after_copy (given_by x h) (payload_of Server k ws) result) new.tables)

module _ {h : HubState} (hub : IsHub h) (j : HandleState) (node n : ℕ) (found : Some j ≡ handle_in h.control.tables.handles node n) (fails : Bool)
    (told : (p : PortState) → port_in h.control.tables.ports j.port ≡ Some p → fails ≡ fails_with (handler_in h.handlers j.port) p.strategy j.port j.client) where
  pub answer_call : (a : Asked) (k : ℕ) (ws : List ℕ) (new : ControlState) (result : Answered) → a ≡ asked_of_copy h.response k → IsActive h.control.tables node n
      → ((j : HandleState) (p : PortState) → handle_in h.control.tables.handles node n ≡ Some j → port_in h.control.tables.ports j.port ≡ Some p
      → CopyComesTo h.control (lender_of_response h.control.tables j p) a fails result new) → IsControl new
      → ((j : HandleState) → handle_in h.control.tables.handles node n ≡ Some j → (x : Given) (q : Payload) → IsAskedOf x.response a → IsFailure x h.control.tables j fails
      → q.role ≡ Server → q.elements ≡ Some a.elements
      → IsWholeCall (state_shown x h.control.tables) node (SendCopy n q) (reply_of_copy result) (state_shown (given_after_copy x q result) new.tables))
      → IsAnswerCall h k ws node n new result
  answer_call a k ws new result same is left order whole = record {
    active = is;
    reply = λ i at p there.
        subst (λ f. CopyComesTo h.control (lender_of_response h.control.tables i p) (asked_of_copy h.response k) f result new)
        (response_said hub j fails told i (same_Some j i (found ∙ at)) p there)
        (subst (λ b. CopyComesTo h.control (lender_of_response h.control.tables i p) b fails result new) same (left i p at there));
    order = order;
    whole = λ x.
        whole j (sym found) (given_by x h) (payload_of Server k ws)
        (subst (IsAskedOf h.response) (sym same) (record { count = refl; layout = refl }))
        (response_fails hub j fails told x node n (sym found)) refl (ap (λ (b : Asked). Some b.elements) (sym same));
  }

-- what it comes to at the active request's own port
pub left_of : {h : HubState} {k : ℕ} {ws : List ℕ} {node n : ℕ} {new : ControlState} {result : Answered} (c : IsAnswerCall h k ws node n new result)
    → CopyComesTo h.control (lender_of_response h.control.tables c.active.handle c.active.port) (asked_of_copy h.response k) (fails_of h c.active.port (way_to_client h.control.tables c.active.handle)) result new
left_of c = c.reply c.active.handle c.active.named.there c.active.port c.active.there

module _ {h : HubState} (hub : IsHub h) (k : ℕ) (ws : List ℕ) (node n : ℕ) (new : ControlState) where
  abbrev a : Asked
  a = asked_of_copy h.response k

  -- ---- it waits for its client

  module _ (place : Place) (c : IsAnswerCall h k ws node n new (Done (Some place))) where
    abbrev y : Lender
    y = lender_of_response h.control.tables c.active.handle c.active.port

    abbrev line : IsInLine h.control y a place new
    line = (left_of c).1

    abbrev mid : ControlState
    mid = line.between

    -- a loan of it would be made
    abbrev l : Loaned
    l = record { number = mid.tables.next_number; pool = y.port.pool; slot = place.slot }

    abbrev loaned : ControlState
    loaned = record mid { tables = with_loaned mid.tables (on_lane y y.lane) false k place.slot; room = mid.room - 1 }

    as_loan : IsLoaned h.control y a l loaned
    as_loan = record {
      passes = line.may.passes;
      between = mid;
      back = line.may.back;
      made = record {
        number = refl;
        pool = refl;
        within = line.may.may.within;
        free = line.may.may.free;
        lane = y.lane;
        chosen = subst (λ r. MayBeOn r mid.tables y y.lane) (sym c.active.server) refl;
        left = refl;
      };
    }

    of : (x : Given) → shape_in (given_by x h) h.control.tables y.port ≡ h.response
    of x = ap (shape_of (limits_of (given_by x h) h.control.tables)) c.active.server

    asked : IsAskedOf h.response a
    asked = record { count = refl; layout = refl }

    pub answer_within : place.slot < count_in h.words place.pool
    answer_within =
        subst (λ p. place.slot < count_in h.words p) (sym line.pool) (lent_within hub h.response a y c.active.handle.port c.active.there of asked l loaned as_loan)

    pub answer_room : (spare : Option ℕ) → LoanHasRoom h y h.response k spare → k ≤ room_with (longest_in h.words place.pool) spare
    answer_room spare room =
        subst (λ p. k ≤ room_with (longest_in h.words p) spare) (sym line.pool)
        (loan_has_room h h.response y c.active.handle.port k spare c.active.there room a refl asked l loaned as_loan)

    pub answer_of : are_requests_in h.words place.pool ≡ false
    answer_of =
        ap (are_requests_in h.words) line.pool
        ∙ lent_requests hub h.response a y c.active.handle.port c.active.there of asked l loaned as_loan false (ap is_client c.active.server)

    module _ (words : List (Option Carried))
        (put : words ≡ with_message h.words place.pool place.slot (copied_stored h.response.user k ws (stored_in h.words place.pool place.slot))) where
      abbrev z : StoredMessage
      z = copied_stored h.response.user k ws (stored_in h.words place.pool place.slot)

      abbrev h' : HubState
      h' = record h { control = new; words = words }

      mid_fits : WordsFit (many_in h) h.words mid.tables
      mid_fits = back_fits h.words h.control mid hub.words hub.control.order c.active.handle.port y.port c.active.there line.may.back

      mid_order : AreInOrder mid.tables
      mid_order = back_order h.words h.control mid hub.words hub.control.order c.active.handle.port y.port c.active.there line.may.back

      tables : new.tables ≡ record (with_copy_sent mid.tables y k place.slot) { pools = new.tables.pools }
      tables = ap (λ (d : ControlState). d.tables) line.left

      fits : WordsFit (many_in h) words new.tables
      fits =
          subst (λ (us : List (Option Carried)). WordsFit (many_in h) us new.tables) (sym put)
          (subst (λ p. WordsFit (many_in h) (with_message h.words p place.slot z) new.tables) (sym line.pool)
          (line_fits h.words mid.tables mid_fits mid_order y k place.slot line.may.may z refl new.tables tables line.handed.same))

      unread : OfEachHandle (IsNoUnfilled place.pool place.slot) new.tables.handles
      unread =
          subst (λ p. OfEachHandle (IsNoUnfilled p place.slot) new.tables.handles) (sym line.pool)
          (subst (λ (u : HubTables). OfEachHandle (IsNoUnfilled y.port.pool place.slot) u.handles) (sym tables)
          (none_there h.words mid.tables mid_fits mid_order y k place.slot line.may.may))

      shown : (x : Given) → state_shown (given_after_copy (given_by x h) (payload_of Server k ws) (Done (Some place))) new.tables ≡ state_of_hub x h'
      shown x =
          filled_unread (given_by x h) new.tables place.pool place.slot (record { user = h.response.user; payload = ws; filled = 0 }) k unread
          ∙ ap (λ g. state_shown g new.tables) (given_put x h new place.pool place.slot z answer_within)
          ∙ ap (λ (us : List (Option Carried)). state_of_hub x (record h { control = new; words = us })) (sym put)

      pub answer_whole : (x : Given) → IsWholeCall (state_of_hub x h) node (SendCopy n (payload_of Server k ws)) (reply_of_copy (Done (Some place))) (state_of_hub x h')
      answer_whole x =
          subst (IsWholeCall (state_of_hub x h) node (SendCopy n (payload_of Server k ws)) (reply_of_copy (Done (Some place)))) (shown x) (c.whole x)

      pub answer_hub : IsHub h'
      answer_hub = hub_is_left h h' node (SendCopy n (payload_of Server k ws)) (reply_of_copy (Done (Some place))) hub c.order fits answer_whole

      pub answer_left : h' ≡ hub_with_copies h new h.response k ws place
      answer_left = ap (λ (us : List (Option Carried)). record h { control = new; words = us }) put

  -- the same, where the result is said otherwise
  module _ (r : Answered) (place : Place) (at : copy_place r ≡ Some place) (c : IsAnswerCall h k ws node n new r) where
    pub done_is : r ≡ Done (Some place)
    done_is = step r at
      where
        step : (q : Answered) → copy_place q ≡ Some place → q ≡ Done (Some place)
        step (Done o) e = ap (λ p. Done p) e
        step (Refused s) e = absurd (none-some place e)
        step OutOfMemory e = absurd (none-some place e)
        step Undelivered e = absurd (none-some place e)

    as_done : IsAnswerCall h k ws node n new (Done (Some place))
    as_done = subst (λ q. IsAnswerCall h k ws node n new q) done_is c

    pub put_within : place.slot < count_in h.words place.pool
    put_within = answer_within place as_done

    pub put_room : (spare : Option ℕ)
        → ((j : HandleState) (p : PortState) → handle_in h.control.tables.handles node n ≡ Some j → port_in h.control.tables.ports j.port ≡ Some p
        → LoanHasRoom h (lender_of_response h.control.tables j p) h.response k spare)
        → k ≤ room_with (longest_in h.words place.pool) spare
    put_room spare room =
        answer_room place as_done spare (room as_done.active.handle as_done.active.port as_done.active.named.there as_done.active.there)

    pub put_of : are_requests_in h.words place.pool ≡ false
    put_of = answer_of place as_done

    module _ (words : List (Option Carried))
        (put : words ≡ with_message h.words place.pool place.slot (copied_stored h.response.user k ws (stored_in h.words place.pool place.slot))) where
      abbrev then : HubState
      then = record h { control = new; words = words }

      pub put_hub : IsHub then
      put_hub = answer_hub place as_done words put

      pub put_whole : (x : Given) → IsWholeCall (state_of_hub x h) node (SendCopy n (payload_of Server k ws)) (reply_of_copy r) (state_of_hub x then)
      put_whole =
          subst (λ q. (x : Given) → IsWholeCall (state_of_hub x h) node (SendCopy n (payload_of Server k ws)) (reply_of_copy q) (state_of_hub x then)) (sym done_is)
          (answer_whole place as_done words put)

      pub put_left : LeavesAnswered h k ws r then
      put_left = subst (λ q. LeavesAnswered h k ws q then) (sym done_is) (answer_left place as_done words put)

  -- ---- it does not

  abbrev pub IsNone : Answered → Type 0
  IsNone result = (place : Place) → result ≡ Done (Some place) → ⊥

  pub none_is : (r : Answered) → copy_place r ≡ None → IsNone r
  none_is r none place e = none-some place (sym none ∙ ap copy_place e)

  pub other_whole : (result : Answered) → IsNone result → IsAnswerCall h k ws node n new result
      → (x : Given) → IsWholeCall (state_of_hub x h) node (SendCopy n (payload_of Server k ws)) (reply_of_copy result) (state_of_hub x (with_control h new))
  other_whole (Done (Some place)) never c = absurd (never place refl)
  other_whole (Done None) never c = c.whole
  other_whole (Refused r) never c = c.whole
  other_whole OutOfMemory never c = c.whole
  other_whole Undelivered never c = c.whole

  lost_fits_then : (y : Lender) (port : ℕ) → port_in h.control.tables.ports port ≡ Some y.port → (fails : Bool) → IsLost h.control y a fails new → WordsFit (many_in h) h.words new.tables
  lost_fits_then y port there fails is =
      subst (λ (d : ControlState). WordsFit (many_in h) h.words d.tables) (sym is.left)
      (lost_fits h.words fails is.between.tables y.port.number
      (back_fits h.words h.control is.between hub.words hub.control.order port y.port there is.may.back))

  pub other_hub : (result : Answered) → IsNone result → IsAnswerCall h k ws node n new result → IsHub (with_control h new)
  other_hub (Done (Some place)) never c = absurd (never place refl)
  other_hub (Done None) never c =
      hub_is_left h (with_control h new) node (SendCopy n (payload_of Server k ws)) (reply_of_copy (Done None)) hub c.order
      (lost_fits_then (lender_of_response h.control.tables c.active.handle c.active.port) c.active.handle.port c.active.there false (left_of c).2) c.whole
  other_hub (Refused r) never c = subst IsHub (sym (refused_left h (lender_of_response h.control.tables c.active.handle c.active.port) a r new (left_of c))) hub
  other_hub OutOfMemory never c =
      hub_is_left h (with_control h new) node (SendCopy n (payload_of Server k ws)) (reply_of_copy OutOfMemory) hub c.order
      (back_fits h.words h.control new hub.words hub.control.order c.active.handle.port c.active.port c.active.there (left_of c).back) c.whole
  other_hub Undelivered never c =
      hub_is_left h (with_control h new) node (SendCopy n (payload_of Server k ws)) (reply_of_copy Undelivered) hub c.order
      (lost_fits_then (lender_of_response h.control.tables c.active.handle c.active.port) c.active.handle.port c.active.there true (left_of c).1) c.whole

  pub other_left : (result : Answered) → IsNone result → IsAnswerCall h k ws node n new result → LeavesAnswered h k ws result (with_control h new)
  other_left (Done (Some place)) never c = absurd (never place refl)
  other_left (Done None) never c = refl
  other_left (Refused r) never c = refused_left h (lender_of_response h.control.tables c.active.handle c.active.port) a r new (left_of c)
  other_left OutOfMemory never c = refl
  other_left Undelivered never c = refl

  -- memory is never wanted where the room is there
  pub answer_never_wants : (result : Answered) → IsAnswerCall h k ws node n new result → result ≡ Refused WantOfMemory → ⊥
  answer_never_wants result c e =
      let d : IsAnswerCall h k ws node n new (Refused WantOfMemory) = subst (IsAnswerCall h k ws node n new) e c in
      test_never_wants (given_by hub.reached.0 h) h.control.tables (lender_of_response h.control.tables d.active.handle d.active.port) k
      ((left_of d).told (given_by hub.reached.0 h)
      (subst (λ (z : Shape). IsAskedOf z a) (sym (ap (shape_of (limits_of (given_by hub.reached.0 h) h.control.tables)) d.active.server)) (record { count = refl; layout = refl })))
