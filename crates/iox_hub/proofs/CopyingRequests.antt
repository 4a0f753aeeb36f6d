-- The copy of a request, by what it came to: it is one whole call, and leads to a hub.
use Rattle.std.specs.Prelude.{◌≡◌, ℕ, ◌<◌, ◌≤◌, Bool, true, false, List, [], length, Option, Some, None, refl}
use Rattle.iox_model.specs.declared.way.Way.{Way}
use Rattle.std.specs.Option.{option_map, option_map_or}
use Rattle.std.proofs.Common.{sym, ap, ap₂, subst, ◌∙◌, true≢false}
use Rattle.std.proofs.lemmas.Option.{none-some}
use Rattle.iox_store.specs.Stored.{StoredMessage, room_with, unlent}
use Rattle.iox_model.specs.declared.call.Call.TheVariants.{SendCopy}
use Rattle.iox_model.specs.declared.kind.Role.TheVariants.{Client}
use Rattle.iox_hub_ports.specs.declared.info.PortInfo.{PortInfo}
use Rattle.iox_hub_ports.specs.Ports.{info_in, info_of}
use Rattle.iox_model.specs.Commands.{Payload}
use Rattle.iox_model.specs.Settings.{Shape, is_client, shape_of}
use Rattle.iox_model.specs.WholeCalls.{IsWholeCall}
use Rattle.iox_tables.specs.HubBooks.Hubs.{AreInOrder}
use Rattle.iox_tables.proofs.HubBooks.Frames.{AreAlike}
use Rattle.iox_tables.specs.HubLoans.Lenders.{IsClient, Lender, lender_of_request, shape_in}
use Rattle.iox_tables.specs.HubLoans.Loans.{loaned_handle, with_loaned}
use Rattle.iox_tables.specs.HubStates.Ends.{OfEachHandle}
use Rattle.iox_tables.specs.HubStates.Sendings.{pending_of}
use Rattle.iox_tables.specs.HubStates.States.{Given, limits_of, state_shown}
use Rattle.iox_tables.specs.HubStates.Tables.{HandleState, HubTables, PortState, port_in}
use Rattle.iox_tables.specs.HubStates.Wirings.{handle_in}
use Rattle.iox_control.specs.Controls.{ControlState, IsControl}
use Rattle.iox_control_request_copies.specs.Asked.{Asked}
use Rattle.iox_control_request_copies.specs.Loaned.{Loaned}
use Rattle.iox_control_request_copies.specs.Place.{Place}
use Rattle.iox_control_request_copies.specs.LoanRefusal.TheVariants.{WantOfMemory}
use Rattle.iox_control_request_copies.specs.Lends.{IsAskedOf, on_lane}
use Rattle.iox_control_request_copies.specs.Requests.{ways_of, with_request_sent}
use Rattle.iox_control_request_copies.specs.declared.copied.Copied.{Copied}
use Rattle.iox_control_request_copies.specs.declared.copied.Copied.TheVariants.{To, Refused, OutOfMemory, ExceedsMaxActiveRequests, UnableToDeliver}
use Rattle.iox_control_request_copies.specs.Copies.{AreFailuresOf, Copies, IsLentAndSent, IsLost, given_after_copy, handle_of_loan, loan_of, reply_of_copy, to_fill}
use Rattle.iox_hub.specs.Copying.{HasCopied, IsAwaited, LeavesCopied, asked_of_copy, copied_stored, hub_with_copies}
use Rattle.iox_hub.specs.Fits.{SuitsHandle, WordsFit, are_requests_in, count_in, longest_in}
use Rattle.iox_hub.specs.Growing.{LoanHasRoom}
use Rattle.iox_backpressure.specs.Failing.{fails_with}
use Rattle.iox_backpressure.specs.Handlers.{handler_in}
use Rattle.iox_hub.specs.Hubs.{HubState, IsHub, fails_of, given_by, many_in, state_of_hub, with_control}
use Rattle.iox_hub.specs.Lending.{payload_of, with_message}
use Rattle.iox_hub.specs.Reads.{message_in}
use Rattle.iox_hub.specs.Words.{Carried, stored_in}
use Rattle.iox_hub.proofs.GrowingRoom.{loan_has_room, test_never_wants}
use Rattle.iox_hub.proofs.CopyingWords.{lost_fits}
use Rattle.iox_hub.proofs.Fitting.{fits_on}
use Rattle.iox_hub.proofs.LendingCalls.{refused_left}
use Rattle.iox_hub.proofs.LendingGiven.{IsNoUnfilled, filled_unread, given_put, hub_is_left}
use Rattle.iox_hub.proofs.LendingMade.{back_fits, back_order, back_there, lent_requests, lent_within, loan_fits, loan_found, none_unfilled}
use Rattle.iox_hub.proofs.OneElement.{loan_is_of_one}
use Rattle.iox_hub.proofs.LendingWords.{requests_new, stored_new}
use Rattle.iox_hub.proofs.LendingWrites.{changed_is_found, each_changed}
use Rattle.iox_hub.proofs.Named.{handle_is_value}
use Rattle.iox_hub.proofs.SendingFits.{request_alike}
use Rattle.iox_hub.proofs.Handling.{as_told, fails_as_told}

-- a client that a node has is connected
pub client_is_there : (t : HubTables) (node n : ℕ) → IsClient t node n → (ports : List PortState) → ports ≡ t.ports → (r : Option PortInfo) → r ≡ info_in ports n → r ≡ None → ⊥
client_is_there t node n is ports same r found none =
    none-some (info_of is.port) (sym none ∙ found ∙ ap (λ ps. info_in ps n) same ∙ ap (option_map info_of) is.there)

-- A copy of so many elements was asked of a hub for that client, and came to this result.
pub record IsCopyCall (h : HubState) (k : ℕ) (ws : List ℕ) (node n : ℕ) (new : ControlState) (result : Copied) : Type 0 where
  pub client : IsClient h.control.tables node n
  pub reply :
      (p : PortState) → port_in h.control.tables.ports n ≡ Some p
      → Copies h.control p (asked_of_copy h.request k) (fails_of h p) result new
  pub order : IsControl new
  pub whole :
      (x : Given) → IsWholeCall (state_of_hub x h) node (SendCopy n (payload_of Client k ws)) (reply_of_copy result)
      (state_shown (given_after_copy (given_by x h) (payload_of Client k ws) result) new.tables)

module _ {h : HubState} (hub : IsHub h) (n : ℕ) (ports : List PortState) (here : ports ≡ h.control.tables.ports) (r : Option PortInfo) (found : r ≡ info_in ports n) (info : PortInfo)
    (some : r ≡ Some info) (handler : Option (List ℕ)) (said : handler ≡ handler_in h.handlers n) where
  pub copy_call : (a : Asked) (k : ℕ) (ws : List ℕ) (node : ℕ) (new : ControlState) (result : Copied) → a ≡ asked_of_copy h.request k → IsClient h.control.tables node n
      → ((p : PortState) → port_in h.control.tables.ports n ≡ Some p → Copies h.control p (to_fill a) (λ w. fails_with handler info.strategy w.sender w.receiver) result new) → IsControl new
      → ((x : Given) (q : Payload) → IsAskedOf x.request a → AreFailuresOf x h.control.tables n (λ w. fails_with handler info.strategy w.sender w.receiver) → q.role ≡ Client
      → q.elements ≡ Some a.elements
      → IsWholeCall (state_shown x h.control.tables) node (SendCopy n q) (reply_of_copy result) (state_shown (given_after_copy x q result) new.tables))
      → IsCopyCall h k ws node n new result
  copy_call a k ws node new result same is left order whole = record {
    client = is;
    reply = λ p at.
        subst (λ (f : Way → Bool). Copies h.control p (asked_of_copy h.request k) f result new)
        (as_told h ports here n r found info some handler said p n refl at)
        (subst (λ (b : Asked). Copies h.control p (to_fill b) (λ w. fails_with handler info.strategy w.sender w.receiver) result new) same (left p at));
    order = order;
    whole = λ x.
        whole (given_by x h) (payload_of Client k ws)
        (subst (IsAskedOf h.request) (sym same) (record { count = refl; layout = refl }))
        (fails_as_told h ports here n r found info some handler said x) refl (ap (λ (b : Asked). Some b.elements) (sym same));
  }

module _ {h : HubState} (hub : IsHub h) (k : ℕ) (ws : List ℕ) (node n : ℕ) (new : ControlState) where
  abbrev a : Asked
  a = asked_of_copy h.request k

  -- ---- it is sent

  module _ (number servers : ℕ) (place : Place) (c : IsCopyCall h k ws node n new (To number servers place)) where
    abbrev p : PortState
    p = c.client.port

    abbrev y : Lender
    y = lender_of_request p 0

    abbrev l : Loaned
    l = loan_of number place

    abbrev overflow : Bool
    overflow = h.control.tables.settings.request_overflow

    abbrev sent : IsLentAndSent h.control p a overflow l servers new
    sent = (c.reply c.client.port c.client.there).2

    abbrev loaned : ControlState
    loaned = sent.loaned

    abbrev mid : ControlState
    mid = sent.lent.between

    abbrev its : Lender
    its = on_lane y sent.lent.made.lane

    of : (x : Given) → shape_in (given_by x h) h.control.tables p ≡ h.request
    of x = ap (shape_of (limits_of (given_by x h) h.control.tables)) c.client.client

    asked : IsAskedOf h.request a
    asked = record { count = refl; layout = refl }

    pub copy_within : place.slot < count_in h.words place.pool
    copy_within = lent_within hub h.request a y n c.client.there of asked l loaned sent.lent

    pub copy_room : (spare : Option ℕ)
        → ((p : PortState) → port_in h.control.tables.ports n ≡ Some p → LoanHasRoom h (lender_of_request p 0) h.request k spare)
        → k ≤ room_with (longest_in h.words place.pool) spare
    copy_room spare room =
        loan_has_room h h.request y n k spare c.client.there (room c.client.port c.client.there) a refl asked l loaned sent.lent

    pub copy_of : are_requests_in h.words place.pool ≡ true
    copy_of = lent_requests hub h.request a y n c.client.there of asked l loaned sent.lent true (ap is_client c.client.client)

    module _ (words : List (Option Carried))
        (put : words ≡ with_message h.words place.pool place.slot (copied_stored h.request.user k ws (stored_in h.words place.pool place.slot))) where
      abbrev z : StoredMessage
      z = copied_stored h.request.user k ws (stored_in h.words place.pool place.slot)

      abbrev us : List (Option Carried)
      us = with_message h.words place.pool place.slot z

      abbrev h' : HubState
      h' = record h { control = new; words = words }

      mid_fits : WordsFit (many_in h) h.words mid.tables
      mid_fits = back_fits h.words h.control mid hub.words hub.control.order n p c.client.there sent.lent.back

      mid_order : AreInOrder mid.tables
      mid_order = back_order h.words h.control mid hub.words hub.control.order n p c.client.there sent.lent.back

      mid_there : port_in mid.tables.ports n ≡ Some p
      mid_there = back_there h.words h.control mid hub.words hub.control.order n p c.client.there sent.lent.back

      lent_tables : with_loaned mid.tables its false k place.slot ≡ loaned.tables
      lent_tables = ap (λ (d : ControlState). d.tables) (sym sent.lent.made.left)

      lent_words : WordsFit (many_in h) us loaned.tables
      lent_words =
          subst (λ q. WordsFit (many_in h) (with_message h.words q place.slot z) loaned.tables) (sym sent.lent.made.pool)
          (subst (WordsFit (many_in h) (with_message h.words p.pool place.slot z)) lent_tables
          (loan_fits h.words mid.tables mid_fits mid_order n its mid_there false k place.slot sent.lent.made.within sent.lent.made.free z refl (λ e. refl)
          (loan_is_of_one hub h.request y of a asked l loaned sent.lent)))

      lent_unread : OfEachHandle (IsNoUnfilled place.pool place.slot) loaned.tables.handles
      lent_unread =
          subst (λ q. OfEachHandle (IsNoUnfilled q place.slot) loaned.tables.handles) (sym sent.lent.made.pool)
          (subst (λ (u : HubTables). OfEachHandle (IsNoUnfilled p.pool place.slot) u.handles) lent_tables
          (none_unfilled h.words mid.tables mid_fits mid_order n its mid_there false k place.slot sent.lent.made.within sent.lent.made.free refl))

      -- ---- the handle is a pending response

      abbrev handle : HandleState
      handle = handle_of_loan p l

      abbrev pending : HandleState
      pending = pending_of handle (length (ways_of loaned.tables handle overflow))

      tables : new.tables ≡ record (with_request_sent loaned.tables handle overflow) { pools = new.tables.pools }
      tables = ap (λ (d : ControlState). d.tables) sent.left

      suits : SuitsHandle (many_in h) us pending
      suits = record {
        kind = requests_new h.words place.pool place.slot z place.pool ∙ copy_of;
        one = λ e. absurd (true≢false (sym e));
        full = λ e. absurd (true≢false (sym e));
      }

      fits : WordsFit (many_in h) words new.tables
      fits =
          subst (λ (vs : List (Option Carried)). WordsFit (many_in h) vs new.tables) (sym put)
          (fits_on us loaned.tables lent_words new.tables
          (subst (λ (u : HubTables). AreAlike loaned.tables.ports u.ports) (sym tables) (request_alike loaned.tables handle overflow))
          sent.delivered.same
          (subst (λ (u : HubTables). OfEachHandle (SuitsHandle (many_in h) us) u.handles) (sym tables)
          (each_changed (SuitsHandle (many_in h) us) pending loaned.tables.handles lent_words.handles suits)))

      unread : OfEachHandle (IsNoUnfilled place.pool place.slot) new.tables.handles
      unread =
          subst (λ (u : HubTables). OfEachHandle (IsNoUnfilled place.pool place.slot) u.handles) (sym tables)
          (each_changed (IsNoUnfilled place.pool place.slot) pending loaned.tables.handles lent_unread (λ e. refl))

      found : handle_in new.tables.handles node number ≡ Some pending
      found =
          ap (λ (u : HubTables). handle_in u.handles node number) tables
          ∙ changed_is_found loaned.tables.handles node number (loaned_handle mid.tables its false place.slot) pending c.client.on_node refl there
        where
          there : handle_in loaned.tables.handles node number ≡ Some (loaned_handle mid.tables its false place.slot)
          there =
              ap₂ (λ m i. handle_in loaned.tables.handles m i) (sym c.client.on_node) sent.lent.made.number
              ∙ ap (λ (u : HubTables). handle_in u.handles p.node mid.tables.next_number) (sym lent_tables)
              ∙ loan_found h.words mid.tables mid_fits mid_order n its mid_there false k place.slot sent.lent.made.within sent.lent.made.free

      -- ---- what it comes to

      shown : (x : Given) → state_shown (given_after_copy (given_by x h) (payload_of Client k ws) (To number servers place)) new.tables ≡ state_of_hub x h'
      shown x =
          filled_unread (given_by x h) new.tables place.pool place.slot (record { user = h.request.user; payload = ws; filled = 0 }) k unread
          ∙ ap (λ g. state_shown g new.tables) (given_put x h new place.pool place.slot z copy_within)
          ∙ ap (λ (vs : List (Option Carried)). state_of_hub x (record h { control = new; words = vs })) (sym put)

      pub copy_whole : (x : Given) → IsWholeCall (state_of_hub x h) node (SendCopy n (payload_of Client k ws)) (reply_of_copy (To number servers place)) (state_of_hub x h')
      copy_whole x =
          subst (IsWholeCall (state_of_hub x h) node (SendCopy n (payload_of Client k ws)) (reply_of_copy (To number servers place))) (shown x) (c.whole x)

      pub copy_hub : IsHub h'
      copy_hub = hub_is_left h h' node (SendCopy n (payload_of Client k ws)) (reply_of_copy (To number servers place)) hub c.order fits copy_whole

      pub copy_left : h' ≡ hub_with_copies h new h.request k ws place
      copy_left = ap (λ (vs : List (Option Carried)). record h { control = new; words = vs }) put

      carried : message_in h' node number ≡ z
      carried =
          ap (λ o. option_map_or (λ (j : HandleState). stored_in words j.pool j.slot) o (unlent 0 [])) found
          ∙ ap (λ (vs : List (Option Carried)). stored_in vs place.pool place.slot) put
          ∙ stored_new h.words place.pool place.slot z copy_within

      pub copy_awaited : IsAwaited h' node number servers k ws
      copy_awaited = record {
        value = handle_is_value new.tables c.order.order node number pending found;
        connections = ap (λ o. option_map_or (λ (j : HandleState). j.connections) o 0) found ∙ sym sent.count;
        message = carried ∙ ap (copied_stored h.request.user k ws) (sym carried);
      }

  -- ---- it is not

  abbrev IsNone : Copied → Type 0
  IsNone result = (number servers : ℕ) (place : Place) → result ≡ To number servers place → ⊥

  pub other_whole : (result : Copied) → IsNone result → IsCopyCall h k ws node n new result
      → (x : Given) → IsWholeCall (state_of_hub x h) node (SendCopy n (payload_of Client k ws)) (reply_of_copy result) (state_of_hub x (with_control h new))
  other_whole (To number servers place) never c = absurd (never number servers place refl)
  other_whole (Refused r) never c = c.whole
  other_whole OutOfMemory never c = c.whole
  other_whole ExceedsMaxActiveRequests never c = c.whole
  other_whole UnableToDeliver never c = c.whole

  lost_fits_then : (client : IsClient h.control.tables node n) → IsLost h.control client.port a new → WordsFit (many_in h) h.words new.tables
  lost_fits_then client is =
      subst (λ (d : ControlState). WordsFit (many_in h) h.words d.tables) (sym is.left)
      (lost_fits h.words true is.between.tables client.port.number
      (back_fits h.words h.control is.between hub.words hub.control.order n client.port client.there is.back))

  pub other_hub : (result : Copied) → IsNone result → IsCopyCall h k ws node n new result → IsHub (with_control h new)
  other_hub (To number servers place) never c = absurd (never number servers place refl)
  other_hub (Refused r) never c = subst IsHub (sym (refused_left h (lender_of_request c.client.port 0) a r new (c.reply c.client.port c.client.there))) hub
  other_hub OutOfMemory never c =
      hub_is_left h (with_control h new) node (SendCopy n (payload_of Client k ws)) (reply_of_copy OutOfMemory) hub c.order
      (back_fits h.words h.control new hub.words hub.control.order n c.client.port c.client.there (c.reply c.client.port c.client.there).back) c.whole
  other_hub ExceedsMaxActiveRequests never c =
      hub_is_left h (with_control h new) node (SendCopy n (payload_of Client k ws)) (reply_of_copy ExceedsMaxActiveRequests) hub c.order
      (lost_fits_then c.client (c.reply c.client.port c.client.there).1) c.whole
  other_hub UnableToDeliver never c =
      hub_is_left h (with_control h new) node (SendCopy n (payload_of Client k ws)) (reply_of_copy UnableToDeliver) hub c.order
      (lost_fits_then c.client (c.reply c.client.port c.client.there).2) c.whole

  pub other_left : (result : Copied) → IsNone result → IsCopyCall h k ws node n new result → LeavesCopied h k ws result (with_control h new)
  other_left (To number servers place) never c = absurd (never number servers place refl)
  other_left (Refused r) never c = refused_left h (lender_of_request c.client.port 0) a r new (c.reply c.client.port c.client.there)
  other_left OutOfMemory never c = refl
  other_left ExceedsMaxActiveRequests never c = refl
  other_left UnableToDeliver never c = refl

  pub other_has : (result : Copied) → IsNone result → HasCopied (with_control h new) node k ws result
  other_has (To number servers place) never = absurd (never number servers place refl)
  other_has (Refused r) never = tt
  other_has OutOfMemory never = tt
  other_has ExceedsMaxActiveRequests never = tt
  other_has UnableToDeliver never = tt

  -- memory is never wanted where the room is there
  pub copy_never_wants : (result : Copied) → IsCopyCall h k ws node n new result → result ≡ Refused WantOfMemory → ⊥
  copy_never_wants result c e =
      let d : IsCopyCall h k ws node n new (Refused WantOfMemory) = subst (IsCopyCall h k ws node n new) e c in
      test_never_wants (given_by hub.reached.0 h) h.control.tables (lender_of_request d.client.port 0) k
      ((d.reply d.client.port d.client.there).told (given_by hub.reached.0 h)
      (subst (λ (z : Shape). IsAskedOf z a) (sym (ap (shape_of (limits_of (given_by hub.reached.0 h) h.control.tables)) d.client.client)) (record { count = refl; layout = refl })))
