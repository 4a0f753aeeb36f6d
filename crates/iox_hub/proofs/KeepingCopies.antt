-- Copies keep all values.
use Rattle.std.specs.Prelude.{◌≡◌, ◌≢◌, ◌+◌, ℕ, Bool, true, false, List, [], ◌∷◌, length, map, Option, None, Some, IsSome, refl, ⊤}
use Rattle.std.proofs.Common.{ap, subst, ◌∙◌}
use Rattle.iox_store.specs.Stored.{StoredMessage}
use Rattle.iox_tables.specs.HubBooks.Hubs.{AreInOrder}
use Rattle.iox_tables.specs.HubBooks.Keeps.{delivers}
use Rattle.iox_tables.specs.HubLending.Emptying.{with_back}
use Rattle.iox_tables.proofs.HubLending.Owning.{free_is_unused}
use Rattle.iox_tables.specs.HubLoans.Lenders.{Lender, lender_of_request, lender_of_response, ways_by}
use Rattle.iox_tables.specs.HubLoans.Loans.{loaned_handle, with_loaned, with_loaned_slot}
use Rattle.iox_tables.specs.HubLoans.Questions.{kind_in}
use Rattle.iox_tables.specs.HubLoans.Slots.{IsUnused, is_place}
use Rattle.iox_tables.specs.HubStates.Changes.{emptied_lane, with_lanes}
use Rattle.iox_tables.specs.HubStates.Sendings.{pending_of}
use Rattle.iox_tables.specs.HubStates.Tables.{HandleState, HubTables, PortState, port_in, slot_at}
use Rattle.iox_tables.specs.HubStates.Wirings.{handle_in}
use Rattle.iox_control.specs.Controls.{ControlState, IsControl}
use Rattle.iox_control_request_copies.specs.Answers as responses
use Rattle.iox_control_request_copies.specs.Answers.{way_of, with_copy_lost, with_copy_sent}
use Rattle.iox_control_request_copies.specs.Answered.{Answered}
use Rattle.iox_control_request_copies.specs.Answered.TheVariants as answered
use Rattle.iox_control_request_copies.specs.Copies as requests
use Rattle.iox_control_request_copies.specs.Copies.{IsLentAndSent, handle_of_loan, loan_of}
use Rattle.iox_control_request_copies.specs.declared.copied.Copied.{Copied}
use Rattle.iox_control_request_copies.specs.declared.copied.Copied.TheVariants as copied
use Rattle.iox_control_request_copies.specs.Lends.{IsGotBack, on_lane}
use Rattle.iox_control_request_copies.specs.Place.{Place}
use Rattle.iox_control_request_copies.specs.Requests.{ways_of, with_request_sent}
use Rattle.iox_hub.specs.Copying.{asked_of_copy, copy_place}
use Rattle.iox_hub.specs.Hubs.{HubState, IsHub, with_control}
use Rattle.iox_hub.specs.Keeping.{KeepsAll}
use Rattle.iox_hub.specs.Lending.{with_message}
use Rattle.iox_hub.specs.Words.{Carried, stored_in}
use Rattle.iox_hub.proofs.CopyingRequests.{IsCopyCall}
use Rattle.iox_hub.proofs.CopyingResponses.{IsAnswerCall, done_is, left_of}
use Rattle.iox_hub.proofs.Keeping.{PortStays, RowStays, all_kept, value_stays}
use Rattle.iox_hub.proofs.KeepingCalls.{rows_keep, sent_owned}
use Rattle.iox_hub.proofs.KeepingHandles.{named_is_not_next, other_added, other_changed}
use Rattle.iox_hub.proofs.KeepingLoans.{none_is}
use Rattle.iox_hub.proofs.KeepingPorts.{AreOwnedAs, lanes_owned, owned, port_owned, still_as}
use Rattle.iox_hub.proofs.LendingCalls.{refused_left}
use Rattle.iox_hub.proofs.LendingMade.{back_order}
use Rattle.iox_hub.proofs.LendingWords.{stored_else}

-- ---- what is got back

module _ (c : ControlState) (p : PortState) (between : ControlState) (back : IsGotBack c p between) where
  abbrev ts : HubTables
  ts = c.tables

  back_is : between.tables ≡ with_back ts p between.tables.pools
  back_is = ap (λ (d : ControlState). d.tables) back.left

  back_owned : AreOwnedAs ts.ports between.tables.ports
  back_owned = ap (λ (x : HubTables). map owned x.ports) back_is ∙ lanes_owned emptied_lane ts.ports (ways_by p.role ts p.number)

  back_handles : between.tables.handles ≡ ts.handles
  back_handles = ap (λ (x : HubTables). x.handles) back_is

  back_next : between.tables.next_number ≡ ts.next_number
  back_next = ap (λ (x : HubTables). x.next_number) back_is

module _ {h : HubState} (hub : IsHub h) (new : ControlState) (order : IsControl new) (p : PortState) (between : ControlState) (back : IsGotBack h.control p between) where
  abbrev t : HubTables
  t = h.control.tables

  -- then a loan and calls may be counted
  lost_keeps : AreOwnedAs between.tables.ports new.tables.ports → new.tables.handles ≡ between.tables.handles → KeepsAll h (with_control h new)
  lost_keeps ports handles =
      rows_keep hub new order (λ a m. ⊤)
      (λ a m all q at held on. still_as t.ports new.tables.ports (ports ∙ back_owned h.control p between back) m q at)
      (λ a m all some. ap (λ (hs : List HandleState). handle_in hs a m) (handles ∙ back_handles h.control p between back))

  -- or a message may be written that nobody had
  put_keeps : (port : ℕ) → port_in t.ports port ≡ Some p → (pool slot : ℕ) → pool ≡ p.pool → (slot_at between.tables.pools p.pool slot).holders ≡ 0
      → AreOwnedAs between.tables.ports new.tables.ports
      → ((a m : ℕ) → IsSome (kind_in t a m) → handle_in new.tables.handles a m ≡ handle_in between.tables.handles a m)
      → (words : List (Option Carried)) (z : StoredMessage) → words ≡ with_message h.words pool slot z → KeepsAll h (record h { control = new; words = words })
  put_keeps port there pool slot at_pool free owned_so rows words z put a m all some =
      value_stays h (record h { control = new; words = words }) order.order a m ports row message some
    where
      ports : PortStays t new.tables a m
      ports q at held on = still_as t.ports new.tables.ports (owned_so ∙ back_owned h.control p between back) m q at

      row : RowStays t new.tables a m
      row = rows a m some ∙ ap (λ (hs : List HandleState). handle_in hs a m) (back_handles h.control p between back)

      message : (j : HandleState) → handle_in t.handles a m ≡ Some j → stored_in words j.pool j.slot ≡ stored_in h.words j.pool j.slot
      message j at =
          let mid_order : AreInOrder between.tables = back_order h.words h.control between hub.words hub.control.order port p there back in
          let unused : IsUnused between.tables p.pool slot = free_is_unused between.tables mid_order p.pool slot free in
          let apart : is_place pool slot j.pool j.slot ≡ false =
          ap (λ q. is_place q slot j.pool j.slot) at_pool
          ∙ none_is (λ i. is_place p.pool slot i.pool i.slot) between.tables.handles a m j unused.handles
          (ap (λ (hs : List HandleState). handle_in hs a m) (back_handles h.control p between back) ∙ at) in
          ap (λ (ws : List (Option Carried)). stored_in ws j.pool j.slot) put ∙ stored_else h.words pool slot z j.pool j.slot apart

-- ---- requests

module _ {h : HubState} (hub : IsHub h) (k : ℕ) (ws : List ℕ) (node n : ℕ) (new : ControlState) where
  module _ (number servers : ℕ) (place : Place) (c : IsCopyCall h k ws node n new (copied.To number servers place)) where
    abbrev its_port : PortState
    its_port = c.client.port

    abbrev overflow : Bool
    overflow = h.control.tables.settings.request_overflow

    abbrev sent : IsLentAndSent h.control its_port (asked_of_copy h.request k) overflow (loan_of number place) servers new
    sent = (c.reply c.client.port c.client.there).2

    abbrev mid : ControlState
    mid = sent.lent.between

    abbrev loaned : HubTables
    loaned = sent.loaned.tables

    abbrev its : Lender
    its = on_lane (lender_of_request its_port 0) sent.lent.made.lane

    abbrev handle : HandleState
    handle = handle_of_loan its_port (loan_of number place)

    abbrev pending : HandleState
    pending = pending_of handle (length (ways_of loaned handle overflow))

    loaned_is : loaned ≡ with_loaned mid.tables its false k place.slot
    loaned_is = ap (λ (d : ControlState). d.tables) sent.lent.made.left

    tables : new.tables ≡ record (with_request_sent loaned handle overflow) { pools = new.tables.pools }
    tables = ap (λ (d : ControlState). d.tables) sent.left

    next_same : mid.tables.next_number ≡ h.control.tables.next_number
    next_same = back_next h.control its_port mid sent.lent.back

    ports_owned : AreOwnedAs mid.tables.ports new.tables.ports
    ports_owned =
        ap (λ (x : HubTables). map owned x.ports) tables ∙ sent_owned loaned handle overflow
        ∙ ap (λ (x : HubTables). map owned x.ports) loaned_is
        ∙ port_owned (λ q. record q { loans = q.loans + 1 }) (λ q. refl) mid.tables.ports its_port.number

    rows : (a m : ℕ) → IsSome (kind_in h.control.tables a m) → handle_in new.tables.handles a m ≡ handle_in mid.tables.handles a m
    rows a m some =
        let not_next : m ≢ h.control.tables.next_number = named_is_not_next h.control.tables hub.control.order a m some in
        ap (λ (x : HubTables). handle_in x.handles a m) tables
        ∙ other_changed node number a m (λ same e. not_next (e ∙ sent.lent.made.number ∙ next_same)) pending c.client.on_node refl loaned.handles
        ∙ ap (λ (x : HubTables). handle_in x.handles a m) loaned_is
        ∙ other_added (loaned_handle mid.tables its false place.slot) a m (λ e. not_next (e ∙ next_same)) mid.tables.handles

    pub request_keeps_all : (words : List (Option Carried)) (z : StoredMessage) → words ≡ with_message h.words place.pool place.slot z
        → KeepsAll h (record h { control = new; words = words })
    request_keeps_all =
        put_keeps hub new c.order its_port mid sent.lent.back n c.client.there place.pool place.slot sent.lent.made.pool sent.lent.made.free ports_owned rows

  lost_request_keeps : (c : IsControl new) (p : PortState) → requests.IsLost h.control p (asked_of_copy h.request k) new → KeepsAll h (with_control h new)
  lost_request_keeps order p is =
      lost_keeps hub new order p is.between is.back
      (ap (λ (d : ControlState). map owned d.tables.ports) is.left
      ∙ port_owned (λ q. record q { loans = q.loans + 1 }) (λ q. refl) is.between.tables.ports p.number)
      (ap (λ (d : ControlState). d.tables.handles) is.left)

  pub other_request_keeps : (result : Copied) → ((number servers : ℕ) (place : Place) → result ≡ copied.To number servers place → ⊥)
      → IsCopyCall h k ws node n new result → KeepsAll h (with_control h new)
  other_request_keeps (copied.To number servers place) never c = absurd (never number servers place refl)
  other_request_keeps (copied.Refused r) never c =
      all_kept h (with_control h new)
      (refused_left h (lender_of_request c.client.port 0) (asked_of_copy h.request k) r new (c.reply c.client.port c.client.there))
  other_request_keeps copied.OutOfMemory never c =
      lost_keeps hub new c.order c.client.port new (c.reply c.client.port c.client.there).back refl refl
  other_request_keeps copied.ExceedsMaxActiveRequests never c = lost_request_keeps c.order c.client.port (c.reply c.client.port c.client.there).1
  other_request_keeps copied.UnableToDeliver never c = lost_request_keeps c.order c.client.port (c.reply c.client.port c.client.there).2

-- ---- responses

lost_owned : (fails : Bool) (t : HubTables) (n : ℕ) → AreOwnedAs t.ports (with_copy_lost fails t n).ports
lost_owned true t n = port_owned (λ q. record q { loans = q.loans + 1 }) (λ q. refl) t.ports n
lost_owned false t n = port_owned (λ q. record q { loans = q.loans + 1 }) (λ q. refl) t.ports n

lost_handles : (fails : Bool) (t : HubTables) (n : ℕ) → (with_copy_lost fails t n).handles ≡ t.handles
lost_handles true t n = refl
lost_handles false t n = refl

module _ {h : HubState} (hub : IsHub h) (k : ℕ) (ws : List ℕ) (node n : ℕ) (new : ControlState) where
  lost_response_keeps : IsControl new → (y : Lender) (fails : Bool) → responses.IsLost h.control y (asked_of_copy h.response k) fails new → KeepsAll h (with_control h new)
  lost_response_keeps order y fails is =
      lost_keeps hub new order y.port is.between is.may.back
      (ap (λ (d : ControlState). map owned d.tables.ports) is.left ∙ lost_owned fails is.between.tables y.port.number)
      (ap (λ (d : ControlState). d.tables.handles) is.left ∙ lost_handles fails is.between.tables y.port.number)

  in_line_keeps : (place : Place) (c : IsAnswerCall h k ws node n new (answered.Done (Some place))) (words : List (Option Carried)) (z : StoredMessage)
      → words ≡ with_message h.words place.pool place.slot z → KeepsAll h (record h { control = new; words = words })
  in_line_keeps place c =
      put_keeps hub new c.order y.port mid line.may.back c.active.handle.port c.active.there place.pool place.slot line.pool line.may.may.free
      (ap (λ (x : HubTables). map owned x.ports) tables
      ∙ port_owned (λ q. record q { loans = q.loans + 1 }) (λ q. refl) sent.ports y.port.number
      ∙ lanes_owned (delivers mid.tables.settings.response_overflow place.slot) mid.tables.ports (way_of y ∷ []))
      (λ a m some. ap (λ (x : HubTables). handle_in x.handles a m) tables)
    where
      y : Lender
      y = lender_of_response h.control.tables c.active.handle c.active.port

      line : responses.IsInLine h.control y (asked_of_copy h.response k) place new
      line = (left_of c).1

      mid : ControlState
      mid = line.between

      sent : HubTables
      sent = with_lanes (delivers mid.tables.settings.response_overflow place.slot) (with_loaned_slot mid.tables y k place.slot) (way_of y ∷ [])

      tables : new.tables ≡ record (with_copy_sent mid.tables y k place.slot) { pools = new.tables.pools }
      tables = ap (λ (d : ControlState). d.tables) line.left

  -- the same, where the result is said otherwise
  pub response_keeps_all : (r : Answered) (place : Place) → copy_place r ≡ Some place → IsAnswerCall h k ws node n new r → (words : List (Option Carried)) (z : StoredMessage)
      → words ≡ with_message h.words place.pool place.slot z → KeepsAll h (record h { control = new; words = words })
  response_keeps_all r place at c =
      in_line_keeps place (subst (λ q. IsAnswerCall h k ws node n new q) (done_is hub k ws node n new r place at c) c)

  pub other_response_keeps : (result : Answered) → ((place : Place) → result ≡ answered.Done (Some place) → ⊥) → IsAnswerCall h k ws node n new result
      → KeepsAll h (with_control h new)
  other_response_keeps (answered.Done (Some place)) never c = absurd (never place refl)
  other_response_keeps (answered.Done None) never c =
      lost_response_keeps c.order (lender_of_response h.control.tables c.active.handle c.active.port) false (left_of c).2
  other_response_keeps (answered.Refused r) never c =
      all_kept h (with_control h new)
      (refused_left h (lender_of_response h.control.tables c.active.handle c.active.port) (asked_of_copy h.response k) r new (left_of c))
  other_response_keeps answered.OutOfMemory never c = lost_keeps hub new c.order c.active.port new (left_of c).back refl refl
  other_response_keeps answered.Undelivered never c =
      lost_response_keeps c.order (lender_of_response h.control.tables c.active.handle c.active.port) true (left_of c).1
