-- What a loan that is asked of a hub comes to, by each result.
use Rattle.std.specs.Prelude.{◌≡◌, ℕ, ◌<◌, ◌≤◌, Bool, List, Option, Some, refl}
use Rattle.std.proofs.Common.{sym, ap, ap₂, subst, ◌∙◌}
use Rattle.std.proofs.lemmas.Option.{same_Some}
use Rattle.iox_store.specs.Stored.{room_with}
use Rattle.iox_model.specs.declared.kind.Role.{Role}
use Rattle.iox_model.specs.declared.kind.Role.TheVariants.{Client, Server}
use Rattle.iox_model.specs.declared.reply.Reply.TheVariants as replies
use Rattle.iox_model.specs.Commands.{Reply}
use Rattle.iox_model.specs.Settings.{Shape, is_client, shape_of}
use Rattle.iox_model.specs.WholeCalls.{IsWholeCall}
use Rattle.iox_tables.specs.HubStates.States.{Given, limits_of, state_shown}
use Rattle.iox_tables.specs.HubStates.Tables.{HandleState, PortState, port_in}
use Rattle.iox_tables.specs.HubStates.Wirings.{handle_in}
use Rattle.iox_tables.specs.HubBooks.Handles.{IsOfPort}
use Rattle.iox_tables.proofs.HubBooks.Used.{handle_is}
use Rattle.iox_tables.specs.HubLoans.Lenders.{IsActive, IsClient, Lender, lender_of_request, lender_of_response, shape_in}
use Rattle.iox_tables.specs.HubLoans.Loans.{loan_call}
use Rattle.iox_tables.specs.HubLoans.Slots.{with_contents}
use Rattle.iox_control.specs.Controls.{ControlState, IsControl}
use Rattle.iox_control_request_copies.specs.Asked.{Asked}
use Rattle.iox_control_request_copies.specs.Loaned.{Loaned}
use Rattle.iox_control_request_copies.specs.LoanRefusal.{LoanRefusal}
use Rattle.iox_control_request_copies.specs.LoanRefusal.TheVariants.{WantOfMemory}
use Rattle.iox_control_request_copies.specs.Lent.{Lent}
use Rattle.iox_control_request_copies.specs.Lent.TheVariants as lents
use Rattle.iox_control_request_copies.specs.Lends.{FindsDry, IsAskedOf, IsLoaned, IsRefused, Lends, first_contents, given_after, refusal_of, reply_of_loan}
use Rattle.iox_hub.specs.Fits.{are_requests_in, count_in, longest_in}
use Rattle.iox_hub.specs.Growing.{LoanHasRoom}
use Rattle.iox_hub.specs.Hubs.{HubState, IsHub, given_by, state_of_hub, with_control}
use Rattle.iox_hub.specs.Lending.{HasLent, IsFresh, LeavesLent, first_stored, with_message}
use Rattle.iox_hub.specs.Words.{Carried, stored_in}
use Rattle.iox_hub.proofs.GrowingRoom.{loan_has_room, test_never_wants}
use Rattle.iox_hub.proofs.LendingGiven.{hub_is_left}
use Rattle.iox_hub.proofs.LendingWrites.{found_has}
use Rattle.iox_hub.proofs.LendingMade.{back_fits, lent_is_fresh, lent_is_hub, lent_requests, lent_whole, lent_within}

-- the call of so many elements is the call that was asked
turned_call : (P : Bool → ℕ → Type 0) (a : Asked) (uninit : Bool) (k : ℕ) → a.uninit ≡ uninit → a.elements ≡ k → P a.uninit a.elements → P uninit k
turned_call P a uninit k e f it = subst (λ m. P uninit m) f (subst (λ u. P u a.elements) e it)

module _ {h : HubState} (hub : IsHub h) (shape : Shape) (uninit : Bool) (k : ℕ) (a : Asked) (count : a.elements ≡ k) (unfilled : a.uninit ≡ uninit)
    (asked : IsAskedOf shape a) (y : Lender) (n : ℕ) (there : port_in h.control.tables.ports n ≡ Some y.port)
    (of : (x : Given) → shape_in (given_by x h) h.control.tables y.port ≡ shape) (new : ControlState) where
  -- ---- it is made

  module _ (l : Loaned) (is : IsLoaned h.control y a l new) where
    pub made_within : l.slot < count_in h.words l.pool
    made_within = lent_within hub shape a y n there of asked l new is

    pub made_room : (spare : Option ℕ) → LoanHasRoom h y shape k spare → k ≤ room_with (longest_in h.words l.pool) spare
    made_room spare room = loan_has_room h shape y n k spare there room a count asked l new is

    pub made_of : (b : Bool) → is_client y.port.role ≡ b → are_requests_in h.words l.pool ≡ b
    made_of = lent_requests hub shape a y n there of asked l new is

    module _ (words : List (Option Carried)) (put : words ≡ with_message h.words l.pool l.slot (first_stored shape uninit k (stored_in h.words l.pool l.slot))) where
      abbrev h' : HubState
      h' = record h { control = new; words = words }

      put_asked : words ≡ with_message h.words l.pool l.slot (first_stored shape a.uninit a.elements (stored_in h.words l.pool l.slot))
      put_asked =
          put
          ∙ ap₂ (λ u m. with_message h.words l.pool l.slot (first_stored shape u m (stored_in h.words l.pool l.slot))) (sym unfilled) (sym count)

      module _ (node number : ℕ)
          (whole : (x : Given) → IsWholeCall (state_of_hub x h) node (loan_call a.uninit number a.elements) (replies.Handle l.number)
          (state_shown (with_contents (given_by x h) l.pool l.slot (first_contents shape a)) new.tables)) where
        asked_whole : (x : Given) → IsWholeCall (state_of_hub x h) node (loan_call a.uninit number a.elements) (replies.Handle l.number) (state_of_hub x h')
        asked_whole = lent_whole hub shape a y n there of asked l new is words put_asked node (loan_call a.uninit number a.elements) (replies.Handle l.number) whole

        pub made_whole : (x : Given) → IsWholeCall (state_of_hub x h) node (loan_call uninit number k) (replies.Handle l.number) (state_of_hub x h')
        made_whole x =
            turned_call (λ u m. IsWholeCall (state_of_hub x h) node (loan_call u number m) (replies.Handle l.number) (state_of_hub x h')) a uninit k unfilled count
            (asked_whole x)

        pub made_hub : IsControl new → IsHub h'
        made_hub order =
            lent_is_hub hub shape a y n there of asked l new is words put_asked node (loan_call a.uninit number a.elements) (replies.Handle l.number) whole order

      pub made_fresh : IsControl new → (node : ℕ) → y.port.node ≡ node → IsFresh h' node l.number y.port.role shape uninit k
      made_fresh order node on =
          turned_call (λ u m. IsFresh h' node l.number y.port.role shape u m) a uninit k unfilled count
          (lent_is_fresh hub shape a y n there of asked l new is words put_asked order node on)

  -- ---- it is refused, or finds the pool dry

  module _ (node number : ℕ) (reply : Reply)
      (whole : (x : Given) → IsWholeCall (state_of_hub x h) node (loan_call a.uninit number a.elements) reply (state_shown (given_by x h) new.tables)) where
    pub refused_whole : (x : Given) → IsWholeCall (state_of_hub x h) node (loan_call uninit number k) reply (state_of_hub x (with_control h new))
    refused_whole x =
        turned_call (λ u m. IsWholeCall (state_of_hub x h) node (loan_call u number m) reply (state_of_hub x (with_control h new))) a uninit k unfilled count (whole x)

    pub dry_hub : FindsDry h.control y a new → IsControl new → IsHub (with_control h new)
    dry_hub is order =
        hub_is_left h (with_control h new) node (loan_call a.uninit number a.elements) reply hub order
        (back_fits h.words h.control new hub.words hub.control.order n y.port there is.back) whole

-- where a loan is refused the hub is as it was
pub refused_left : (h : HubState) (y : Lender) (a : Asked) (r : LoanRefusal) (new : ControlState) → IsRefused h.control y a (refusal_of r) new → with_control h new ≡ h
refused_left h y a r new is = ap (with_control h) is.left

-- ---- a call, whatever it comes to

-- A loan of so many elements was asked of a hub by that number, and came to this result.
pub record IsLoanCall (h : HubState) (role : Role) (shape : Shape) (uninit : Bool) (k node number : ℕ) (new : ControlState) (result : Lent) : Type 0 where
  pub asked : Asked
  pub count : asked.elements ≡ k
  pub unfilled : asked.uninit ≡ uninit
  pub is_asked : IsAskedOf shape asked
  pub lender : Lender
  pub port : ℕ
  pub there : port_in h.control.tables.ports port ≡ Some lender.port
  pub role_is : lender.port.role ≡ role
  pub of : (x : Given) → shape_in (given_by x h) h.control.tables lender.port ≡ shape
  pub on : lender.port.node ≡ node
  pub left : Lends h.control lender asked result new
  pub order : IsControl new
  pub whole :
      (x : Given) → IsWholeCall (state_of_hub x h) node (loan_call asked.uninit number asked.elements) (reply_of_loan result)
      (state_shown (given_after (given_by x h) shape asked result) new.tables)

-- of a client
pub request_call : {h : HubState} (a : Asked) (k : ℕ) (uninit : Bool) (node client : ℕ) (new : ControlState) (result : Lent) → a.elements ≡ k → a.uninit ≡ uninit
    → IsAskedOf h.request a → IsClient h.control.tables node client
    → ((p : PortState) → port_in h.control.tables.ports client ≡ Some p → Lends h.control (lender_of_request p 0) a result new) → IsControl new
    → ((x : Given) → IsAskedOf x.request a → IsWholeCall (state_shown x h.control.tables) node (loan_call a.uninit client a.elements) (reply_of_loan result)
    (state_shown (given_after x x.request a result) new.tables))
    → IsLoanCall h Client h.request uninit k node client new result
request_call {h} a k uninit node client new result count unfilled asked is left order whole = record {
  asked = a;
  count = count;
  unfilled = unfilled;
  is_asked = asked;
  lender = lender_of_request is.port 0;
  port = client;
  there = is.there;
  role_is = is.client;
  of = λ x. ap (shape_of (limits_of (given_by x h) h.control.tables)) is.client;
  on = is.on_node;
  left = left is.port is.there;
  order = order;
  whole = λ x. whole (given_by x h) asked;
}

-- of an active request
pub response_call : {h : HubState} (hub : IsHub h) (a : Asked) (k : ℕ) (uninit : Bool) (node number : ℕ) (new : ControlState) (result : Lent) → a.elements ≡ k → a.uninit ≡ uninit
    → IsAskedOf h.response a → IsActive h.control.tables node number
    → ((j : HandleState) (p : PortState) → handle_in h.control.tables.handles node number ≡ Some j → port_in h.control.tables.ports j.port ≡ Some p
    → Lends h.control (lender_of_response h.control.tables j p) a result new) → IsControl new
    → ((x : Given) → IsAskedOf x.response a → IsWholeCall (state_shown x h.control.tables) node (loan_call a.uninit number a.elements) (reply_of_loan result)
    (state_shown (given_after x x.response a result) new.tables))
    → IsLoanCall h Server h.response uninit k node number new result
response_call {h} hub a k uninit node number new result count unfilled asked is left order whole = record {
  asked = a;
  count = count;
  unfilled = unfilled;
  is_asked = asked;
  lender = lender_of_response h.control.tables is.handle is.port;
  port = is.handle.port;
  there = is.there;
  role_is = is.server;
  of = λ x. ap (shape_of (limits_of (given_by x h) h.control.tables)) is.server;
  on = on_node;
  left = left is.handle is.port is.named.there is.there;
  order = order;
  whole = λ x. whole (given_by x h) asked;
}
  where
    of_port : IsOfPort h.control.tables is.handle
    of_port = handle_is (IsOfPort h.control.tables) h.control.tables.handles node number is.handle hub.control.order.ports is.named.there

    on_node : is.port.node ≡ node
    on_node =
        ap (λ (p : PortState). p.node) (same_Some is.port of_port.port (sym is.there ∙ of_port.there)) ∙ sym of_port.on_node
        ∙ (found_has h.control.tables.handles node number is.handle is.named.there).0

module _ {h : HubState} (hub : IsHub h) (role : Role) (shape : Shape) (uninit : Bool) (k node number : ℕ) (new : ControlState) where
  -- ---- it is made

  module _ (l : Loaned) (c : IsLoanCall h role shape uninit k node number new (lents.Handle l)) where
    pub call_within : l.slot < count_in h.words l.pool
    call_within = made_within hub shape uninit k c.asked c.count c.unfilled c.is_asked c.lender c.port c.there c.of new l c.left

    pub call_room : (spare : Option ℕ) → LoanHasRoom h c.lender shape k spare → k ≤ room_with (longest_in h.words l.pool) spare
    call_room = made_room hub shape uninit k c.asked c.count c.unfilled c.is_asked c.lender c.port c.there c.of new l c.left

    pub call_of : are_requests_in h.words l.pool ≡ is_client role
    call_of =
        made_of hub shape uninit k c.asked c.count c.unfilled c.is_asked c.lender c.port c.there c.of new l c.left (is_client role) (ap is_client c.role_is)

    module _ (words : List (Option Carried)) (put : words ≡ with_message h.words l.pool l.slot (first_stored shape uninit k (stored_in h.words l.pool l.slot))) where
      pub call_whole : (x : Given) → IsWholeCall (state_of_hub x h) node (loan_call uninit number k) (replies.Handle l.number) (state_of_hub x (record h { control = new; words = words }))
      call_whole = made_whole hub shape uninit k c.asked c.count c.unfilled c.is_asked c.lender c.port c.there c.of new l c.left words put node number c.whole

      pub call_left : record h { control = new; words = words }
          ≡ record h { control = new; words = with_message h.words l.pool l.slot (first_stored shape uninit k (stored_in h.words l.pool l.slot)) }
      call_left = ap (λ (ws : List (Option Carried)). record h { control = new; words = ws }) put

      pub call_hub : IsHub (record h { control = new; words = words })
      call_hub = made_hub hub shape uninit k c.asked c.count c.unfilled c.is_asked c.lender c.port c.there c.of new l c.left words put node number c.whole c.order

      pub call_fresh : IsFresh (record h { control = new; words = words }) node l.number role shape uninit k
      call_fresh =
          subst (λ r. IsFresh (record h { control = new; words = words }) node l.number r shape uninit k) c.role_is
          (made_fresh hub shape uninit k c.asked c.count c.unfilled c.is_asked c.lender c.port c.there c.of new l c.left words put c.order node c.on)

  -- ---- it is not

  pub other_hub : (result : Lent) → ((l : Loaned) → result ≡ lents.Handle l → ⊥) → IsLoanCall h role shape uninit k node number new result → IsHub (with_control h new)
  other_hub (lents.Handle l) never c = absurd (never l refl)
  other_hub (lents.Refused r) never c = subst IsHub (sym (refused_left h c.lender c.asked r new c.left)) hub
  other_hub lents.OutOfMemory never c =
      dry_hub hub shape uninit k c.asked c.count c.unfilled c.is_asked c.lender c.port c.there c.of new node number (reply_of_loan lents.OutOfMemory) c.whole c.left c.order

  pub other_left : (result : Lent) → ((l : Loaned) → result ≡ lents.Handle l → ⊥) → IsLoanCall h role shape uninit k node number new result
      → LeavesLent h shape uninit k result (with_control h new)
  other_left (lents.Handle l) never c = absurd (never l refl)
  other_left (lents.Refused r) never c = refused_left h c.lender c.asked r new c.left
  other_left lents.OutOfMemory never c = refl

  pub other_whole : (result : Lent) → ((l : Loaned) → result ≡ lents.Handle l → ⊥) → IsLoanCall h role shape uninit k node number new result
      → (x : Given) → IsWholeCall (state_of_hub x h) node (loan_call uninit number k) (reply_of_loan result) (state_of_hub x (with_control h new))
  other_whole (lents.Handle l) never c = absurd (never l refl)
  other_whole (lents.Refused r) never c =
      refused_whole hub shape uninit k c.asked c.count c.unfilled c.is_asked c.lender c.port c.there c.of new node number (reply_of_loan (lents.Refused r)) c.whole
  other_whole lents.OutOfMemory never c =
      refused_whole hub shape uninit k c.asked c.count c.unfilled c.is_asked c.lender c.port c.there c.of new node number (reply_of_loan lents.OutOfMemory) c.whole

  pub other_has : (result : Lent) → ((l : Loaned) → result ≡ lents.Handle l → ⊥) → HasLent (with_control h new) node role shape uninit k result
  other_has (lents.Handle l) never = absurd (never l refl)
  other_has (lents.Refused r) never = tt
  other_has lents.OutOfMemory never = tt

  -- memory is never wanted where the room is there
  pub call_never_wants : (result : Lent) → IsLoanCall h role shape uninit k node number new result → result ≡ lents.Refused WantOfMemory → ⊥
  call_never_wants result c e =
      let d : IsLoanCall h role shape uninit k node number new (lents.Refused WantOfMemory) = subst (IsLoanCall h role shape uninit k node number new) e c in
      test_never_wants (given_by hub.reached.0 h) h.control.tables d.lender d.asked.elements
      (d.left.told (given_by hub.reached.0 h) (subst (λ (z : Shape). IsAskedOf z d.asked) (sym (d.of hub.reached.0)) d.is_asked))
