-- The kind of a loan changes: all that is so of a hub stays so, and it is the machine's.
use Rattle.std.specs.Prelude.{◌≡◌, ℕ, ◌-◌, ◌≤◌, ◌&&◌, ◌||◌, ◌==◌, Bool, true, false, if◌then◌else◌, List, [], ◌∷◌, length, Option, Some, None, refl}
use Rattle.std.proofs.Common.{sym, ap, ap₂, subst, ◌∙◌, arith, true≢false}
use Rattle.std.proofs.lemmas.Option.{same_Some}
use Rattle.iox_handles.specs.declared.entry.Entry.{Entry}
use Rattle.iox_model.specs.declared.call.Call.TheVariants.{Write}
use Rattle.iox_model.specs.declared.kind.Kind.{Kind}
use Rattle.iox_model.specs.declared.kind.Role.{Role}
use Rattle.iox_model.specs.declared.kind.Role.TheVariants.{Client, Server}
use Rattle.iox_model.specs.declared.kind.Kind.TheVariants.{PendingResponse}
use Rattle.iox_model.specs.declared.reply.Refusal.TheVariants as refusals
use Rattle.iox_model.specs.declared.reply.Reply.TheVariants as replies
use Rattle.iox_model.specs.Commands.{Payload}
use Rattle.iox_model.specs.Handles.{filled_kind, is_own, is_request_loan, is_response_loan, same_kind}
use Rattle.iox_model.specs.Loans.{Choice}
use Rattle.iox_model.specs.Names.{suits}
use Rattle.iox_model.specs.Values.{Filling, IsFilling, MayFill}
use Rattle.iox_model.specs.WholeCalls.{IsWholeCall}
use Rattle.iox_laws.proofs.CallFunctions.Holding.{each_write_is_whole}
use Rattle.iox_tables.specs.HubStates.Tables.{HandleState, HubTables, PortState}
use Rattle.iox_tables.specs.HubStates.States.{Given, fixed_of, state_shown}
use Rattle.iox_tables.specs.HubStates.Ends.{changed_handles}
use Rattle.iox_tables.specs.HubStates.Releases.{handle_shown}
use Rattle.iox_tables.specs.HubStates.Wirings.{IsHandle, handle_in}
use Rattle.iox_tables.proofs.HubStates.Naming.{handle_node, handle_number}
use Rattle.iox_tables.specs.HubBooks.Counts.{total}
use Rattle.iox_tables.specs.HubBooks.Handles.{is_loan}
use Rattle.iox_tables.specs.HubBooks.Rooms.{CanCountHolders, HasRoomForAll, own_count}
use Rattle.iox_tables.proofs.HubBooks.HandleTotals.{handle_changed}
use Rattle.iox_tables.proofs.HubBooks.Totals.{total_same}
use Rattle.iox_tables.specs.HubLoans.Fillings.{contents_of, written_contents}
use Rattle.iox_tables.specs.HubLoans.Slots.{with_contents}
use Rattle.iox_tables.proofs.HubLoans.Written.{fillings_are_shown, writes_are_made, writes_are_refused}
use Rattle.iox_tables.specs.HubLending.Filling.{AreOfSameLoan, with_kind}
use Rattle.iox_tables.proofs.HubLending.Filled.{kinds_may_change, loans_are_of_one_handle, writes_keep_loans}
use Rattle.iox_control.specs.Controls.{ControlState, IsControl, with_tables}
use Rattle.iox_control.specs.Entries.{handle_state}
use Rattle.iox_control.proofs.RoomLemmas.{room_as}
use Rattle.iox_control.proofs.WholeLemmas.{is_whole_of}
use Rattle.iox_control_lending.specs.declared.asked.Place.{Place}
use Rattle.iox_control_lending.specs.declared.asked.Written.{Written}
use Rattle.iox_control_lending.specs.declared.asked.Written.TheVariants as written
use Rattle.iox_control_lending.specs.Fills.{IsLoan, Writes, fits_loan, given_written, kind_after, reply_of_write}
use Rattle.iox_control_lending.proofs.MadeLemmas.{have_messages}

-- ---- kinds of loans

loan_or : (a b c : Bool) → (a || b) ≡ true → (a || (b || c)) ≡ true
loan_or true b c e = refl
loan_or false true c e = refl
loan_or false false c e = absurd (true≢false (sym e))

loan_owns : (kind : Kind) → is_loan kind ≡ true → is_own kind ≡ true
loan_owns kind e = loan_or (is_request_loan kind) (is_response_loan kind) (same_kind kind PendingResponse) e

-- what is filled is of the same loan
pub filled_same : (kind : Kind) → is_loan kind ≡ true → AreOfSameLoan kind (filled_kind kind)
filled_same kind e = step (is_request_loan kind) refl e
  where
    payload : Role → Payload
    payload role = record { role = role; elements = None; words = [] }

    step : (a : Bool) → is_request_loan kind ≡ a → (a || is_response_loan kind) ≡ true → AreOfSameLoan kind (filled_kind kind)
    step true p or = writes_keep_loans 0 (payload Client) kind p
    step false p or = writes_keep_loans 0 (payload Server) kind or

-- so is what is filled, or stays
pub after_same : (all : Bool) (kind : Kind) → is_loan kind ≡ true → AreOfSameLoan kind (kind_after all kind)
after_same true kind e = filled_same kind e
after_same false kind e = record { loan = e; request = refl; response = refl }

-- ---- all stays so

same_many : (h : HandleState) (hs : List HandleState) → length (changed_handles h hs) ≡ length hs
same_many h [] = refl
same_many h (k ∷ ks) = step ((k.node == h.node) && (k.number == h.number)) (same_many h ks)
  where
    step : (b : Bool) → length (changed_handles h ks) ≡ length ks → length (if b then h ∷ ks else k ∷ changed_handles h ks) ≡ length (k ∷ ks)
    step true rest = refl
    step false rest = omega (arith, rest)

module _ (c : ControlState) (order : IsControl c) (node n : ℕ) (h : HandleState) (kind : Kind) (named : IsHandle c.tables node n h) (same : AreOfSameLoan h.kind kind) where
  -- the tables of the hub
  abbrev t : HubTables
  t = c.tables

  -- the handle, of its new kind
  abbrev turned : HandleState
  turned = record h { kind = kind }

  -- the tables with that handle
  abbrev now : HubTables
  now = with_kind t h kind

  there : handle_in t.handles turned.node turned.number ≡ Some h
  there =
      ap₂ (λ (m k : ℕ). handle_in t.handles m k) (handle_node t.handles node n h named.there) (handle_number t.handles node n h named.there)
      ∙ named.there

  own_both : is_own h.kind ≡ is_own kind
  own_both = loan_owns h.kind same.loan ∙ sym (loan_owns kind (ap₂ (λ (a b : Bool). a || b) same.request same.response ∙ same.loan))

  own_stays : (p : PortState) → own_count now.handles p ≡ own_count t.handles p
  own_stays p =
      let all = handle_changed (λ k. if is_own k.kind && (k.port == p.number) then 1 else 0) t.handles turned h there in
      let one : (if is_own h.kind && (h.port == p.number) then 1 else 0) ≤ (if is_own kind && (h.port == p.number) then 1 else 0)
      = below (is_own h.kind) (is_own kind) (h.port == p.number) own_both in
      let other : (if is_own kind && (h.port == p.number) then 1 else 0) ≤ (if is_own h.kind && (h.port == p.number) then 1 else 0)
      = below (is_own kind) (is_own h.kind) (h.port == p.number) (sym own_both) in
      omega (arith, all, one, other)
    where
      below : (a b d : Bool) → a ≡ b → (if a && d then 1 else 0) ≤ (if b && d then 1 else 0)
      below a b d e = subst (λ z. (if a && d then 1 else 0) ≤ (if z && d then 1 else 0)) e (self (a && d))
        where
          self : (z : Bool) → (if z then 1 else 0) ≤ (if z then 1 else 0)
          self true = omega arith
          self false = omega arith

  pub kind_keeps : IsControl (with_tables c now)
  kind_keeps = record {
    buffers = order.buffers;
    order = (kinds_may_change t node n h kind order.order (have_messages t order.order) named same).0;
    ports = room_as t now refl refl order.ports;
    counted = record {
      calls = order.counted.calls;
      ports = order.counted.ports;
      numbers = order.counted.numbers;
      loans = order.counted.loans;
      deliveries = order.counted.deliveries;
    };
    room =
        let own : total (λ (p : PortState). p.size - own_count now.handles p) t.ports ≡ total (λ (p : PortState). p.size - own_count t.handles p) t.ports
        = total_same (λ (p : PortState). p.size - own_count now.handles p) (λ (p : PortState). p.size - own_count t.handles p) (λ p. ap (λ m. p.size - m) (own_stays p)) t.ports in
        let all : HasRoomForAll c.room t = order.room in
        omega (arith, own, all);
    holders =
        let many : length now.handles ≡ length t.handles = same_many turned t.handles in
        let all : CanCountHolders c.room t = order.holders in
        omega (arith, many, all);
  }

-- ---- the loan that is named

module _ (t : HubTables) (node n : ℕ) (loan : IsLoan t node n) (h : HandleState) (there : handle_in t.handles node n ≡ Some h) where
  pub loan_named : IsHandle t node n h
  loan_named = record { there = there; no_port = loan.named.no_port }

  pub loan_kind : is_loan h.kind ≡ true
  loan_kind = ap (λ (k : HandleState). is_loan k.kind) (same_Some h loan.handle (sym there ∙ loan.named.there)) ∙ loan.loan

module _ (c new : ControlState) (node n : ℕ) (loan : IsLoan c.tables node n) (e : Entry) (found : Some (handle_state e) ≡ handle_in c.tables.handles node n) where
  -- its kind changes
  pub kind_left : (kind : Kind) → new ≡ with_tables c (with_kind c.tables (handle_state e) kind)
      → (h : HandleState) → handle_in c.tables.handles node n ≡ Some h → new ≡ with_tables c (with_kind c.tables h kind)
  kind_left kind is h there = is ∙ ap (λ (k : HandleState). with_tables c (with_kind c.tables k kind)) (same_Some (handle_state e) h (found ∙ there))

  pub after_left : (all : Bool) (kind : Kind) → kind ≡ kind_after all e.kind → new ≡ with_tables c (with_kind c.tables (handle_state e) kind)
      → (h : HandleState) → handle_in c.tables.handles node n ≡ Some h → new ≡ with_tables c (with_kind c.tables h (kind_after all h.kind))
  after_left all kind after is h there =
      kind_left kind is h there
      ∙ ap (λ k. with_tables c (with_kind c.tables h k)) (after ∙ ap (λ (k : HandleState). kind_after all k.kind) (same_Some (handle_state e) h (found ∙ there)))

  pub after_keeps : (all : Bool) → IsControl c → ((h : HandleState) → handle_in c.tables.handles node n ≡ Some h → new ≡ with_tables c (with_kind c.tables h (kind_after all h.kind))) → IsControl new
  after_keeps all order left =
      subst IsControl (sym (left loan.handle loan.named.there))
      (kind_keeps c order node n loan.handle (kind_after all loan.handle.kind) loan.named (after_same all loan.handle.kind loan.loan))

-- ---- whole calls

some_choice : Choice
some_choice = record { lane = 0; memory = true }

-- what a write comes to is a whole call
pub writes_whole : (c new : ControlState) (node n : ℕ) (x : Given) (h : HandleState) (p : Payload) (elements : Option ℕ) (result : Written) → IsControl c
    → IsLoan c.tables node n → handle_in c.tables.handles node n ≡ Some h → suits false (Write n p) h.kind ≡ true → p.elements ≡ elements → Writes c h elements result new
    → IsWholeCall (state_shown x c.tables) node (Write n p) (reply_of_write result) (state_shown (given_written x c.tables h p.words result) new.tables)
writes_whole c new node n x h p elements (written.Done place) order loan there suit same is =
    is_whole_of (state_shown x c.tables) node (Write n p) _ replies.Done (state_shown (given_written x c.tables h p.words (written.Done place)) new.tables)
    (each_write_is_whole (state_shown x c.tables) node n p)
    (writes_are_made x c.tables node n h p some_choice [] (loan_named c.tables node n loan h there) suit
    (ap (fits_loan c.tables h) same ∙ is.fits)
    (loans_are_of_one_handle c.tables node n h order.order (loan_named c.tables node n loan h there) (loan_kind c.tables node n loan h there))
    ∙ ap₂ (λ (q : Place) (u : HubTables). (replies.Done, state_shown (with_contents x q.pool q.slot (written_contents x c.tables h p.words)) u))
    (sym is.at) (ap (λ (d : ControlState). d.tables) (sym is.left)))
writes_whole c new node n x h p elements written.WrongLength order loan there suit same is =
    is_whole_of (state_shown x c.tables) node (Write n p) _ (replies.Refused refusals.WrongLength) (state_shown x new.tables)
    (each_write_is_whole (state_shown x c.tables) node n p)
    (writes_are_refused x c.tables node n h p some_choice [] (loan_named c.tables node n loan h there) suit (ap (fits_loan c.tables h) same ∙ is.fits)
    ∙ ap (λ (d : ControlState). (replies.Refused refusals.WrongLength, state_shown x d.tables)) (sym is.left))

-- what a holder fills in is a filling of the machine
pub fills_shown : (c new : ControlState) (node n : ℕ) (x : Given) (h : HandleState) (z : Filling) (kind : Kind) → IsControl c → IsLoan c.tables node n
    → handle_in c.tables.handles node n ≡ Some h → z.kind ≡ kind → MayFill (fixed_of x c.tables) (handle_shown x c.tables h) z
    → new ≡ with_tables c (with_kind c.tables h kind)
    → IsFilling (state_shown x c.tables) node n z (state_shown (with_contents x h.pool h.slot (contents_of z)) new.tables)
fills_shown c new node n x h z kind order loan there same may left =
    subst (λ u. IsFilling (state_shown x c.tables) node n z (state_shown (with_contents x h.pool h.slot (contents_of z)) u))
    (ap (λ k. with_kind c.tables h k) same ∙ ap (λ (d : ControlState). d.tables) (sym left))
    (fillings_are_shown x c.tables node n h z (loan_named c.tables node n loan h there) may
    (loans_are_of_one_handle c.tables node n h order.order (loan_named c.tables node n loan h there) (loan_kind c.tables node n loan h there)))
