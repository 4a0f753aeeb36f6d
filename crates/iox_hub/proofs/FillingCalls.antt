-- What is filled into a loan is a filling of the machine, and leaves a hub.
use Rattle.std.specs.Prelude.{◌≡◌, ℕ, ◌*◌, ◌<◌, Bool, true, false, ◌&&◌, if◌then◌else◌, ◌==◌, List, [], ◌∷◌, length, Option, Some, None, option_map, refl}
use Rattle.std.specs.Option.{option_map_or}
use Rattle.std.proofs.Common.{sym, ap, ap₂, subst, ◌∙◌, arith, eqb-true, eq-eqb}
use Rattle.std.proofs.lemmas.Option.{same_Some}
use Rattle.iox_store.specs.Stored.{Contents, StoredMessage, stored_at, unlent}
use Rattle.iox_model.specs.declared.kind.Kind.{Kind}
use Rattle.iox_model.specs.declared.kind.Role.{Role}
use Rattle.iox_model.specs.declared.kind.Role.TheVariants.{Client, Server}
use Rattle.iox_model.specs.Runs.{OfLoan}
use Rattle.iox_model.specs.Settings.{Shape, is_client}
use Rattle.iox_model.specs.Handles.{is_request_loan}
use Rattle.iox_model.specs.Values.{Filling, IsFilling, MayFill}
use Rattle.iox_laws.proofs.WeaveWorlds.Inductions.{step_is_reached}
use Rattle.iox_tables.specs.HubStates.Ends.{OfEachHandle}
use Rattle.iox_tables.specs.HubStates.Releases.{handle_shown}
use Rattle.iox_tables.specs.HubStates.States.{Given, fixed_of, state_shown}
use Rattle.iox_tables.specs.HubStates.Tables.{HandleState, HubTables, port_in}
use Rattle.iox_tables.specs.HubStates.Wirings.{handle_in}
use Rattle.iox_tables.specs.HubBooks.Handles.{is_loan}
use Rattle.iox_tables.proofs.HubBooks.Used.{handle_is, used_by_handle}
use Rattle.iox_tables.specs.HubLoans.Fillings.{IsOfOneHandle, elements_of}
use Rattle.iox_tables.specs.HubLoans.Questions.{kind_by, kind_in}
use Rattle.iox_tables.specs.HubLoans.Slots.{is_place}
use Rattle.iox_tables.specs.HubLending.Filling.{with_kind}
use Rattle.iox_tables.proofs.HubLending.Filled.{loans_are_of_one_handle}
use Rattle.iox_control.specs.Controls.{ControlState, IsControl, with_tables}
use Rattle.iox_control_request_copies.specs.Place.{Place}
use Rattle.iox_control_request_copies.specs.Fills.{IsLoan, kind_after, words_place}
use Rattle.iox_hub.specs.Fillings.{FillsLoan, IsFill, SuitsShape, filling_of, with_filling}
use Rattle.iox_hub.specs.Fits.{SuitsHandle, WordsFit, are_requests_in, carried_in, count_in, is_full_loan}
use Rattle.iox_hub.specs.Hubs.{HubState, IsHub, given_by, many_in, state_of_hub}
use Rattle.iox_hub.specs.Lending.{with_message}
use Rattle.iox_hub.specs.Making.{shape_in}
use Rattle.iox_hub.specs.Reads.{HasOf, message_in}
use Rattle.iox_hub.specs.Words.{Carried, stored_in}
use Rattle.iox_hub.proofs.FillingAlone.{each_changed_alone, is_named_so, other_found, others_fail}
use Rattle.iox_hub.proofs.FillingKinds.{after_of_request, count_may_be, role_of_loan, still_after}
use Rattle.iox_hub.proofs.LendingFits.{fits_message, pools_stay, ports_stay, suits_else}
use Rattle.iox_hub.proofs.LendingGiven.{given_put}
use Rattle.iox_hub.proofs.LendingWords.{count_new, requests_new, stored_else, stored_new}
use Rattle.iox_hub.proofs.LendingWrites.{IsLoanOf, changed_is_found, found_has, is_loan_of, is_loan_there, loan_elements, loan_is_one, loan_message, loan_named, loan_of_role, loan_within, low_if_used}
use Rattle.iox_hub.proofs.Named.{found_is_handle, handle_is_value}
use Rattle.iox_hub.proofs.Reading.{has_slot, some_there, stored_is}

-- A filling leads to a hub.
pub hub_is_filled : (h h' : HubState) (node n : ℕ) (w : Filling) → IsHub h → IsControl h'.control → WordsFit (many_in h') h'.words h'.control.tables
    → ((x : Given) → IsFilling (state_of_hub x h) node n w (state_of_hub x h')) → IsHub h'
hub_is_filled h h' node n w hub order fit filling =
    let (x, reached) = hub.reached in record {
      control = order;
      words = fit;
      reached = (x, step_is_reached (state_of_hub x h) (state_of_hub x h') (OfLoan node n w) reached (filling x));
    }

-- The holder of a loan of that role fills some of it, or all, as the tables say.
pub record IsFillCall (h : HubState) (role : Role) (node n : ℕ) (all : Bool) (new : ControlState) (place : Place) : Type 0 where
  pub hub : IsHub h
  pub loan : IsLoanOf role h node n
  pub fill : IsFill h.control node n all new place

pub fill_call : (role : Role) {h : HubState} → IsHub h → (now : HubState) → h ≡ now → (node n : ℕ) → HasOf (is_loan_of role) now node n
    → {all : Bool} {new : ControlState} {place : Place} → IsFill h.control node n all new place → IsFillCall h role node n all new place
fill_call role hub now is node n has fill = record { hub = hub; loan = loan_named role hub now is node n has; fill = fill }

-- ---- the loan that is named

pub loan_in : (role : Role) {h : HubState} (hub : IsHub h) (now : HubState) → h ≡ now → (node n : ℕ) → HasOf (is_loan_of role) now node n → IsLoan h.control.tables node n
loan_in role hub now is node n has = is_loan_there role hub node n (loan_named role hub now is node n has)

-- the words of a handle's slot are there
pub slot_within : {h : HubState} → IsHub h → (node n : ℕ) (k : HandleState) → Some k ≡ handle_in h.control.tables.handles node n → k.slot < count_in h.words k.pool
slot_within {h} hub node n k there =
    let low = low_if_used h.control.tables k.pool k.slot (used_by_handle h.control.tables hub.control.order node n k (sym there)) in
    let more = hub.words.pools k.pool in omega (arith, low, more)

-- ---- once its message is another

module _ (words : List (Option Carried)) (place : Place) (z : StoredMessage) (new : List (Option Carried)) (put : new ≡ with_message words place.pool place.slot z) where
  put_of : (b : Bool) → are_requests_in words place.pool ≡ b → are_requests_in new place.pool ≡ b
  put_of b is = ap (λ (ws : List (Option Carried)). are_requests_in ws place.pool) put ∙ requests_new words place.pool place.slot z place.pool ∙ is

  module _ (low : place.slot < count_in words place.pool) where
    put_within : place.slot < count_in new place.pool
    put_within =
        subst (λ (ws : List (Option Carried)). place.slot < count_in ws place.pool) (sym put)
        (subst (λ m. place.slot < m) (sym (count_new words place.pool place.slot z place.pool)) low)

    put_stored : stored_in new place.pool place.slot ≡ z
    put_stored = ap (λ (ws : List (Option Carried)). stored_in ws place.pool place.slot) put ∙ stored_new words place.pool place.slot z low

module _ {h : HubState} {role : Role} {node n : ℕ} {all : Bool} {new : ControlState} {place : Place} (c : IsFillCall h role node n all new place) where
  abbrev hub : IsHub h
  hub = c.hub

  abbrev t : HubTables
  t = h.control.tables

  abbrev k : HandleState
  k = c.loan.handle

  abbrev was : StoredMessage
  was = stored_in h.words k.pool k.slot

  abbrev kind : Kind
  kind = kind_after all k.kind

  abbrev turned : HandleState
  turned = record k { kind = kind }

  abbrev has : HandleState → Bool
  has j = is_place k.pool k.slot j.pool j.slot

  at_place : place ≡ words_place k
  at_place = c.fill.at k c.loan.there

  left : new ≡ with_tables h.control (with_kind t k kind)
  left = c.fill.left k c.loan.there

  loan : is_loan k.kind ≡ true
  loan = loan_is_one role k.kind c.loan.passes

  pub fill_of : are_requests_in h.words place.pool ≡ is_client role
  fill_of = ap (λ (q : Place). are_requests_in h.words q.pool) at_place ∙ loan_of_role role hub node n c.loan

  pub fill_within : place.slot < count_in h.words place.pool
  fill_within = subst (λ (q : Place). q.slot < count_in h.words q.pool) (sym at_place) (loan_within role hub node n c.loan)

  -- what the loan carried
  pub fill_message : message_in h node n ≡ stored_in h.words place.pool place.slot
  fill_message = loan_message role hub node n c.loan ∙ ap (λ (q : Place). stored_in h.words q.pool q.slot) (sym at_place)

  -- if it is full, all of it is filled
  pub fill_full : is_full_loan k.kind ≡ true → (message_in h node n).filled ≡ (message_in h node n).elements
  fill_full e =
      subst (λ (s : StoredMessage). s.filled ≡ s.elements) (sym (loan_message role hub node n c.loan))
      ((handle_is (SuitsHandle (many_in h) h.words) t.handles node n k hub.words.handles c.loan.there).full e)

  -- ---- others

  itself : has k ≡ true
  itself = ap₂ (λ (a b : Bool). a && b) (eq-eqb k.pool k.pool refl) (eq-eqb k.slot k.slot refl)

  one : IsOfOneHandle t k.pool k.slot
  one = loans_are_of_one_handle t node n k hub.control.order (found_is_handle t hub.control.order node n k c.loan.there) loan

  named : (turned.node ≡ node) × (turned.number ≡ n)
  named = found_has t.handles node n k c.loan.there

  other_than : (m j : ℕ) → ((m == node) && (j == n)) ≡ false → is_named_so m j turned ≡ false
  other_than m j other =
      ap₂ (λ (a b : ℕ). (a == m) && (b == j)) named.0 named.1 ∙ turn (node == m) (m == node) (n == j) (j == n) (eqb-swap node m) (eqb-swap n j) other
    where
      eqb-swap : (a b : ℕ) → (a == b) ≡ (b == a)
      eqb-swap a b = step (a == b) refl (b == a) refl
        where
          step : (c : Bool) → (a == b) ≡ c → (d : Bool) → (b == a) ≡ d → c ≡ d
          step true e true f = refl
          step true e false f = sym (eq-eqb b a (sym (eqb-true a b e))) ∙ f
          step false e true f = sym (sym (eq-eqb a b (sym (eqb-true b a f))) ∙ e)
          step false e false f = refl

      turn : (a b c d : Bool) → a ≡ b → c ≡ d → (b && d) ≡ false → (a && c) ≡ false
      turn a b c d ab cd e = ap₂ (λ (u v : Bool). u && v) ab cd ∙ e

  -- ---- what is filled in

  module _ (z : StoredMessage) (suits : SuitsShape (shape_in h role) z) (elements : z.elements ≡ (message_in h node n).elements)
      (full : is_full_loan kind ≡ true → z.filled ≡ z.elements) (words : List (Option Carried)) (put : words ≡ with_message h.words place.pool place.slot z) where
    abbrev h' : HubState
    h' = record h { control = new; words = words }

    put_here : words ≡ with_message h.words k.pool k.slot z
    put_here = put ∙ ap (λ (q : Place). with_message h.words q.pool q.slot z) at_place

    same_elements : z.elements ≡ was.elements
    same_elements = elements ∙ ap (λ (s : StoredMessage). s.elements) (loan_message role hub node n c.loan)

    -- the words fit

    turned_suits : SuitsHandle (many_in h) (with_message h.words k.pool k.slot z) turned
    turned_suits = record {
      kind = requests_new h.words k.pool k.slot z k.pool ∙ (handle_is (SuitsHandle (many_in h) h.words) t.handles node n k hub.words.handles c.loan.there).kind
          ∙ sym (after_of_request all k.kind loan);
      one = λ e few.
          ap (λ (s : StoredMessage). s.elements) (stored_new h.words k.pool k.slot z (loan_within role hub node n c.loan)) ∙ same_elements
          ∙ (handle_is (SuitsHandle (many_in h) h.words) t.handles node n k hub.words.handles c.loan.there).one loan
          (ap (λ (b : Bool). if b then (many_in h).0 else (many_in h).1) (sym (after_of_request all k.kind loan)) ∙ few);
      full = λ e. subst (λ (s : StoredMessage). s.filled ≡ s.elements) (sym (stored_new h.words k.pool k.slot z (loan_within role hub node n c.loan))) (full e);
    }

    each_else : (hs : List HandleState) → OfEachHandle (SuitsHandle (many_in h) h.words) hs
        → OfEachHandle (λ j. has j ≡ false → SuitsHandle (many_in h) (with_message h.words k.pool k.slot z) j) hs
    each_else [] so = tt
    each_else (j ∷ js) so = (λ other. suits_else h.words k.pool k.slot z j other so.0, each_else js so.1)

    pub fill_fits : WordsFit (many_in h) words new.tables
    fill_fits =
        subst (λ (ws : List (Option Carried)). WordsFit (many_in h) ws new.tables) (sym put_here)
        (subst (λ (d : ControlState). WordsFit (many_in h) (with_message h.words k.pool k.slot z) d.tables) (sym left)
        (fits_message h.words k.pool k.slot z t (with_kind t k kind) hub.words (loan_within role hub node n c.loan) (λ place. refl)
        (same_elements ∙ loan_elements role hub node n c.loan) (λ p j other. refl) (pools_stay t.pools) (ports_stay t.ports)
        (each_changed_alone has node n k itself (SuitsHandle (many_in h) (with_message h.words k.pool k.slot z)) turned named.0 named.1 turned_suits
        t.handles c.loan.there one.handles (each_else t.handles hub.words.handles))))

    -- the machine allows it

    may_fill : (x : Given) → MayFill (fixed_of (given_by x h) t) (handle_shown (given_by x h) t k) (filling_of kind z)
    may_fill x = record {
      loan = loan;
      kind = still_after all k.kind loan;
      user = by_role (λ (s : Shape). length z.user ≡ length s.user) suits.user;
      payload = by_role (λ (s : Shape). length z.payload ≡ z.filled * s.width) suits.payload;
      count = count_may_be all k.kind (elements_of t k) z.filled loan
          (let within = suits.within in let a = same_elements in let b = loan_elements role hub node n c.loan in omega (arith, within, a, b))
          (λ e. full e ∙ same_elements ∙ loan_elements role hub node n c.loan);
    }
      where
        by_role : (P : Shape → Type 0) → P (shape_in h role) → P (if is_request_loan k.kind then h.request else h.response)
        by_role P so = subst (λ (b : Bool). P (if b then h.request else h.response)) (sym (role_of_loan role k.kind c.loan.passes)) (shape role so)
          where
            shape : (r : Role) → P (shape_in h r) → P (if is_client r then h.request else h.response)
            shape Client p = p
            shape Server p = p

    filled_at : (x : Given) → IsFilling (state_of_hub x h) node n (filling_of kind z) (state_of_hub x h')
    filled_at x =
        subst (λ g. IsFilling (state_of_hub x h) node n (filling_of kind z) (state_shown g new.tables))
        (given_put x h new k.pool k.slot z (loan_within role hub node n c.loan)
        ∙ ap (λ (ws : List (Option Carried)). given_by x (record h { control = new; words = ws })) (sym put_here))
        (c.fill.filled (given_by x h) k (filling_of kind z) c.loan.there refl (may_fill x))

    pub fill_hub : IsHub h'
    fill_hub = hub_is_filled h h' node n (filling_of kind z) hub c.fill.order fill_fits filled_at

    -- what the hub is then

    new_found : handle_in new.tables.handles node n ≡ Some turned
    new_found =
        ap (λ (d : ControlState). handle_in d.tables.handles node n) left
        ∙ changed_is_found t.handles node n k turned named.0 named.1 c.loan.there

    old_kind : kind_in t node n ≡ Some k.kind
    old_kind = handle_is_value t hub.control.order node n k c.loan.there

    new_kind : kind_in new.tables node n ≡ Some kind
    new_kind = handle_is_value new.tables c.fill.order.order node n turned new_found

    other_stays : (m j : ℕ) → ((m == node) && (j == n)) ≡ false → handle_in new.tables.handles m j ≡ handle_in t.handles m j
    other_stays m j other =
        ap (λ (d : ControlState). handle_in d.tables.handles m j) left
        ∙ other_found turned node n m j named.0 named.1 (other_than m j other) t.handles

    other_carries : (m j : ℕ) → ((m == node) && (j == n)) ≡ false → (o : Option HandleState) → handle_in t.handles m j ≡ o
        → option_map_or (λ (q : HandleState). stored_in words q.pool q.slot) o (unlent 0 []) ≡ option_map_or (λ (q : HandleState). stored_in h.words q.pool q.slot) o (unlent 0 [])
    other_carries m j other None e = refl
    other_carries m j other (Some q) e =
        let is = found_has t.handles m j q e in
        let apart : has q ≡ false =
        handle_is (λ p. is_named_so node n p ≡ false → has p ≡ false) t.handles m j q
        (others_fail has node n k itself t.handles c.loan.there one.handles) e
        (ap₂ (λ (a b : ℕ). (a == node) && (b == n)) is.0 is.1 ∙ other) in
        ap (λ (ws : List (Option Carried)). stored_in ws q.pool q.slot) put_here ∙ stored_else h.words k.pool k.slot z q.pool q.slot apart

    pub fills_loan : FillsLoan h node n all z h'
    fills_loan = record {
      filling = λ x was_kind has_it.
          subst (λ (q : Kind). IsFilling (state_of_hub x h) node n (filling_of (kind_after all q) z) (state_of_hub x h'))
          (same_Some k.kind was_kind (sym old_kind ∙ has_it)) (filled_at x);
      kind = new_kind ∙ ap (option_map (kind_after all)) (sym old_kind);
      message =
          ap (λ o. option_map_or (λ (j : HandleState). stored_in words j.pool j.slot) o (unlent 0 [])) new_found
          ∙ ap (λ (ws : List (Option Carried)). stored_in ws k.pool k.slot) put_here
          ∙ stored_new h.words k.pool k.slot z (loan_within role hub node n c.loan);
      others = λ m j other. record {
        kind =
            ap (λ o. kind_by m (port_in new.tables.ports j) o) (other_stays m j other)
            ∙ ap (λ (d : ControlState). kind_by m (port_in d.tables.ports j) (handle_in t.handles m j)) left;
        handle = other_stays m j other;
        message =
            ap (λ o. option_map_or (λ (q : HandleState). stored_in words q.pool q.slot) o (unlent 0 [])) (other_stays m j other)
            ∙ other_carries m j other (handle_in t.handles m j) refl;
      };
      left = λ q there.
          let same : k ≡ q = same_Some k q (sym c.loan.there ∙ there) in
          ap₂ (λ (d : ControlState) (ws : List (Option Carried)). record h { control = d; words = ws }) left put_here
          ∙ ap (λ (p : HandleState). with_filling h p (kind_after all p.kind) z) same;
    }

-- ---- its words are looked up, once its message is another

module _ {h : HubState} {role : Role} {node n : ℕ} {all : Bool} {new : ControlState} {place : Place} (c : IsFillCall h role node n all new place)
    (words : List (Option Carried)) (z : StoredMessage) (put : words ≡ with_message h.words place.pool place.slot z) where
  pub looked_of : are_requests_in words place.pool ≡ is_client role
  looked_of = put_of h.words place z words put (is_client role) (fill_of c)

  pub looked_within : 0 < count_in words place.pool
  looked_within = some_there words place.pool place.slot (put_within h.words place z words put (fill_within c))

  module _ (b : Bool) (cs : Contents) (found : carried_in words place.pool ≡ Some (record { requests = b; contents = cs })) where
    pub looked_slot : place.slot < length cs.messages
    looked_slot = has_slot words place.pool place.slot b cs found (put_within h.words place z words put (fill_within c))

    pub looked_suits : (shape : Shape) → SuitsShape shape (stored_at cs place.slot) → SuitsShape shape z
    looked_suits shape suits =
        subst (SuitsShape shape) (sym (stored_is words place.pool place.slot b cs found) ∙ put_stored h.words place z words put (fill_within c)) suits
