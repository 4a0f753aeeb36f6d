-- A write to a loan, as one of the hub.
use Rattle.std.specs.Prelude.{◌≡◌, ◌≢◌, ℕ, zero, suc, ◌<◌, ◌≤◌, Bool, true, false, ◌&&◌, ◌||◌, if◌then◌else◌, ◌==◌, List, [], ◌∷◌, length, Option, Some, None, slice_get, refl}
use Rattle.std.specs.Option.{option_map_or}
use Rattle.std.proofs.Common.{sym, ap, ap₂, subst, ◌∙◌, arith, true≢false, eqb-true, eq-eqb}
use Rattle.std.proofs.lemmas.Option.{none-some, same_Some}
use Rattle.iox_store.specs.Stored.{StoredMessage, filled_with, unlent}
use Rattle.iox_model.specs.declared.call.Call.TheVariants.{Write}
use Rattle.iox_model.specs.declared.kind.Kind.{Kind}
use Rattle.iox_model.specs.declared.kind.Kind.TheVariants as kinds
use Rattle.iox_model.specs.declared.kind.Role.{Role}
use Rattle.iox_model.specs.declared.kind.Role.TheVariants.{Client, Server}
use Rattle.iox_model.specs.Commands.{Payload}
use Rattle.iox_model.specs.Handles.{filled_kind, is_request_loan, is_response_loan, same_kind}
use Rattle.iox_model.specs.Names.{suits}
use Rattle.iox_model.specs.Settings.{is_client}
use Rattle.iox_model.specs.WholeCalls.{IsWholeCall}
use Rattle.iox_tables.specs.HubStates.Ends.{OfEachHandle, changed_handles}
use Rattle.iox_tables.specs.HubStates.States.{Given, state_shown}
use Rattle.iox_tables.specs.HubStates.Tables.{HandleState, HubTables, PortState, SlotState, no_slot, port_in, slots_of}
use Rattle.iox_tables.specs.HubStates.Wirings.{handle_in}
use Rattle.iox_tables.specs.HubBooks.Handles.{is_loan}
use Rattle.iox_tables.specs.HubBooks.Hubs.{IsUsed}
use Rattle.iox_tables.proofs.HubBooks.Used.{handle_is, used_by_handle}
use Rattle.iox_tables.specs.HubLoans.Fillings.{elements_of, written_contents}
use Rattle.iox_tables.specs.HubLoans.Questions.{kind_by, kind_of_role}
use Rattle.iox_tables.specs.HubLoans.Slots.{with_contents}
use Rattle.iox_tables.specs.HubLending.Filling.{with_kind}
use Rattle.iox_control.specs.Controls.{ControlState, IsControl, with_tables}
use Rattle.iox_control_request_copies.specs.Place.{Place}
use Rattle.iox_control_request_copies.specs.Written.TheVariants as written
use Rattle.iox_control_request_copies.specs.Fills.{IsFilled, IsLoan, IsMisfit, fits_loan, given_written, reply_of_write}
use Rattle.iox_hub.specs.Fits.{SuitsHandle, WordsFit, are_requests_in, count_in, comes_with_request}
use Rattle.iox_hub.specs.Hubs.{HasValue, HubState, IsHub, given_by, many_in, state_of_hub}
use Rattle.iox_hub.specs.Lending.{IsWritten, payload_of, with_message}
use Rattle.iox_hub.specs.Reads.{HasOf, message_in}
use Rattle.iox_hub.specs.Words.{Carried, stored_in}
use Rattle.iox_hub.proofs.LendingFits.{each_suits_full, fits_message, pools_stay, ports_stay}
use Rattle.iox_hub.proofs.LendingGiven.{contents_in, given_put, hub_is_left}
use Rattle.iox_hub.proofs.LendingWords.{requests_new, stored_new}
use Rattle.iox_hub.proofs.Named.{found_is_handle, handle_is_value}

-- ---- kinds

-- the kind is a loan of that role
abbrev pub is_loan_of : Role → Kind → Bool
is_loan_of role kind = if is_client role then is_request_loan kind else is_response_loan kind

-- what it is once it is filled
abbrev pub kind_of_filled : Role → Kind
kind_of_filled Client = kinds.RequestMut
kind_of_filled Server = kinds.ResponseMut

no_port_is_loan : (role r : Role) → is_loan_of role (kind_of_role r) ≡ false
no_port_is_loan Client Client = refl
no_port_is_loan Client Server = refl
no_port_is_loan Server Client = refl
no_port_is_loan Server Server = refl

pub loan_is_one : (role : Role) (kind : Kind) → is_loan_of role kind ≡ true → is_loan kind ≡ true
loan_is_one Client kind e = ap (λ b. b || is_response_loan kind) e
loan_is_one Server kind e = step (is_request_loan kind) (is_response_loan kind) e
  where
    step : (a b : Bool) → b ≡ true → (a || b) ≡ true
    step true b f = refl
    step false b f = f

loan_of_request : (role : Role) (kind : Kind) → is_loan_of role kind ≡ true → comes_with_request kind ≡ is_client role
loan_of_request Client kinds.RequestMut e = refl
loan_of_request Client kinds.RequestMutUninit e = refl
loan_of_request Client kinds.Client e = absurd (true≢false (sym e))
loan_of_request Client kinds.Server e = absurd (true≢false (sym e))
loan_of_request Client kinds.ResponseMutUninit e = absurd (true≢false (sym e))
loan_of_request Client kinds.ResponseMut e = absurd (true≢false (sym e))
loan_of_request Client kinds.PendingResponse e = absurd (true≢false (sym e))
loan_of_request Client kinds.ActiveRequest e = absurd (true≢false (sym e))
loan_of_request Client kinds.Response e = absurd (true≢false (sym e))
loan_of_request Server kinds.ResponseMut e = refl
loan_of_request Server kinds.ResponseMutUninit e = refl
loan_of_request Server kinds.Client e = absurd (true≢false (sym e))
loan_of_request Server kinds.Server e = absurd (true≢false (sym e))
loan_of_request Server kinds.RequestMutUninit e = absurd (true≢false (sym e))
loan_of_request Server kinds.RequestMut e = absurd (true≢false (sym e))
loan_of_request Server kinds.PendingResponse e = absurd (true≢false (sym e))
loan_of_request Server kinds.ActiveRequest e = absurd (true≢false (sym e))
loan_of_request Server kinds.Response e = absurd (true≢false (sym e))

filled_of_role : (role : Role) (kind : Kind) → is_loan_of role kind ≡ true → filled_kind kind ≡ kind_of_filled role
filled_of_role Client kind e = ap (λ (b : Bool). if b then kinds.RequestMut else kinds.ResponseMut) e
filled_of_role Server kind e = step (is_request_loan kind) refl
  where
    of : comes_with_request kind ≡ false
    of = loan_of_request Server kind e

    step : (b : Bool) → is_request_loan kind ≡ b → (if b then kinds.RequestMut else kinds.ResponseMut) ≡ kinds.ResponseMut
    step true is = absurd (true≢false (sym (ap (λ (b : Bool). b || (same_kind kind kinds.PendingResponse || same_kind kind kinds.ActiveRequest)) is) ∙ of))
    step false is = refl

filled_is_of : (role : Role) → comes_with_request (kind_of_filled role) ≡ is_client role
filled_is_of Client = refl
filled_is_of Server = refl

-- ---- handles

pub each_changed : (P : HandleState → Type 0) (new : HandleState) (hs : List HandleState) → OfEachHandle P hs → P new → OfEachHandle P (changed_handles new hs)
each_changed P new [] all one = tt
each_changed P new (k ∷ ks) all one = step ((k.node == new.node) && (k.number == new.number)) (each_changed P new ks all.1 one)
  where
    step : (b : Bool) → OfEachHandle P (changed_handles new ks) → OfEachHandle P (if b then new ∷ ks else k ∷ changed_handles new ks)
    step true rest = (one, all.1)
    step false rest = (all.0, rest)

and_both : (a b : Bool) → (a && b) ≡ true → (a ≡ true) × (b ≡ true)
and_both true b e = (refl, e)
and_both false b e = absurd (true≢false (sym e))

-- what is found has that node and number
pub found_has : (hs : List HandleState) (node n : ℕ) (h : HandleState) → handle_in hs node n ≡ Some h → (h.node ≡ node) × (h.number ≡ n)
found_has [] node n h e = absurd (none-some h e)
found_has (k ∷ ks) node n h e = step ((k.node == node) && (k.number == n)) refl e (found_has ks node n h)
  where
    step : (b : Bool) → ((k.node == node) && (k.number == n)) ≡ b → (if b then Some k else handle_in ks node n) ≡ Some h
        → (handle_in ks node n ≡ Some h → (h.node ≡ node) × (h.number ≡ n)) → (h.node ≡ node) × (h.number ≡ n)
    step true is f rest =
        let same : k ≡ h = same_Some k h f in
        let both = and_both (k.node == node) (k.number == n) is in
        (ap (λ (x : HandleState). x.node) (sym same) ∙ eqb-true k.node node both.0, ap (λ (x : HandleState). x.number) (sym same) ∙ eqb-true k.number n both.1)
    step false is f rest = rest f

pub changed_is_found : (hs : List HandleState) (node n : ℕ) (old new : HandleState) → new.node ≡ node → new.number ≡ n → handle_in hs node n ≡ Some old
    → handle_in (changed_handles new hs) node n ≡ Some new
changed_is_found [] node n old new on is e = absurd (none-some old e)
changed_is_found (k ∷ ks) node n old new on is e =
    step ((k.node == new.node) && (k.number == new.number)) ((k.node == node) && (k.number == n))
    (ap₂ (λ (a b : ℕ). (k.node == a) && (k.number == b)) on is) refl e (changed_is_found ks node n old new on is)
  where
    here : ((new.node == node) && (new.number == n)) ≡ true
    here = ap₂ (λ (a b : Bool). a && b) (eq-eqb new.node node on) (eq-eqb new.number n is)

    step : (a b : Bool) → a ≡ b → ((k.node == node) && (k.number == n)) ≡ b → (if b then Some k else handle_in ks node n) ≡ Some old
        → (handle_in ks node n ≡ Some old → handle_in (changed_handles new ks) node n ≡ Some new)
        → handle_in (if a then new ∷ ks else k ∷ changed_handles new ks) node n ≡ Some new
    step true b same at f rest = ap (λ (c : Bool). if c then Some new else handle_in ks node n) here
    step false true same at f rest = absurd (true≢false (sym same))
    step false false same at f rest = ap (λ (c : Bool). if c then Some k else handle_in (changed_handles new ks) node n) at ∙ rest f

pub low_if_used : (t : HubTables) (pool k : ℕ) → IsUsed t pool k → k < length (slots_of t.pools pool)
low_if_used t pool k used = step (slots_of t.pools pool) k used
  where
    step : (ss : List SlotState) (i : ℕ) → 1 ≤ (option_map_or (λ (s : SlotState). s) (slice_get ss i) no_slot).holders → i < length ss
    step [] i u = absurd (omega (arith, u))
    step (s ∷ ss) zero u = omega arith
    step (s ∷ ss) (suc i) u = let rest = step ss i u in omega (arith, rest)

-- ---- the loan

-- The number names a loan of that role.
pub record IsLoanOf (role : Role) (h : HubState) (node n : ℕ) : Type 0 where
  pub handle : HandleState
  pub there : handle_in h.control.tables.handles node n ≡ Some handle
  pub passes : is_loan_of role handle.kind ≡ true

pub loan_named : (role : Role) {h : HubState} (hub : IsHub h) (now : HubState) → h ≡ now → (node n : ℕ) → HasOf (is_loan_of role) now node n → IsLoanOf role h node n
loan_named role {h} hub now is node n has =
    step (port_in h.control.tables.ports n) (handle_in h.control.tables.handles node n) refl
    (subst (λ (d : HubState). HasOf (is_loan_of role) d node n) (sym is) has)
  where
    held : (p : PortState) (a : Bool) → option_map_or (is_loan_of role) (if a then Some (kind_of_role p.role) else None) false ≡ true → ⊥
    held p true f = true≢false (sym f ∙ no_port_is_loan role p.role)
    held p false f = true≢false (sym f)

    step : (o : Option PortState) (q : Option HandleState) → handle_in h.control.tables.handles node n ≡ q
        → option_map_or (is_loan_of role) (kind_by node o q) false ≡ true → IsLoanOf role h node n
    step (Some p) q at f = absurd (held p (p.held && (p.node == node)) f)
    step None (Some k) at f = record { handle = k; there = at; passes = f }
    step None None at f = absurd (true≢false (sym f))

module _ (role : Role) {h : HubState} (hub : IsHub h) (node n : ℕ) (loan : IsLoanOf role h node n) where
  abbrev t : HubTables
  t = h.control.tables

  abbrev k : HandleState
  k = loan.handle

  abbrev was : StoredMessage
  was = stored_in h.words k.pool k.slot

  pub is_loan_there : IsLoan t node n
  is_loan_there = record {
    handle = k;
    named = found_is_handle t hub.control.order node n k loan.there;
    loan = loan_is_one role k.kind loan.passes;
  }

  pub loan_of_role : are_requests_in h.words k.pool ≡ is_client role
  loan_of_role = (handle_is (SuitsHandle (many_in h) h.words) t.handles node n k hub.words.handles loan.there).kind ∙ loan_of_request role k.kind loan.passes

  pub loan_low : k.slot < length (slots_of t.pools k.pool)
  loan_low = low_if_used t k.pool k.slot (used_by_handle t hub.control.order node n k loan.there)

  pub loan_within : k.slot < count_in h.words k.pool
  loan_within = let low = loan_low in let more = hub.words.pools k.pool in omega (arith, low, more)

  pub loan_elements : was.elements ≡ elements_of t k
  loan_elements = hub.words.elements k.pool k.slot loan_low

  pub loan_message : message_in h node n ≡ was
  loan_message = ap (λ o. option_map_or (λ (j : HandleState). stored_in h.words j.pool j.slot) o (unlent 0 [])) loan.there

  -- ---- it is filled

  module _ (z : StoredMessage) (elements : z.elements ≡ was.elements) (all : z.filled ≡ z.elements) (new : ControlState)
      (left : new ≡ with_tables h.control (with_kind t k (filled_kind k.kind))) (words : List (Option Carried)) (put : words ≡ with_message h.words k.pool k.slot z) where
    abbrev filled : HandleState
    filled = record k { kind = filled_kind k.kind }

    abbrev h' : HubState
    h' = record h { control = new; words = words }

    filled_suits : SuitsHandle (many_in h) (with_message h.words k.pool k.slot z) filled
    filled_suits = record {
      kind = requests_new h.words k.pool k.slot z k.pool ∙ loan_of_role ∙ sym (filled_is_of role)
          ∙ ap comes_with_request (sym (filled_of_role role k.kind loan.passes));
      one = λ e few.
          ap (λ (s : StoredMessage). s.elements) (stored_new h.words k.pool k.slot z loan_within) ∙ elements
          ∙ (handle_is (SuitsHandle (many_in h) h.words) t.handles node n k hub.words.handles loan.there).one (loan_is_one role k.kind loan.passes)
          (ap (λ (b : Bool). if b then (many_in h).0 else (many_in h).1)
          (loan_of_request role k.kind loan.passes ∙ sym (filled_is_of role) ∙ ap comes_with_request (sym (filled_of_role role k.kind loan.passes)))
          ∙ few);
      full = λ e. subst (λ (s : StoredMessage). s.filled ≡ s.elements) (sym (stored_new h.words k.pool k.slot z loan_within)) all;
    }

    pub filled_fits : WordsFit (many_in h) words new.tables
    filled_fits =
        subst (λ (ws : List (Option Carried)). WordsFit (many_in h) ws new.tables) (sym put)
        (subst (λ (d : ControlState). WordsFit (many_in h) (with_message h.words k.pool k.slot z) d.tables) (sym left)
        (fits_message h.words k.pool k.slot z t (with_kind t k (filled_kind k.kind)) hub.words loan_within (λ place. refl)
        (elements ∙ loan_elements) (λ p j other. refl) (pools_stay t.pools) (ports_stay t.ports)
        (each_changed (SuitsHandle (many_in h) (with_message h.words k.pool k.slot z)) filled t.handles
        (each_suits_full h.words k.pool k.slot z loan_within all elements (many_in h) t.handles hub.words.handles) filled_suits)))

    pub filled_found : handle_in new.tables.handles node n ≡ Some filled
    filled_found =
        let has = found_has t.handles node n k loan.there in
        ap (λ (d : ControlState). handle_in d.tables.handles node n) left
        ∙ changed_is_found t.handles node n k filled has.0 has.1 loan.there

    pub filled_value : IsControl new → (HasValue h' node n (kind_of_filled role))
    filled_value order = handle_is_value new.tables order.order node n filled filled_found ∙ ap (λ q. Some q) (filled_of_role role k.kind loan.passes)

    pub filled_message : message_in h' node n ≡ z
    filled_message =
        ap (λ o. option_map_or (λ (j : HandleState). stored_in words j.pool j.slot) o (unlent 0 [])) filled_found
        ∙ ap (λ (ws : List (Option Carried)). stored_in ws k.pool k.slot) put
        ∙ stored_new h.words k.pool k.slot z loan_within

    pub filled_given : (x : Given) → with_contents (given_by x h) k.pool k.slot (contents_in z) ≡ given_by x h'
    filled_given x =
        given_put x h new k.pool k.slot z loan_within
        ∙ ap (λ (ws : List (Option Carried)). given_by x (record h { control = new; words = ws })) (sym put)

  -- ---- what a write comes to

  module _ (ws : List ℕ) (count : ℕ) (new : ControlState) (place : Place) (is : IsFilled h.control k (Some count) place new) where
    pub write_of_role : are_requests_in h.words place.pool ≡ is_client role
    write_of_role = ap (λ (q : Place). are_requests_in h.words q.pool) is.at ∙ loan_of_role

    pub write_within : place.slot < count_in h.words place.pool
    write_within = subst (λ (q : Place). q.slot < count_in h.words q.pool) (sym is.at) loan_within

    count_is : count ≡ elements_of t k
    count_is = eqb-true count (elements_of t k) is.fits

    pub write_equal : count ≡ (stored_in h.words place.pool place.slot).elements
    write_equal =
        count_is ∙ sym loan_elements ∙ ap (λ (q : Place). (stored_in h.words q.pool q.slot).elements) (sym is.at)

    module _ (words : List (Option Carried)) (put : words ≡ with_message h.words place.pool place.slot (filled_with (stored_in h.words place.pool place.slot) ws)) where
      abbrev z : StoredMessage
      z = filled_with was ws

      put_here : words ≡ with_message h.words k.pool k.slot z
      put_here = put ∙ ap (λ (q : Place). with_message h.words q.pool q.slot (filled_with (stored_in h.words q.pool q.slot) ws)) is.at

      abbrev left_hub : HubState
      left_hub = record h { control = new; words = words }

      pub written_shown : (x : Given) → state_shown (given_written (given_by x h) t k ws (written.Done place)) new.tables ≡ state_of_hub x left_hub
      written_shown x =
          ap (λ (q : Place). state_shown (with_contents (given_by x h) q.pool q.slot (written_contents (given_by x h) t k ws)) new.tables) is.at
          ∙ ap (λ m. state_shown (with_contents (given_by x h) k.pool k.slot (record { user = was.user; payload = ws; filled = m })) new.tables) (sym loan_elements)
          ∙ ap (λ g. state_shown g new.tables) (filled_given z refl refl new is.left words put_here x)

      module _ (whole : (x : Given) (j : HandleState) (p : Payload) → handle_in t.handles node n ≡ Some j → suits false (Write n p) j.kind ≡ true → p.elements ≡ Some count
          → IsWholeCall (state_shown x t) node (Write n p) (reply_of_write (written.Done place)) (state_shown (given_written x t j p.words (written.Done place)) new.tables)) where
        pub written_whole : (x : Given) → IsWholeCall (state_of_hub x h) node (Write n (payload_of role count ws)) (reply_of_write (written.Done place)) (state_of_hub x left_hub)
        written_whole x =
            subst (IsWholeCall (state_of_hub x h) node (Write n (payload_of role count ws)) (reply_of_write (written.Done place))) (written_shown x)
            (whole (given_by x h) k (payload_of role count ws) loan.there loan.passes refl)

        pub written_hub : IsControl new → IsHub left_hub
        written_hub order =
            hub_is_left h left_hub node (Write n (payload_of role count ws)) (reply_of_write (written.Done place)) hub order
            (filled_fits z refl refl new is.left words put_here) written_whole

      pub is_written : IsControl new → IsWritten h node n (kind_of_filled role) count ws left_hub
      is_written order = record {
        fits = ap (λ (s : StoredMessage). s.elements) loan_message ∙ loan_elements ∙ sym count_is;
        value = filled_value z refl refl new is.left words put_here order;
        message = filled_message z refl refl new is.left words put_here ∙ ap (λ s. filled_with s ws) (sym loan_message);
      }

  module _ (count : ℕ) (new : ControlState) (is : IsMisfit h.control k (Some count) new) where
    pub misfit_length : (message_in h node n).elements ≢ count
    misfit_length e =
        true≢false (sym (eq-eqb count (elements_of t k) (sym e ∙ ap (λ (s : StoredMessage). s.elements) loan_message ∙ loan_elements)) ∙ is.fits)

    pub misfit_left : record h { control = new } ≡ h
    misfit_left = ap (λ (d : ControlState). record h { control = d }) is.left

  -- a payload of as many elements as the loan has fits it
  pub length_fits : (count : ℕ) → (message_in h node n).elements ≡ count → (j : HandleState) → handle_in t.handles node n ≡ Some j
      → fits_loan t j (Some count) ≡ true
  length_fits count e j there =
      ap (λ (i : HandleState). fits_loan t i (Some count)) (sym (same_Some k j (sym loan.there ∙ there)))
      ∙ eq-eqb count (elements_of t k) (sym e ∙ ap (λ (s : StoredMessage). s.elements) loan_message ∙ loan_elements)

  -- and this is its kind once it is filled
  pub kind_fits : (j : HandleState) → handle_in t.handles node n ≡ Some j → filled_kind j.kind ≡ kind_of_filled role
  kind_fits j there =
      ap (λ (i : HandleState). filled_kind i.kind) (sym (same_Some k j (sym loan.there ∙ there))) ∙ filled_of_role role k.kind loan.passes
