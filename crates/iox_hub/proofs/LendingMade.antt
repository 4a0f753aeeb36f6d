-- A loan that the tables of a hub made, as one of the hub.
use Rattle.std.specs.Prelude.{◌≡◌, ℕ, ◌+◌, ◌<◌, Bool, true, false, if◌then◌else◌, ◌==◌, List, [], ◌∷◌, length, Option, Some, None, refl}
use Rattle.std.specs.List.{list_any}
use Rattle.std.specs.Option.{option_map, option_map_or}
use Rattle.std.proofs.Common.{sym, ap, ap₂, subst, ◌∙◌, arith, true≢false}
use Rattle.std.proofs.lemmas.List.{length-set}
use Rattle.std.proofs.lemmas.Option.{none-some, same_Some}
use Rattle.iox_store.specs.Stored.{StoredMessage, unlent}
use Rattle.iox_model.specs.declared.kind.Role.{Role}
use Rattle.iox_model.specs.declared.kind.Role.TheVariants.{Client, Server}
use Rattle.iox_model.specs.Commands.{Call, Reply}
use Rattle.iox_model.specs.Loans.{kind_of_loan}
use Rattle.iox_model.specs.Settings.{Shape, is_client}
use Rattle.iox_model.specs.WholeCalls.{IsWholeCall, default_payload, is_uninit}
use Rattle.iox_tables.specs.HubStates.Changes.{emptied_lane}
use Rattle.iox_tables.specs.HubStates.Ends.{OfEachHandle}
use Rattle.iox_tables.specs.HubStates.States.{Given, state_shown}
use Rattle.iox_tables.specs.HubStates.Tables.{HandleState, HubTables, PoolState, PortState, SlotState, first_by, pool_at, port_in, slot_at, slots_of}
use Rattle.iox_tables.specs.HubStates.Ways.{with_port}
use Rattle.iox_tables.specs.HubStates.Wirings.{handle_in}
use Rattle.iox_tables.proofs.HubStates.Keys.{same_mapped}
use Rattle.iox_tables.specs.HubBooks.Hubs.{AreInOrder}
use Rattle.iox_tables.proofs.HubBooks.Frames.{first_map, lanes_on_bare, some_map}
use Rattle.iox_tables.proofs.HubBooks.Going.{each_last}
use Rattle.iox_tables.specs.HubLoans.Lenders.{Lender, shape_in, ways_by}
use Rattle.iox_tables.specs.HubLoans.Loans.{loaned_handle, loaned_slot, with_loaned}
use Rattle.iox_tables.specs.HubLoans.Slots.{SlotContents, IsUnused, is_place, put_slot, put_slot_of, with_contents}
use Rattle.iox_tables.proofs.HubLoans.Placed.{or_false, pool_is, slot_is, slot_stays}
use Rattle.iox_tables.specs.HubLending.Emptying.{with_back}
use Rattle.iox_tables.proofs.HubLending.Back.{back_in_order, getting_back_keeps_order}
use Rattle.iox_tables.proofs.HubLending.Owning.{free_is_unused, slot_count, slot_there}
use Rattle.iox_control.specs.Controls.{ControlState, IsControl}
use Rattle.iox_control_request_copies.specs.Asked.{Asked}
use Rattle.iox_control_request_copies.specs.Loaned.{Loaned}
use Rattle.iox_control_request_copies.specs.Lends.{IsAskedOf, IsGotBack, IsLoaned, first_contents, on_lane}
use Rattle.iox_hub.specs.Fits.{SuitsHandle, WordsFit, are_requests_in, count_in, is_full_loan, comes_with_request, many_by}
use Rattle.iox_hub.specs.Hubs.{HubState, IsHub, given_by, many_in, state_of_hub}
use Rattle.iox_hub.specs.Lending.{IsFresh, first_stored, with_message}
use Rattle.iox_hub.specs.Reads.{message_in}
use Rattle.iox_hub.specs.Words.{Carried, stored_in}
use Rattle.iox_hub.proofs.Fitting.{fits_on}
use Rattle.iox_hub.proofs.LendingFits.{PoolsWereThere, PortsWereThere, each_suits_else, fits_message}
use Rattle.iox_hub.proofs.LendingGiven.{IsNoUnfilled, contents_in, filled_unread, given_put, hub_is_left}
use Rattle.iox_hub.proofs.LendingWords.{requests_new, stored_new}
use Rattle.iox_hub.proofs.Named.{added_is_found, handle_is_value}
use Rattle.iox_hub.proofs.OneElement.{loan_is_of_one}

-- ---- kinds

loan_of_role : (role : Role) (uninit : Bool) → is_client role ≡ comes_with_request (kind_of_loan role uninit)
loan_of_role Client true = refl
loan_of_role Client false = refl
loan_of_role Server true = refl
loan_of_role Server false = refl

full_is_filled : (role : Role) (uninit : Bool) → is_full_loan (kind_of_loan role uninit) ≡ true → uninit ≡ false
full_is_filled Client true e = absurd (true≢false (sym e))
full_is_filled Client false e = refl
full_is_filled Server true e = absurd (true≢false (sym e))
full_is_filled Server false e = refl

filled_is_no_uninit : (role : Role) → is_uninit (kind_of_loan role false) ≡ false
filled_is_no_uninit Client = refl
filled_is_no_uninit Server = refl

-- ---- ports

module _ (ports : List PortState) (m : ℕ) where
  abbrev show : PortState → PortState
  show p = record p { loans = 0 }

  abbrev lends_more : PortState → PortState
  lends_more p = record p { loans = p.loans + 1 }

  pub lenders_were_there : PortsWereThere ports (with_port lends_more ports m)
  lenders_were_there n p at =
      let q = some_map show (port_in ports n) (show p)
      (sym (first_map (λ (r : PortState). r.number) (λ (r : PortState). r.number) show (λ r. refl) ports n)
      ∙ ap (λ ps. first_by (λ (r : PortState). r.number) ps n) (sym (same_mapped (λ (r : PortState). r.number) lends_more show (λ r. refl) ports m))
      ∙ first_map (λ (r : PortState). r.number) (λ (r : PortState). r.number) show (λ r. refl) (with_port lends_more ports m) n
      ∙ ap (option_map show) at) in (
        q.0,
        q.1,
        record {
          role = ap (λ (r : PortState). r.role) q.2;
          pool = ap (λ (r : PortState). r.pool) q.2;
          longest = ap (λ (r : PortState). r.longest) q.2;
          kept = ap (λ (r : PortState). r.expired) q.2;
        },
      )

-- ---- slots

pub put_counts : (pools : List (Option PoolState)) (pool k : ℕ) (slot : SlotState) (place : ℕ)
    → length (slots_of (put_slot pools pool k slot) place) ≡ length (slots_of pools place)
put_counts pools pool k slot place =
    ap (λ o. length (option_map_or (λ (q : PoolState). q.slots) o [])) (pool_is pools pool k slot place) ∙ step (place == pool) (pool_at pools place)
  where
    step : (b : Bool) (o : Option PoolState)
        → length (option_map_or (λ (q : PoolState). q.slots) (if b then option_map_or (λ q. Some (put_slot_of k slot q)) o None else o) [])
        ≡ length (option_map_or (λ (q : PoolState). q.slots) o [])
    step true (Some q) = length-set q.slots k slot
    step true None = refl
    step false o = refl

-- its pool is of the same port, and so is each other
pub put_pools : (pools : List (Option PoolState)) (pool k : ℕ) (slot : SlotState) → PoolsWereThere pools (put_slot pools pool k slot)
put_pools pools pool k slot place q at = step (place == pool) (pool_at pools place) refl (sym (pool_is pools pool k slot place) ∙ at)
  where
    step : (b : Bool) (o : Option PoolState) → pool_at pools place ≡ o → (if b then option_map_or (λ p. Some (put_slot_of k slot p)) o None else o) ≡ Some q
        → (p : PoolState) × (pool_at pools place ≡ Some p) × (p.port ≡ q.port)
    step true (Some p) is e = (p, is, ap (λ (r : PoolState). r.port) (same_Some (put_slot_of k slot p) q e))
    step true None is e = absurd (none-some q e)
    step false o is e = (q, is ∙ e, refl)

-- ---- all is got back

module _ {many : Bool × Bool} (words : List (Option Carried)) (c d : ControlState) (fit : WordsFit many words c.tables) (order : AreInOrder c.tables) (n : ℕ) (p : PortState)
    (there : port_in c.tables.ports n ≡ Some p) (got : IsGotBack c p d) where
  abbrev is_back : d.tables ≡ with_back c.tables p d.tables.pools
  is_back = ap (λ (e : ControlState). e.tables) got.left

  pub back_fits : WordsFit many words d.tables
  back_fits =
      subst (WordsFit many words) (sym is_back)
      (fits_on words c.tables fit (with_back c.tables p d.tables.pools)
      (lanes_on_bare emptied_lane (λ l. refl) c.tables.ports (ways_by p.role c.tables p.number)) got.back.same fit.handles)

  pub back_order : AreInOrder d.tables
  back_order = subst AreInOrder (sym is_back) (back_in_order c.tables order n p there d.tables.pools got.back)

  pub back_there : port_in d.tables.ports n ≡ Some p
  back_there = ap (λ (t : HubTables). port_in t.ports n) is_back ∙ (getting_back_keeps_order c.tables n p d.tables.pools order there got.back).1

-- ---- the loan

module _ {many : Bool × Bool} (words : List (Option Carried)) (t : HubTables) (fit : WordsFit many words t) (order : AreInOrder t) (n : ℕ) (y : Lender) (there : port_in t.ports n ≡ Some y.port)
    (uninit : Bool) (k slot : ℕ) (within : slot < y.port.size) (free : (slot_at t.pools y.port.pool slot).holders ≡ 0) where
  abbrev left : HubTables
  left = with_loaned t y uninit k slot

  abbrev handle : HandleState
  handle = loaned_handle t y uninit slot

  pub slot_has_words : slot < count_in words y.port.pool
  slot_has_words =
      let count = slot_count t order n y.port there in
      let more = fit.pools y.port.pool in omega (arith, within, count, more)

  unused : IsUnused t y.port.pool slot
  unused = free_is_unused t order y.port.pool slot free

  pub loan_found : handle_in left.handles handle.node handle.number ≡ Some handle
  loan_found = added_is_found t order handle refl

  pub no_others : (hs : List HandleState) → list_any (λ h. is_place y.port.pool slot h.pool h.slot) hs ≡ false → OfEachHandle (IsNoUnfilled y.port.pool slot) hs
  no_others [] none = tt
  no_others (h ∷ hs) none =
      let both = or_false (is_place y.port.pool slot h.pool h.slot) (list_any (λ h. is_place y.port.pool slot h.pool h.slot) hs) none in
      ((λ e. absurd (true≢false (sym e ∙ both.0))), no_others hs both.1)

  pub none_unfilled : uninit ≡ false → OfEachHandle (IsNoUnfilled y.port.pool slot) left.handles
  none_unfilled e =
      each_last (IsNoUnfilled y.port.pool slot) t.handles handle (no_others t.handles unused.handles)
      (λ here. ap (λ u. is_uninit (kind_of_loan y.port.role u)) e ∙ filled_is_no_uninit y.port.role)

  module _ (z : StoredMessage) (elements : z.elements ≡ k) (filled : uninit ≡ false → z.filled ≡ z.elements) (one : many_by many y.port.role ≡ false → k ≡ 1) where
    loan_suits : SuitsHandle many (with_message words y.port.pool slot z) handle
    loan_suits = record {
      kind = requests_new words y.port.pool slot z y.port.pool ∙ fit.ports n y.port there ∙ loan_of_role y.port.role uninit;
      one = λ e few.
          ap (λ (s : StoredMessage). s.elements) (stored_new words y.port.pool slot z slot_has_words) ∙ elements
          ∙ one (ap (λ (b : Bool). if b then many.0 else many.1) (loan_of_role y.port.role uninit) ∙ few);
      full = λ e.
          subst (λ (s : StoredMessage). s.filled ≡ s.elements) (sym (stored_new words y.port.pool slot z slot_has_words))
          (filled (full_is_filled y.port.role uninit e));
    }

    pub loan_fits : WordsFit many (with_message words y.port.pool slot z) left
    loan_fits =
        fits_message words y.port.pool slot z t left fit slot_has_words
        (put_counts t.pools y.port.pool slot (loaned_slot y k))
        (elements ∙ ap (λ (s : SlotState). s.elements) (sym (slot_is t.pools y.port.pool slot (loaned_slot y k) (slot_there t order n y.port there slot within))))
        (λ p j other. ap (λ (s : SlotState). s.elements) (slot_stays t.pools y.port.pool slot (loaned_slot y k) p j other))
        (put_pools t.pools y.port.pool slot (loaned_slot y k))
        (lenders_were_there t.ports y.port.number)
        (each_last (SuitsHandle many (with_message words y.port.pool slot z)) t.handles handle
        (each_suits_else words y.port.pool slot z many t.handles unused.handles fit.handles) loan_suits)

-- ---- the words of a new loan

elements_first : (shape : Shape) (uninit : Bool) (k : ℕ) (w : StoredMessage) → (first_stored shape uninit k w).elements ≡ k
elements_first shape true k w = refl
elements_first shape false k w = refl

filled_first : (shape : Shape) (uninit : Bool) (k : ℕ) (w : StoredMessage) → uninit ≡ false → (first_stored shape uninit k w).filled ≡ (first_stored shape uninit k w).elements
filled_first shape true k w e = absurd (true≢false e)
filled_first shape false k w e = refl

pub first_again : (shape : Shape) (uninit : Bool) (k : ℕ) (w : StoredMessage) → first_stored shape uninit k w ≡ first_stored shape uninit k (first_stored shape uninit k w)
first_again shape true k w = refl
first_again shape false k w = refl

-- what a loan is asked for, and holds at first
abbrev contents_first : Shape → Bool → ℕ → SlotContents
contents_first shape uninit k = record { user = shape.user; payload = if uninit then [] else default_payload shape k; filled = 0 }

shown_first : (x : Given) (t : HubTables) (pool slot : ℕ) (shape : Shape) (uninit : Bool) (k : ℕ) (w : StoredMessage)
    → (uninit ≡ false → OfEachHandle (IsNoUnfilled pool slot) t.handles)
    → state_shown (with_contents x pool slot (contents_first shape uninit k)) t
    ≡ state_shown (with_contents x pool slot (contents_in (first_stored shape uninit k w))) t
shown_first x t pool slot shape true k w none = refl
shown_first x t pool slot shape false k w none = filled_unread x t pool slot (contents_first shape false k) k (none refl)

-- ---- the hub

module _ {h : HubState} (hub : IsHub h) (shape : Shape) (a : Asked) (y : Lender) (n : ℕ) (there : port_in h.control.tables.ports n ≡ Some y.port)
    (of : (x : Given) → shape_in (given_by x h) h.control.tables y.port ≡ shape) (asked : IsAskedOf shape a) (l : Loaned) (new : ControlState)
    (is : IsLoaned h.control y a l new) where
  abbrev mid : ControlState
  mid = is.between

  abbrev its : Lender
  its = on_lane y is.made.lane

  abbrev z : StoredMessage
  z = first_stored shape a.uninit a.elements (stored_in h.words l.pool l.slot)

  mid_fits : WordsFit (many_in h) h.words mid.tables
  mid_fits = back_fits h.words h.control mid hub.words hub.control.order n y.port there is.back

  mid_order : AreInOrder mid.tables
  mid_order = back_order h.words h.control mid hub.words hub.control.order n y.port there is.back

  mid_there : port_in mid.tables.ports n ≡ Some y.port
  mid_there = back_there h.words h.control mid hub.words hub.control.order n y.port there is.back

  tables : with_loaned mid.tables its a.uninit a.elements l.slot ≡ new.tables
  tables = ap (λ (d : ControlState). d.tables) (sym is.made.left)

  pub lent_within : l.slot < count_in h.words l.pool
  lent_within =
      subst (λ p. l.slot < count_in h.words p) (sym is.made.pool)
      (slot_has_words h.words mid.tables mid_fits mid_order n its mid_there a.uninit a.elements l.slot is.made.within is.made.free)

  pub lent_requests : (b : Bool) → is_client y.port.role ≡ b → are_requests_in h.words l.pool ≡ b
  lent_requests b e = ap (are_requests_in h.words) is.made.pool ∙ hub.words.ports n y.port there ∙ e

  -- the words are these
  module _ (words' : List (Option Carried)) (put : words' ≡ with_message h.words l.pool l.slot z) where
    abbrev h' : HubState
    h' = record h { control = new; words = words' }

    lent_fits : WordsFit (many_in h) words' new.tables
    lent_fits =
        subst (λ (ws : List (Option Carried)). WordsFit (many_in h) ws new.tables) (sym put)
        (subst (λ p. WordsFit (many_in h) (with_message h.words p l.slot z) new.tables) (sym is.made.pool)
        (subst (WordsFit (many_in h) (with_message h.words y.port.pool l.slot z)) tables
        (loan_fits h.words mid.tables mid_fits mid_order n its mid_there a.uninit a.elements l.slot is.made.within is.made.free z
        (elements_first shape a.uninit a.elements (stored_in h.words l.pool l.slot)) (filled_first shape a.uninit a.elements (stored_in h.words l.pool l.slot))
        (loan_is_of_one hub shape y of a asked l new is))))

    lent_unfilled : a.uninit ≡ false → OfEachHandle (IsNoUnfilled l.pool l.slot) new.tables.handles
    lent_unfilled e =
        subst (λ p. OfEachHandle (IsNoUnfilled p l.slot) new.tables.handles) (sym is.made.pool)
        (subst (λ (u : HubTables). OfEachHandle (IsNoUnfilled y.port.pool l.slot) u.handles) tables
        (none_unfilled h.words mid.tables mid_fits mid_order n its mid_there a.uninit a.elements l.slot is.made.within is.made.free e))

    shown_is : (x : Given) → state_shown (with_contents (given_by x h) l.pool l.slot (first_contents shape a)) new.tables ≡ state_of_hub x h'
    shown_is x =
        shown_first (given_by x h) new.tables l.pool l.slot shape a.uninit a.elements (stored_in h.words l.pool l.slot) lent_unfilled
        ∙ ap (λ g. state_shown g new.tables) (given_put x h new l.pool l.slot z lent_within)
        ∙ ap (λ (ws : List (Option Carried)). state_of_hub x (record h { control = new; words = ws })) (sym put)

    module _ (node : ℕ) (call : Call) (reply : Reply)
        (whole : (x : Given) → IsWholeCall (state_of_hub x h) node call reply (state_shown (with_contents (given_by x h) l.pool l.slot (first_contents shape a)) new.tables)) where
      pub lent_whole : (x : Given) → IsWholeCall (state_of_hub x h) node call reply (state_of_hub x h')
      lent_whole x = subst (IsWholeCall (state_of_hub x h) node call reply) (shown_is x) (whole x)

      pub lent_is_hub : IsControl new → IsHub h'
      lent_is_hub order = hub_is_left h h' node call reply hub order lent_fits lent_whole

    pub lent_is_fresh : IsControl new → (node : ℕ) → y.port.node ≡ node → IsFresh h' node l.number y.port.role shape a.uninit a.elements
    lent_is_fresh order node on_node =
        let k : HandleState = loaned_handle mid.tables its a.uninit l.slot in
        let found : handle_in new.tables.handles node l.number ≡ Some k =
        ap₂ (λ m i. handle_in new.tables.handles m i) (sym on_node) is.made.number
        ∙ ap (λ (u : HubTables). handle_in u.handles y.port.node mid.tables.next_number) (sym tables)
        ∙ loan_found h.words mid.tables mid_fits mid_order n its mid_there a.uninit a.elements l.slot is.made.within is.made.free in
        let message : message_in h' node l.number ≡ z =
        ap (λ o. option_map_or (λ (j : HandleState). stored_in words' j.pool j.slot) o (unlent 0 [])) found
        ∙ ap₂ (λ (ws : List (Option Carried)) p. stored_in ws p l.slot) put (sym is.made.pool)
        ∙ stored_new h.words l.pool l.slot z lent_within in
        record {
          value = handle_is_value new.tables order.order node l.number k found;
          message = message ∙ first_again shape a.uninit a.elements (stored_in h.words l.pool l.slot) ∙ ap (first_stored shape a.uninit a.elements) (sym message);
        }
