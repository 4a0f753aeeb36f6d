-- Words go on fitting the tables of a hub as messages are copied.
use Rattle.std.specs.Prelude.{◌≡◌, ℕ, zero, suc, ◌<◌, ◌≤◌, Bool, true, false, List, [], ◌∷◌, length, Option, slice_set, refl}
use Rattle.std.proofs.Common.{sym, ap, subst, ◌∙◌, arith}
use Rattle.std.proofs.lemmas.List.{get_or-set_same}
use Rattle.iox_store.specs.Stored.{Contents, StoredMessage, filled_with, lent_uninit, stored_at, unlent, with_stored}
use Rattle.iox_lanes.specs.Incomings.{IncomingState}
use Rattle.iox_model.specs.Maps.{has_number}
use Rattle.iox_model.specs.Settings.{Shape, has_layout, is_client, is_count, other_role}
use Rattle.iox_tables.specs.HubBooks.Hubs.{AreInOrder}
use Rattle.iox_tables.specs.HubBooks.Keeps.{bare_pools, delivers}
use Rattle.iox_tables.proofs.HubBooks.Frames.{lanes_on_bare}
use Rattle.iox_tables.specs.HubLending.Lending.{MayLend}
use Rattle.iox_tables.proofs.HubLending.Owning.{free_is_unused, slot_there}
use Rattle.iox_tables.specs.HubLoans.Lenders.{Lender}
use Rattle.iox_tables.specs.HubLoans.Loans.{loaned_slot, with_loaned_slot}
use Rattle.iox_tables.specs.HubLoans.Slots.{IsUnused}
use Rattle.iox_tables.proofs.HubLoans.Placed.{slot_is, slot_stays}
use Rattle.iox_tables.specs.HubStates.Changes.{with_lanes}
use Rattle.iox_tables.specs.HubStates.Ends.{OfEachHandle, with_call, with_loan}
use Rattle.iox_tables.specs.HubStates.Tables.{HubTables, PoolState, SlotState, senders_of}
use Rattle.iox_hub_delivering.proofs.Counted.{gives_bare}
use Rattle.iox_control_request_copies.specs.Answers.{way_of, with_copy_lost, with_copy_sent}
use Rattle.iox_control_request_copies.specs.Asked.{Asked}
use Rattle.iox_hub.specs.declared.shape.MessageShape.{MessageShape}
use Rattle.iox_hub.specs.Copying.{asked_of_copy, copied_stored}
use Rattle.iox_hub.specs.Fits.{WordsFit, are_requests_in, count_in, longest_in}
use Rattle.iox_hub.specs.Lending.{IsAskedFor, with_message}
use Rattle.iox_hub.specs.Shapes.{shape_of}
use Rattle.iox_hub.specs.Words.{Carried}
use Rattle.iox_hub.proofs.Fitting.{fits_on, one_as}
use Rattle.iox_hub.proofs.LendingFits.{each_suits_else, fits_message, ports_stay}
use Rattle.iox_hub.proofs.LendingGiven.{IsNoUnfilled}
use Rattle.iox_hub.proofs.LendingMade.{lenders_were_there, no_others, put_counts, put_pools, slot_has_words}

-- what is asked for a copy is told by how many elements it has
module _ {E H : Type 0} (many : Bool) (width : ℕ) (words : E → List ℕ) (user_words : H → List ℕ) (m : MessageShape E H) (k : ℕ) (a : Asked) where
  abbrev shape : Shape
  shape = shape_of many width words user_words m

  pub asked_is : IsAskedFor many width words user_words m k false a → a ≡ asked_of_copy shape k
  asked_is is = λ i. record {
    elements = is.count i;
    uninit = is.unfilled i;
    is_count = (sym is.asked.count ∙ ap (is_count shape) is.count) i;
    has_layout = (sym is.asked.layout ∙ ap (has_layout shape) is.count) i;
  }

-- ---- one message

set_twice : {A : Type 0} (xs : List A) (k : ℕ) (a b : A) → slice_set (slice_set xs k a) k b ≡ slice_set xs k b
set_twice [] k a b = refl
set_twice (x ∷ xs) zero a b = refl
set_twice (x ∷ xs) (suc k) a b = ap (λ ys. x ∷ ys) (set_twice xs k a b)

-- it is lent first, and then it is filled
pub copied_is : (old lent new : Contents) (slot k : ℕ) (user ws : List ℕ) → slot < length old.messages → lent ≡ with_stored old slot (lent_uninit (stored_at old slot) k user)
    → new ≡ with_stored lent slot (filled_with (stored_at lent slot) ws) → new ≡ with_stored old slot (copied_stored user k ws (stored_at old slot))
copied_is old lent new slot k user ws low is then =
    let a : StoredMessage = lent_uninit (stored_at old slot) k user in
    then ∙ ap (λ (s : Contents). with_stored s slot (filled_with (stored_at s slot) ws)) is
    ∙ ap (λ (z : StoredMessage). with_stored (with_stored old slot a) slot (filled_with z ws)) (get_or-set_same old.messages slot a (unlent 0 []) low)
    ∙ ap (λ (ms : List StoredMessage). record old { messages = ms }) (set_twice old.messages slot a (filled_with a ws))

-- ---- counts

module _ {many : Bool × Bool} (words : List (Option Carried)) where
  called_fits : (t : HubTables) → WordsFit many words t → WordsFit many words (with_call t)
  called_fits t fit = record {
    pools = fit.pools;
    elements = fit.elements;
    ports = fit.ports;
    gone = fit.gone;
    longest = fit.longest;
    one = fit.one;
    handles = fit.handles;
  }

  lent_fits : (t : HubTables) (n : ℕ) → WordsFit many words t → WordsFit many words (with_loan t n)
  lent_fits t n fit = record {
    pools = fit.pools;
    elements = fit.elements;
    ports = λ m p at.
        let q = lenders_were_there t.ports n m p at in
        ap (are_requests_in words) (sym q.2.pool) ∙ fit.ports m q.0 q.1 ∙ ap is_client q.2.role;
    gone = λ place q m p at there has.
        let b = lenders_were_there t.ports n m p there in
        fit.gone place q m b.0 at b.1 (ap (λ (c : IncomingState). has_number q.port (senders_of c.pipes)) b.2.kept ∙ has) ∙ ap (λ r. is_client (other_role r)) b.2.role;
    longest = λ m p at.
        let q = lenders_were_there t.ports n m p at in
        let below : q.0.longest ≤ longest_in words q.0.pool = fit.longest m q.0 q.1 in
        let there : longest_in words q.0.pool ≡ longest_in words p.pool = ap (longest_in words) q.2.pool in
        let length_is = q.2.longest in omega (arith, below, there, length_is);
    one = λ m p at. let q = lenders_were_there t.ports n m p at in one_as many q.0 p q.2.role q.2.longest (fit.one m q.0 q.1);
    handles = fit.handles;
  }

  -- a copy that nobody gets is only counted
  pub lost_fits : (fails : Bool) (t : HubTables) (n : ℕ) → WordsFit many words t → WordsFit many words (with_copy_lost fails t n)
  lost_fits true t n fit = called_fits (with_loan t n) (lent_fits t n fit)
  lost_fits false t n fit = called_fits (with_call (with_loan t n)) (called_fits (with_loan t n) (lent_fits t n fit))

-- ---- a response in line

module _ {many : Bool × Bool} (words : List (Option Carried)) (t : HubTables) (fit : WordsFit many words t) (order : AreInOrder t) (y : Lender) (k slot : ℕ) (may : MayLend t y slot) where
  abbrev lent : HubTables
  lent = with_loaned_slot t y k slot

  unused : IsUnused t y.port.pool slot
  unused = free_is_unused t order y.port.pool slot may.free

  pub has_words : slot < count_in words y.port.pool
  has_words = slot_has_words words t fit order y.port.number y may.there false k slot may.within may.free

  -- no handle has it
  pub none_there : OfEachHandle (IsNoUnfilled y.port.pool slot) t.handles
  none_there = no_others words t fit order y.port.number y may.there false k slot may.within may.free t.handles unused.handles

  module _ (z : StoredMessage) (elements : z.elements ≡ k) where
    abbrev put : List (Option Carried)
    put = with_message words y.port.pool slot z

    put_fits : WordsFit many put lent
    put_fits =
        fits_message words y.port.pool slot z t lent fit has_words
        (put_counts t.pools y.port.pool slot (loaned_slot y k))
        (elements ∙ ap (λ (s : SlotState). s.elements) (sym (slot_is t.pools y.port.pool slot (loaned_slot y k) (slot_there t order y.port.number y.port may.there slot may.within))))
        (λ p j other. ap (λ (s : SlotState). s.elements) (slot_stays t.pools y.port.pool slot (loaned_slot y k) p j other))
        (put_pools t.pools y.port.pool slot (loaned_slot y k))
        (ports_stay t.ports)
        (each_suits_else words y.port.pool slot z many t.handles unused.handles fit.handles)

    abbrev in_line : List (Option PoolState) → HubTables
    in_line pools = record (with_lanes (delivers t.settings.response_overflow slot) lent (way_of y ∷ [])) { pools = pools }

    pub line_fits : (new : HubTables) → new ≡ record (with_copy_sent t y k slot) { pools = new.pools } → bare_pools lent.pools ≡ bare_pools new.pools → WordsFit many put new
    line_fits new is same =
        subst (WordsFit many put) (sym is)
        (lost_fits put false (in_line new.pools) y.port.number
        (fits_on put lent put_fits (in_line new.pools)
        (lanes_on_bare (delivers t.settings.response_overflow slot) (gives_bare t.settings.response_overflow slot) lent.ports (way_of y ∷ []))
        same put_fits.handles))
