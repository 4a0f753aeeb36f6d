-- Words go on fitting the tables as one message is another one.
use Rattle.std.specs.Prelude.{◌≡◌, ℕ, ◌<◌, ◌≤◌, Bool, true, false, ◌&&◌, ◌==◌, List, [], ◌∷◌, length, Option, Some, refl}
use Rattle.std.specs.List.{list_any}
use Rattle.std.proofs.Common.{sym, ap, ap₂, subst, ◌∙◌, arith, eqb-true}
use Rattle.iox_store.specs.Stored.{StoredMessage}
use Rattle.iox_lanes.specs.Incomings.{IncomingState}
use Rattle.iox_model.specs.Maps.{has_number}
use Rattle.iox_model.specs.Settings.{is_client, other_role}
use Rattle.iox_tables.specs.HubStates.Ends.{OfEachHandle}
use Rattle.iox_tables.specs.HubStates.Tables.{HandleState, HubTables, PoolState, PortState, SlotState, pool_at, port_in, senders_of, slot_at, slots_of}
use Rattle.iox_tables.specs.HubLoans.Slots.{is_place}
use Rattle.iox_tables.proofs.HubLoans.Placed.{or_false}
use Rattle.iox_hub.specs.Fits.{SuitsHandle, WordsFit, are_requests_in, count_in, longest_in}
use Rattle.iox_hub.specs.Lending.{with_message}
use Rattle.iox_hub.specs.Words.{Carried, stored_in}
use Rattle.iox_hub.proofs.Fitting.{one_as}
use Rattle.iox_hub.proofs.LendingWords.{count_new, longest_new, requests_new, stored_else, stored_new}

-- it is of the same port, but for how many loans it made, and what comes to it
pub record IsAsBefore (q p : PortState) : Type 0 where
  pub role : q.role ≡ p.role
  pub pool : q.pool ≡ p.pool
  pub longest : q.longest ≡ p.longest
  pub kept : q.expired ≡ p.expired

-- each port that is found was there before
abbrev pub PortsWereThere : List PortState → List PortState → Type 0
PortsWereThere old new =
    (n : ℕ) (p : PortState) → port_in new n ≡ Some p → (q : PortState) × (port_in old n ≡ Some q) × IsAsBefore q p

pub ports_stay : (ports : List PortState) → PortsWereThere ports ports
ports_stay ports n p at = (p, at, record { role = refl; pool = refl; longest = refl; kept = refl })

-- each pool that is found was there before, of the same port
abbrev pub PoolsWereThere : List (Option PoolState) → List (Option PoolState) → Type 0
PoolsWereThere old new =
    (place : ℕ) (q : PoolState) → pool_at new place ≡ Some q → (p : PoolState) × (pool_at old place ≡ Some p) × (p.port ≡ q.port)

pub pools_stay : (pools : List (Option PoolState)) → PoolsWereThere pools pools
pools_stay pools place q at = (q, at, refl)

module _ (words : List (Option Carried)) (pool k : ℕ) (z : StoredMessage) where
  abbrev new : List (Option Carried)
  new = with_message words pool k z

  -- ---- what messages carry

  -- each carries what it did, but for the new one
  each_stored : (P : StoredMessage → Type 0) → k < count_in words pool → P z → (p j : ℕ) → P (stored_in words p j) → P (stored_in new p j)
  each_stored P low so p j old = step (p == pool) (j == k) refl refl
    where
      step : (a b : Bool) → (p == pool) ≡ a → (j == k) ≡ b → P (stored_in new p j)
      step true true ea eb =
          subst P (sym (ap (stored_in new p) (eqb-true j k eb) ∙ ap (λ q. stored_in new q k) (eqb-true p pool ea) ∙ stored_new words pool k z low)) so
      step true false ea eb = subst P (sym (stored_else words pool k z p j (ap (λ a. a && (j == k)) ea ∙ eb))) old
      step false b ea eb = subst P (sym (stored_else words pool k z p j (ap (λ a. a && (j == k)) ea))) old

  -- ---- handles

  -- whatever is filled, in the handle's own slot or in another, the elements stay
  elements_stay : k < count_in words pool → z.elements ≡ (stored_in words pool k).elements → (p j : ℕ)
      → (stored_in new p j).elements ≡ (stored_in words p j).elements
  elements_stay low same p j = step (p == pool) (j == k) refl refl
    where
      step : (a b : Bool) → (p == pool) ≡ a → (j == k) ≡ b → (stored_in new p j).elements ≡ (stored_in words p j).elements
      step true true ea eb =
          ap (λ (s : StoredMessage). s.elements)
          (ap (stored_in new p) (eqb-true j k eb) ∙ ap (λ q. stored_in new q k) (eqb-true p pool ea) ∙ stored_new words pool k z low)
          ∙ same
          ∙ ap (λ (s : StoredMessage). s.elements) (sym (ap (stored_in words p) (eqb-true j k eb) ∙ ap (λ q. stored_in words q k) (eqb-true p pool ea)))
      step true false ea eb = ap (λ (s : StoredMessage). s.elements) (stored_else words pool k z p j (ap (λ a. a && (j == k)) ea ∙ eb))
      step false b ea eb = ap (λ (s : StoredMessage). s.elements) (stored_else words pool k z p j (ap (λ a. a && (j == k)) ea))

  pub suits_else : {many : Bool × Bool} (h : HandleState) → is_place pool k h.pool h.slot ≡ false → SuitsHandle many words h → SuitsHandle many new h
  suits_else h other is = record {
    kind = requests_new words pool k z h.pool ∙ is.kind;
    one = λ e one. subst (λ (s : StoredMessage). s.elements ≡ 1) (sym (stored_else words pool k z h.pool h.slot other)) (is.one e one);
    full = λ e. subst (λ (s : StoredMessage). s.filled ≡ s.elements) (sym (stored_else words pool k z h.pool h.slot other)) (is.full e);
  }

  -- where nobody has the slot, each handle has what it had
  pub each_suits_else : (many : Bool × Bool) (hs : List HandleState) → list_any (λ h. is_place pool k h.pool h.slot) hs ≡ false
      → OfEachHandle (SuitsHandle many words) hs → OfEachHandle (SuitsHandle many new) hs
  each_suits_else many [] none all = tt
  each_suits_else many (h ∷ hs) none all =
      let both = or_false (is_place pool k h.pool h.slot) (list_any (λ h. is_place pool k h.pool h.slot) hs) none in
      (suits_else h both.0 all.0, each_suits_else many hs both.1 all.1)

  -- where as many are filled as there were, each handle still has what it asks
  module _ (low : k < count_in words pool) (all : z.filled ≡ z.elements) (same : z.elements ≡ (stored_in words pool k).elements) where
    suits_full : {many : Bool × Bool} (h : HandleState) → SuitsHandle many words h → SuitsHandle many new h
    suits_full h is = record {
      kind = requests_new words pool k z h.pool ∙ is.kind;
      one = λ e one. elements_stay low same h.pool h.slot ∙ is.one e one;
      full = λ e. each_stored (λ (s : StoredMessage). s.filled ≡ s.elements) low all h.pool h.slot (is.full e);
    }

    pub each_suits_full : (many : Bool × Bool) (hs : List HandleState) → OfEachHandle (SuitsHandle many words) hs → OfEachHandle (SuitsHandle many new) hs
    each_suits_full many [] each = tt
    each_suits_full many (h ∷ hs) each = (suits_full h each.0, each_suits_full many hs each.1)

  -- ---- all

  module _ {many : Bool × Bool} (t t' : HubTables) (fit : WordsFit many words t) (low : k < count_in words pool) where
    pub fits_message : ((place : ℕ) → length (slots_of t'.pools place) ≡ length (slots_of t.pools place))
        → z.elements ≡ (slot_at t'.pools pool k).elements
        → ((p j : ℕ) → is_place pool k p j ≡ false → (slot_at t'.pools p j).elements ≡ (slot_at t.pools p j).elements)
        → PoolsWereThere t.pools t'.pools → PortsWereThere t.ports t'.ports → OfEachHandle (SuitsHandle many new) t'.handles → WordsFit many new t'
    fits_message counts here others pools ports handles = record {
      pools = λ place.
          let fits = fit.pools place in
          let same = count_new words pool k z place in
          let count = counts place in omega (arith, fits, same, count);
      elements = λ place j within. elements place j within (place == pool) (j == k) refl refl;
      ports = λ n p at.
          let q = ports n p at in
          requests_new words pool k z p.pool ∙ ap (are_requests_in words) (sym q.2.pool) ∙ fit.ports n q.0 q.1 ∙ ap is_client q.2.role;
      gone = λ place q n p at there has.
          let b = ports n p there in
          let a = pools place q at in
          requests_new words pool k z place
          ∙ fit.gone place a.0 n b.0 a.1 b.1
          (ap₂ (λ i (c : IncomingState). has_number i (senders_of c.pipes)) a.2 b.2.kept ∙ has)
          ∙ ap (λ r. is_client (other_role r)) b.2.role;
      longest = λ n p at.
          let q = ports n p at in
          let below : q.0.longest ≤ longest_in words q.0.pool = fit.longest n q.0 q.1 in
          let there : longest_in words q.0.pool ≡ longest_in words p.pool = ap (longest_in words) q.2.pool in
          let same = longest_new words pool k z p.pool in
          let length_is = q.2.longest in omega (arith, below, there, same, length_is);
      one = λ n p at. let q = ports n p at in one_as many q.0 p q.2.role q.2.longest (fit.one n q.0 q.1);
      handles = handles;
    }
      where
        old_elements : (place j : ℕ) → j < length (slots_of t'.pools place) → is_place pool k place j ≡ false
            → (stored_in new place j).elements ≡ (slot_at t'.pools place j).elements
        old_elements place j within other =
            ap (λ (s : StoredMessage). s.elements) (stored_else words pool k z place j other)
            ∙ fit.elements place j (let count = counts place in omega (arith, within, count)) ∙ sym (others place j other)

        elements : (place j : ℕ) → j < length (slots_of t'.pools place) → (a b : Bool) → (place == pool) ≡ a → (j == k) ≡ b
            → (stored_in new place j).elements ≡ (slot_at t'.pools place j).elements
        elements place j within true true ea eb =
            ap (λ (s : StoredMessage). s.elements)
            (ap (stored_in new place) (eqb-true j k eb) ∙ ap (λ q. stored_in new q k) (eqb-true place pool ea) ∙ stored_new words pool k z low)
            ∙ here
            ∙ ap (λ (s : SlotState). s.elements) (sym (ap (slot_at t'.pools place) (eqb-true j k eb) ∙ ap (λ q. slot_at t'.pools q k) (eqb-true place pool ea)))
        elements place j within true false ea eb = old_elements place j within (ap (λ a. a && (j == k)) ea ∙ eb)
        elements place j within false b ea eb = old_elements place j within (ap (λ a. a && (j == k)) ea)
