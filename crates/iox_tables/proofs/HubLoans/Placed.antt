-- What pools and messages are once one slot is another one.
use Rattle.std.specs.Prelude.{◌≡◌, ℕ, zero, suc, Bool, true, false, ◌||◌, ◌&&◌, if◌then◌else◌, ◌==◌, List, [], ◌∷◌, Option, Some, None, slice_get, slice_set, refl}
use Rattle.std.specs.List.{list_any}
use Rattle.std.specs.Option.{option_map_or}
use Rattle.std.proofs.Common.{sym, ap, ◌∙◌, true≢false, eqb-true}
use Rattle.std.proofs.Math.Dec.{eqb-suc-suc}
use Rattle.std.proofs.lemmas.Option.{none-some}
use Rattle.iox_model.specs.Maps.{has_number}
use Rattle.iox_model.specs.WholeCalls.{is_uninit}
use Rattle.iox_laws.proofs.WeaveLaws.MapLemmas.{eqb-refl}
use Rattle.iox_lanes.specs.Lanes.{LaneState}
use Rattle.iox_tables.specs.HubStates.Tables.{HandleState, PoolState, SlotState, no_slot, pool_at, slot_at, slots_of}
use Rattle.iox_tables.specs.HubStates.States.{Given, handle_of, message_of, no_id}
use Rattle.iox_tables.specs.HubStates.Steps.{HasSameMessages, places_on}
use Rattle.iox_tables.specs.HubStates.Ends.{HasSameSettings, OfEachHandle, ShowsSame}
use Rattle.iox_tables.proofs.HubStates.Ends.{free_slots_may_change}
use Rattle.iox_tables.specs.HubLoans.Slots.{SlotContents, HasSlot, UnusedSlotsMayChange, is_place, put_place, with_contents, put_slot, put_slot_of}
pub use Rattle.std.proofs.lemmas.Bool.{or_parts as or_false}
pub use Rattle.iox_tables.proofs.HubStates.Keys.{set_else, set_there}

-- ---- one pool

-- the pool in a place is in the list there
pool_there : (pools : List (Option PoolState)) (pool : ℕ) (p : PoolState) → pool_at pools pool ≡ Some p → slice_get pools pool ≡ Some (Some p)
pool_there pools pool p is = step (slice_get pools pool) is
  where
    step : (o : Option (Option PoolState)) → option_map_or (λ q. q) o None ≡ Some p → o ≡ Some (Some p)
    step (Some o) e = ap Some e
    step None e = absurd (none-some p e)

-- each pool, once one of them has another slot
pub pool_is : (pools : List (Option PoolState)) (pool k : ℕ) (slot : SlotState) (p : ℕ)
    → pool_at (put_slot pools pool k slot) p
    ≡ (if p == pool then option_map_or (λ q. Some (put_slot_of k slot q)) (pool_at pools p) None else pool_at pools p)
pool_is pools pool k slot p = step (pool_at pools pool) refl (p == pool) refl
  where
    step : (o : Option PoolState) → pool_at pools pool ≡ o → (b : Bool) → (p == pool) ≡ b
        → pool_at (option_map_or (λ q. slice_set pools pool (Some (put_slot_of k slot q))) o pools) p
        ≡ (if b then option_map_or (λ q. Some (put_slot_of k slot q)) (pool_at pools p) None else pool_at pools p)
    step (Some q) is true e =
        ap (pool_at (slice_set pools pool (Some (put_slot_of k slot q)))) (eqb-true p pool e)
        ∙ ap (λ o. option_map_or (λ r. r) o None) (set_there pools pool (Some q) (Some (put_slot_of k slot q)) (pool_there pools pool q is))
        ∙ sym (ap (λ o. option_map_or (λ q. Some (put_slot_of k slot q)) o None) (ap (pool_at pools) (eqb-true p pool e) ∙ is))
    step (Some q) is false e = ap (λ o. option_map_or (λ r. r) o None) (set_else pools pool p (Some (put_slot_of k slot q)) e)
    step None is true e =
        let gone : pool_at pools p ≡ None = ap (pool_at pools) (eqb-true p pool e) ∙ is in
        gone ∙ sym (ap (λ o. option_map_or (λ q. Some (put_slot_of k slot q)) o None) gone)
    step None is false e = refl

-- whatever a pool shows but for its slots stays
pub part_stays : {B : Type 0} (show : PoolState → B) (none : B) → ((q : PoolState) (k : ℕ) (slot : SlotState) → show (put_slot_of k slot q) ≡ show q)
    → (pools : List (Option PoolState)) (pool k : ℕ) (slot : SlotState) (p : ℕ)
    → option_map_or show (pool_at (put_slot pools pool k slot) p) none ≡ option_map_or show (pool_at pools p) none
part_stays show none same pools pool k slot p =
    ap (λ o. option_map_or show o none) (pool_is pools pool k slot p) ∙ step (p == pool) (pool_at pools p)
  where
    step : (b : Bool) (o : Option PoolState)
        → option_map_or show (if b then option_map_or (λ q. Some (put_slot_of k slot q)) o None else o) none ≡ option_map_or show o none
    step true (Some q) = same q k slot
    step true None = refl
    step false o = refl

-- the slots of each pool
slots_are : (pools : List (Option PoolState)) (pool k : ℕ) (slot : SlotState) (p : ℕ)
    → slots_of (put_slot pools pool k slot) p ≡ (if p == pool then slice_set (slots_of pools p) k slot else slots_of pools p)
slots_are pools pool k slot p = ap (λ o. option_map_or (λ (q : PoolState). q.slots) o []) (pool_is pools pool k slot p) ∙ step (p == pool) (pool_at pools p)
  where
    step : (b : Bool) (o : Option PoolState)
        → option_map_or (λ (q : PoolState). q.slots) (if b then option_map_or (λ q. Some (put_slot_of k slot q)) o None else o) []
        ≡ (if b then slice_set (option_map_or (λ (q : PoolState). q.slots) o []) k slot else option_map_or (λ (q : PoolState). q.slots) o [])
    step true (Some q) = refl
    step true None = refl
    step false o = refl

-- every other slot stays
pub slot_stays : (pools : List (Option PoolState)) (pool k : ℕ) (slot : SlotState) (p j : ℕ) → is_place pool k p j ≡ false
    → slot_at (put_slot pools pool k slot) p j ≡ slot_at pools p j
slot_stays pools pool k slot p j other =
    ap (λ ss. option_map_or (λ s. s) (slice_get ss j) no_slot) (slots_are pools pool k slot p) ∙ step (p == pool) (j == k) refl other
  where
    step : (a b : Bool) → (j == k) ≡ b → (a && b) ≡ false
        → option_map_or (λ s. s) (slice_get (if a then slice_set (slots_of pools p) k slot else slots_of pools p) j) no_slot ≡ slot_at pools p j
    step true true e off = absurd (true≢false off)
    step true false e off = ap (λ o. option_map_or (λ s. s) o no_slot) (set_else (slots_of pools p) k j slot e)
    step false b e off = refl

-- that one is the new one
pub slot_is : (pools : List (Option PoolState)) (pool k : ℕ) (slot : SlotState) → HasSlot pools pool k
    → slot_at (put_slot pools pool k slot) pool k ≡ slot
slot_is pools pool k slot has =
    ap (λ ss. option_map_or (λ s. s) (slice_get ss k) no_slot)
    (slots_are pools pool k slot pool ∙ ap (λ b. if b then slice_set (slots_of pools pool) k slot else slots_of pools pool) (eqb-refl pool))
    ∙ ap (λ o. option_map_or (λ s. s) o no_slot) (set_there (slots_of pools pool) k has.0 slot has.1)

-- ---- messages

module _ (x : Given) (pools : List (Option PoolState)) (pool k : ℕ) (slot : SlotState) (w : SlotContents) where
  abbrev x' : Given
  x' = with_contents x pool k w

  abbrev new : List (Option PoolState)
  new = put_slot pools pool k slot

  -- what each place has but that one
  else_is : {A : Type 0} (f : ℕ → ℕ → A) (a : A) (p j : ℕ) → is_place pool k p j ≡ false → put_place f pool k a p j ≡ f p j
  else_is f a p j other = ap (λ b. if b then a else f p j) other

  -- every other message stays
  pub message_stays : (p j : ℕ) → is_place pool k p j ≡ false → message_of x pools p j ≡ message_of x' new p j
  message_stays p j other = λ i. record (message_of x pools p j) {
    sender = sym (part_stays (λ q. q.port) 0 (λ q k s. refl) pools pool k slot p) i;
    serial = (sym (slot_stays pools pool k slot p j other) i).serial;
    node_id = sym (part_stays (λ q. q.node_id) no_id (λ q k s. refl) pools pool k slot p) i;
    port_id = sym (part_stays (λ q. q.port_id) no_id (λ q k s. refl) pools pool k slot p) i;
    lane = (sym (slot_stays pools pool k slot p j other) i).lane;
    request = (sym (slot_stays pools pool k slot p j other) i).request;
    elements = (sym (slot_stays pools pool k slot p j other) i).elements;
    user = sym (else_is x.user w.user p j other) i;
    payload = sym (else_is x.payload w.payload p j other) i;
  }

  -- so does every handle that does not have it
  pub handle_stays : (h : HandleState) → is_place pool k h.pool h.slot ≡ false → ShowsSame x (message_of x pools) x' (message_of x' new) h
  handle_stays h other = λ i. record (handle_of x (message_of x pools) h) {
    message = message_stays h.pool h.slot other i;
    lane = (message_stays h.pool h.slot other i).lane;
    request = (message_stays h.pool h.slot other i).request;
    filled = if is_uninit h.kind then sym (else_is x.filled w.filled h.pool h.slot other) i else (message_stays h.pool h.slot other i).elements;
  }

  pub handles_stay : (hs : List HandleState) → list_any (λ h. is_place pool k h.pool h.slot) hs ≡ false
      → OfEachHandle (ShowsSame x (message_of x pools) x' (message_of x' new)) hs
  handles_stay [] none = tt
  handles_stay (h ∷ hs) none =
      let both = or_false (is_place pool k h.pool h.slot) (list_any (λ h. is_place pool k h.pool h.slot) hs) none in
      (handle_stays h both.0, handles_stay hs both.1)

  -- and what is on a lane
  pub lane_stays : (l : LaneState) → (l.pool ≡ pool → has_number k (places_on l) ≡ false) → HasSameMessages (message_of x pools) (message_of x' new) l
  lane_stays l none j on = message_stays l.pool j (step (l.pool == pool) (j == k) refl refl)
    where
      step : (a b : Bool) → (l.pool == pool) ≡ a → (j == k) ≡ b → (a && b) ≡ false
      step true true ea eb = absurd (true≢false (sym on ∙ ap (λ n. has_number n (places_on l)) (eqb-true j k eb) ∙ none (eqb-true l.pool pool ea)))
      step true false ea eb = refl
      step false b ea eb = refl

pub same_settings : (x : Given) (pool k : ℕ) (w : SlotContents) → HasSameSettings x (with_contents x pool k w)
same_settings x pool k w = record { members = refl; acts = refl; handler = refl; request = refl; response = refl }

pub unused_slots_may_change : UnusedSlotsMayChange
unused_slots_may_change x t pool k slot w unused =
    free_slots_may_change x (with_contents x pool k w) t (put_slot t.pools pool k slot) (same_settings x pool k w)
    (λ way l is. lane_stays x t.pools pool k slot w l (unused.lanes way l is))
    (handles_stay x t.pools pool k slot w t.handles unused.handles)
