-- What is in each place and in each slot after the change of a slot.
use Rattle.std.specs.Prelude.{◌≡◌, ◌≤◌, ℕ, zero, suc, Bool, true, false, ◌&&◌, if◌then◌else◌, ◌==◌, nat_lt, List, [], ◌∷◌, length, Option, Some, None, is_some, option_map, slice_get, slice_set, refl}
use Rattle.std.specs.Option.{option_map_or}
use Rattle.std.proofs.Common.{sym, ap, ◌∙◌, arith, eqb-true, true≢false}
use Rattle.std.proofs.lemmas.Bool.{le-ltb, lt-ltb, ltb-false}
use Rattle.std.proofs.lemmas.List.{length-set}
use Rattle.std.proofs.lemmas.Option.{none-some, slice_get_within}
use Rattle.iox_tables.specs.HubStates.States.{no_id, node_id_of, port_id_of}
use Rattle.iox_tables.specs.HubStates.Tables.{PoolState, SlotState, no_slot, owner_of, pool_at, slot_at, slots_of}
use Rattle.iox_slots.specs.Pools.{has_slot, with_pool, with_slot}
use Rattle.iox_slots.specs.Slots.{slot_in, with_slot_of}
use Rattle.iox_slots.proofs.ListLemmas.{get_set}

-- ---- what is in each place

-- the pool in each place after a change of one
pub pool_after : (f : PoolState → PoolState) (pools : List (Option PoolState)) (P Q : ℕ)
    → pool_at (with_pool f pools P) Q ≡ (if P == Q then option_map f (pool_at pools Q) else pool_at pools Q)
pool_after f pools P Q = over (slice_get pools P) refl
  where
    none : (b : Bool) → (P == Q) ≡ b → slice_get pools P ≡ None → pool_at pools Q ≡ (if b then option_map f (pool_at pools Q) else pool_at pools Q)
    none true e at =
        let gone : pool_at pools Q ≡ None = ap (pool_at pools) (sym (eqb-true P Q e)) ∙ ap (λ (o : Option (Option PoolState)). option_map_or (λ p. p) o None) at in
        gone ∙ sym (ap (λ (o : Option PoolState). option_map f o) gone)
    none false e at = refl

    some : (o : Option PoolState) (b : Bool) → (P == Q) ≡ b → slice_get pools P ≡ Some o
        → option_map_or (λ p. p) (if b then Some (option_map f o) else slice_get pools Q) None ≡ (if b then option_map f (pool_at pools Q) else pool_at pools Q)
    some o true e at =
        let here : pool_at pools Q ≡ o = ap (pool_at pools) (sym (eqb-true P Q e)) ∙ ap (λ (p : Option (Option PoolState)). option_map_or (λ q. q) p None) at in
        sym (ap (λ (p : Option PoolState). option_map f p) here)
    some o false e at = refl

    over : (o : Option (Option PoolState)) → slice_get pools P ≡ o
        → pool_at (option_map_or (λ p. slice_set pools P (option_map f p)) o pools) Q ≡ (if P == Q then option_map f (pool_at pools Q) else pool_at pools Q)
    over None at = none (P == Q) refl at
    over (Some o) at = ap (λ (p : Option (Option PoolState)). option_map_or (λ q. q) p None) (get_set pools P Q o (option_map f o) at) ∙ some o (P == Q) refl at

-- whatever is said of a pool that no change of a slot changes stays in each place
pub said_of_pools : {A : Type 0} (g : PoolState → A) (none : A) (f : SlotState → SlotState) (pools : List (Option PoolState)) (P k Q : ℕ)
    → ((p : PoolState) → g (with_slot_of f p k) ≡ g p)
    → option_map_or g (pool_at (with_slot f pools P k) Q) none ≡ option_map_or g (pool_at pools Q) none
said_of_pools g none f pools P k Q same =
    ap (λ (o : Option PoolState). option_map_or g o none) (pool_after (λ p. with_slot_of f p k) pools P Q) ∙ over (P == Q) (pool_at pools Q)
  where
    over : (b : Bool) (o : Option PoolState) → option_map_or g (if b then option_map (λ p. with_slot_of f p k) o else o) none ≡ option_map_or g o none
    over true None = refl
    over true (Some p) = same p
    over false o = refl

-- a change of a slot leaves the rest of its pool
port_stays : (f : SlotState → SlotState) (k : ℕ) (p : PoolState) → (with_slot_of f p k).port ≡ p.port
port_stays f k p = over (slice_get p.slots k)
  where
    over : (o : Option SlotState) → (option_map_or (λ s. record p { slots = slice_set p.slots k (f s) }) o p).port ≡ p.port
    over None = refl
    over (Some s) = refl

node_id_stays : (f : SlotState → SlotState) (k : ℕ) (p : PoolState) → (with_slot_of f p k).node_id ≡ p.node_id
node_id_stays f k p = over (slice_get p.slots k)
  where
    over : (o : Option SlotState) → (option_map_or (λ s. record p { slots = slice_set p.slots k (f s) }) o p).node_id ≡ p.node_id
    over None = refl
    over (Some s) = refl

port_id_stays : (f : SlotState → SlotState) (k : ℕ) (p : PoolState) → (with_slot_of f p k).port_id ≡ p.port_id
port_id_stays f k p = over (slice_get p.slots k)
  where
    over : (o : Option SlotState) → (option_map_or (λ s. record p { slots = slice_set p.slots k (f s) }) o p).port_id ≡ p.port_id
    over None = refl
    over (Some s) = refl

size_stays : (f : SlotState → SlotState) (k : ℕ) (p : PoolState) → length (with_slot_of f p k).slots ≡ length p.slots
size_stays f k p = over (slice_get p.slots k)
  where
    over : (o : Option SlotState) → length (option_map_or (λ s. record p { slots = slice_set p.slots k (f s) }) o p).slots ≡ length p.slots
    over None = refl
    over (Some s) = length-set p.slots k (f s)

-- no change of a slot changes whose pools they are
pub owners_stay : (f : SlotState → SlotState) (pools : List (Option PoolState)) (P k Q : ℕ) → owner_of (with_slot f pools P k) Q ≡ owner_of pools Q
owners_stay f pools P k Q = said_of_pools (λ p. p.port) 0 f pools P k Q (port_stays f k)

pub node_ids_stay : (f : SlotState → SlotState) (pools : List (Option PoolState)) (P k Q : ℕ) → node_id_of (with_slot f pools P k) Q ≡ node_id_of pools Q
node_ids_stay f pools P k Q = said_of_pools (λ p. p.node_id) no_id f pools P k Q (node_id_stays f k)

pub port_ids_stay : (f : SlotState → SlotState) (pools : List (Option PoolState)) (P k Q : ℕ) → port_id_of (with_slot f pools P k) Q ≡ port_id_of pools Q
port_ids_stay f pools P k Q = said_of_pools (λ p. p.port_id) no_id f pools P k Q (port_id_stays f k)

-- nor which places have pools
pub pools_stay : (f : SlotState → SlotState) (pools : List (Option PoolState)) (P k Q : ℕ) → is_some (pool_at (with_slot f pools P k) Q) ≡ is_some (pool_at pools Q)
pools_stay f pools P k Q = ap (λ (o : Option PoolState). is_some o) (pool_after (λ p. with_slot_of f p k) pools P Q) ∙ over (P == Q) (pool_at pools Q)
  where
    over : (b : Bool) (o : Option PoolState) → is_some (if b then option_map (λ p. with_slot_of f p k) o else o) ≡ is_some o
    over true None = refl
    over true (Some p) = refl
    over false o = refl

-- ---- what is in each slot

-- the slots after a change of one; the same where there is no such slot
abbrev pub changed_slots : (SlotState → SlotState) → List SlotState → ℕ → List SlotState
changed_slots f ss k = option_map_or (λ s. slice_set ss k (f s)) (slice_get ss k) ss

slots_of_one : (f : SlotState → SlotState) (k : ℕ) (p : PoolState) → (with_slot_of f p k).slots ≡ changed_slots f p.slots k
slots_of_one f k p = over (slice_get p.slots k)
  where
    over : (o : Option SlotState) → (option_map_or (λ s. record p { slots = slice_set p.slots k (f s) }) o p).slots ≡ option_map_or (λ s. slice_set p.slots k (f s)) o p.slots
    over None = refl
    over (Some s) = refl

pub slots_after : (f : SlotState → SlotState) (pools : List (Option PoolState)) (P k Q : ℕ)
    → slots_of (with_slot f pools P k) Q ≡ (if P == Q then changed_slots f (slots_of pools Q) k else slots_of pools Q)
slots_after f pools P k Q = ap (λ (o : Option PoolState). option_map_or (λ p. p.slots) o []) (pool_after (λ p. with_slot_of f p k) pools P Q) ∙ over (P == Q) (pool_at pools Q)
  where
    over : (b : Bool) (o : Option PoolState)
        → option_map_or (λ p. p.slots) (if b then option_map (λ p. with_slot_of f p k) o else o) []
        ≡ (if b then changed_slots f (option_map_or (λ p. p.slots) o []) k else option_map_or (λ p. p.slots) o [])
    over true None = refl
    over true (Some p) = slots_of_one f k p
    over false o = refl

-- the number of slots stays
pub sizes_stay : (f : SlotState → SlotState) (pools : List (Option PoolState)) (P k Q : ℕ) → length (slots_of (with_slot f pools P k) Q) ≡ length (slots_of pools Q)
sizes_stay f pools P k Q =
    ap (λ (o : Option PoolState). length (option_map_or (λ p. p.slots) o [])) (pool_after (λ p. with_slot_of f p k) pools P Q) ∙ over (P == Q) (pool_at pools Q)
  where
    over : (b : Bool) (o : Option PoolState)
        → length (option_map_or (λ p. p.slots) (if b then option_map (λ p. with_slot_of f p k) o else o) []) ≡ length (option_map_or (λ p. p.slots) o [])
    over true None = refl
    over true (Some p) = size_stays f k p
    over false o = refl

not_within : (ss : List SlotState) (k : ℕ) → slice_get ss k ≡ None → nat_lt k (length ss) ≡ false
not_within [] k e = le-ltb k 0 (omega arith)
not_within (s ∷ ss) zero e = absurd (none-some s (sym e))
not_within (s ∷ ss) (suc k) e =
    let past : length ss ≤ k = ltb-false k (length ss) (not_within ss k e) in
    le-ltb (suc k) (length (s ∷ ss)) (omega (arith, past))

one_slot_after : (f : SlotState → SlotState) (ss : List SlotState) (k j : ℕ)
    → slot_in (changed_slots f ss k) j ≡ (if (k == j) && nat_lt k (length ss) then f (slot_in ss j) else slot_in ss j)
one_slot_after f ss k j = over (slice_get ss k) refl
  where
    past : (b c : Bool) → c ≡ false → slot_in ss j ≡ (if b && c then f (slot_in ss j) else slot_in ss j)
    past true true e = absurd (true≢false e)
    past true false e = refl
    past false c e = refl

    some : (s : SlotState) (b c : Bool) → (k == j) ≡ b → c ≡ true → slice_get ss k ≡ Some s
        → option_map_or (λ x. x) (if b then Some (f s) else slice_get ss j) no_slot ≡ (if b && c then f (slot_in ss j) else slot_in ss j)
    some s true true e t at =
        let here : slot_in ss j ≡ s = ap (slot_in ss) (sym (eqb-true k j e)) ∙ ap (λ (o : Option SlotState). option_map_or (λ x. x) o no_slot) at in
        sym (ap f here)
    some s true false e t at = absurd (true≢false (sym t))
    some s false c e t at = refl

    over : (o : Option SlotState) → slice_get ss k ≡ o
        → slot_in (option_map_or (λ s. slice_set ss k (f s)) o ss) j ≡ (if (k == j) && nat_lt k (length ss) then f (slot_in ss j) else slot_in ss j)
    over None at = past (k == j) (nat_lt k (length ss)) (not_within ss k at)
    over (Some s) at =
        ap (λ (o : Option SlotState). option_map_or (λ x. x) o no_slot) (get_set ss k j s (f s) at)
        ∙ some s (k == j) (nat_lt k (length ss)) refl (lt-ltb k (length ss) (slice_get_within ss k s at)) at

-- what is in each slot after a change of one
pub slot_after : (f : SlotState → SlotState) (pools : List (Option PoolState)) (P k Q j : ℕ)
    → slot_at (with_slot f pools P k) Q j ≡ (if (P == Q) && (k == j) && has_slot pools P k then f (slot_at pools Q j) else slot_at pools Q j)
slot_after f pools P k Q j = ap (λ (ss : List SlotState). slot_in ss j) (slots_after f pools P k Q) ∙ over (P == Q) refl
  where
    over : (b : Bool) → (P == Q) ≡ b
        → slot_in (if b then changed_slots f (slots_of pools Q) k else slots_of pools Q) j
        ≡ (if b && (k == j) && has_slot pools P k then f (slot_at pools Q j) else slot_at pools Q j)
    over true e =
        one_slot_after f (slots_of pools Q) k j
        ∙ ap (λ (R : ℕ). if (k == j) && has_slot pools R k then f (slot_at pools Q j) else slot_at pools Q j) (sym (eqb-true P Q e))
    over false e = refl
