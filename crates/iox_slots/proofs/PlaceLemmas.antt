-- What callers may cite: what is in each place and each slot after a pool comes or goes.
use Rattle.std.specs.Prelude.{◌≡◌, ◌<◌, ℕ, zero, suc, Bool, true, false, ◌&&◌, if◌then◌else◌, ◌==◌, List, [], ◌∷◌, ◌++◌, length, replicate, Option, Some, None, is_none, position, slice_get, slice_set, slice_index_or, refl}
use Rattle.std.specs.List.{list_all}
use Rattle.std.specs.Option.{option_map_or}
use Rattle.std.proofs.Common.{sym, ap, ◌∙◌, arith, eqb-true, true≢false}
use Rattle.std.proofs.lemmas.List.Quantifiers.{position-Some}
use Rattle.std.proofs.lemmas.Option.{slice_get_past}
use Rattle.iox_types.specs.declared.identifiers.system_id.UniqueSystemId.{UniqueSystemId}
use Rattle.iox_tables.specs.HubStates.Tables.{PoolState, SlotState, no_slot, pool_at, slot_at, slots_of, is_free}
use Rattle.iox_slots.specs.Pools.{is_idle, place_for_one, with_one_more, without_pool}
use Rattle.iox_slots.specs.Slots.{new_pool, slot_in}
use Rattle.iox_slots.proofs.ListLemmas.{get_push, get_set, get_set_past}

-- what is in a place, if anything
abbrev pub in_place : Option (Option PoolState) → Option PoolState
in_place o = option_map_or (λ p. p) o None

-- what a place has when it is set
set_place : (pools : List (Option PoolState)) (P Q : ℕ) (o x : Option PoolState) → slice_get pools P ≡ Some o
    → pool_at (slice_set pools P x) Q ≡ (if P == Q then x else pool_at pools Q)
set_place pools P Q o x at = ap in_place (get_set pools P Q o x at) ∙ over (P == Q)
  where
    over : (b : Bool) → in_place (if b then Some x else slice_get pools Q) ≡ (if b then x else pool_at pools Q)
    over true = refl
    over false = refl

-- ---- a pool goes

-- the pool in each place
pub removed_pool : (pools : List (Option PoolState)) (P Q : ℕ) → pool_at (without_pool pools P) Q ≡ (if P == Q then None else pool_at pools Q)
removed_pool pools P Q = over (slice_get pools P) refl
  where
    past : (b : Bool) → (P == Q) ≡ b → slice_get pools P ≡ None → pool_at pools Q ≡ (if b then None else pool_at pools Q)
    past true e at = ap (pool_at pools) (sym (eqb-true P Q e)) ∙ ap in_place at
    past false e at = refl

    over : (o : Option (Option PoolState)) → slice_get pools P ≡ o → pool_at (without_pool pools P) Q ≡ (if P == Q then None else pool_at pools Q)
    over None at = ap in_place (get_set_past pools P Q None at) ∙ past (P == Q) refl at
    over (Some o) at = set_place pools P Q o None at

-- each slot
pub removed_slot : (pools : List (Option PoolState)) (P Q j : ℕ) → slot_at (without_pool pools P) Q j ≡ (if P == Q then no_slot else slot_at pools Q j)
removed_slot pools P Q j = ap (λ (o : Option PoolState). slot_in (option_map_or (λ p. p.slots) o []) j) (removed_pool pools P Q) ∙ over (P == Q)
  where
    over : (b : Bool) → slot_in (option_map_or (λ p. p.slots) (if b then None else pool_at pools Q) []) j ≡ (if b then no_slot else slot_at pools Q j)
    over true = refl
    over false = refl

idle_slot : (ss : List SlotState) (j : ℕ) → list_all is_free ss ≡ true → (slot_in ss j).holders ≡ 0
idle_slot [] j e = refl
idle_slot (s ∷ ss) zero e = over (is_free s) refl e
  where
    over : (b : Bool) → is_free s ≡ b → (b && list_all is_free ss) ≡ true → s.holders ≡ 0
    over true free e = eqb-true s.holders 0 free
    over false free e = absurd (true≢false (sym e))
idle_slot (s ∷ ss) (suc j) e = idle_slot ss j (over (is_free s) e)
  where
    over : (b : Bool) → (b && list_all is_free ss) ≡ true → list_all is_free ss ≡ true
    over true e = e
    over false e = absurd (true≢false (sym e))

-- nobody has a slot of an idle pool
pub idle_holders : (pools : List (Option PoolState)) (P j : ℕ) → is_idle pools P ≡ true → (slot_at pools P j).holders ≡ 0
idle_holders pools P j idle = idle_slot (slots_of pools P) j idle

-- as an idle pool goes, as many have each slot as before
pub removed_idle : (pools : List (Option PoolState)) (P Q j : ℕ) → is_idle pools P ≡ true
    → (slot_at (without_pool pools P) Q j).holders ≡ (slot_at pools Q j).holders
removed_idle pools P Q j idle = ap (λ (s : SlotState). s.holders) (removed_slot pools P Q j) ∙ over (P == Q) refl
  where
    over : (b : Bool) → (P == Q) ≡ b → (if b then no_slot else slot_at pools Q j).holders ≡ (slot_at pools Q j).holders
    over true e = sym (ap (λ (R : ℕ). (slot_at pools R j).holders) (sym (eqb-true P Q e)) ∙ idle_holders pools P j idle)
    over false e = refl

-- ---- a pool comes

vacant_there : (pools : List (Option PoolState)) (i : ℕ) → i < length pools → is_none (slice_index_or pools i None) ≡ true → slice_get pools i ≡ Some None
vacant_there [] i within e = absurd (omega arith)
vacant_there (None ∷ pools) zero within e = refl
vacant_there (Some p ∷ pools) zero within e = absurd (true≢false (sym e))
vacant_there (o ∷ pools) (suc i) within e = vacant_there pools i (omega arith) e

first_vacant : (pools : List (Option PoolState)) (i : ℕ) → position is_none pools ≡ Some i → slice_get pools i ≡ Some None
first_vacant pools i e =
    let at = position-Some is_none pools i None e in
    vacant_there pools i at.0 at.1

-- its place was vacant
pub vacant_place : (pools : List (Option PoolState)) → pool_at pools (place_for_one pools) ≡ None
vacant_place pools = over (position is_none pools) refl
  where
    over : (o : Option ℕ) → position is_none pools ≡ o → pool_at pools (option_map_or (λ place. place) o (length pools)) ≡ None
    over None e = ap in_place (slice_get_past pools (length pools) (omega arith))
    over (Some i) e = ap in_place (first_vacant pools i e)

-- the pool in each place
pub added_pool : (pools : List (Option PoolState)) (p : PoolState) (Q : ℕ)
    → pool_at (with_one_more pools p) Q ≡ (if place_for_one pools == Q then Some p else pool_at pools Q)
added_pool pools p Q = over (position is_none pools) refl
  where
    behind : (b : Bool) → in_place (if b then Some (Some p) else slice_get pools Q) ≡ (if b then Some p else pool_at pools Q)
    behind true = refl
    behind false = refl

    over : (o : Option ℕ) → position is_none pools ≡ o
        → pool_at (option_map_or (λ place. slice_set pools place (Some p)) o (pools ++ Some p ∷ [])) Q
        ≡ (if option_map_or (λ place. place) o (length pools) == Q then Some p else pool_at pools Q)
    over None e = ap in_place (get_push pools (Some p) Q) ∙ behind (length pools == Q)
    over (Some i) e = set_place pools i Q None (Some p) (first_vacant pools i e)

new_slot : (size j : ℕ) → slot_in (replicate size no_slot) j ≡ no_slot
new_slot zero j = refl
new_slot (suc size) zero = refl
new_slot (suc size) (suc j) = new_slot size j

-- each slot: those of the new pool are as if there was none
pub added_slot : (pools : List (Option PoolState)) (port : ℕ) (node_id port_id : UniqueSystemId) (size Q j : ℕ)
    → slot_at (with_one_more pools (new_pool port node_id port_id size)) Q j ≡ slot_at pools Q j
added_slot pools port node_id port_id size Q j =
    ap (λ (o : Option PoolState). slot_in (option_map_or (λ p. p.slots) o []) j) (added_pool pools (new_pool port node_id port_id size) Q)
    ∙ over (place_for_one pools == Q) refl
  where
    over : (b : Bool) → (place_for_one pools == Q) ≡ b
        → slot_in (option_map_or (λ p. p.slots) (if b then Some (new_pool port node_id port_id size) else pool_at pools Q) []) j ≡ slot_at pools Q j
    over true e =
        let none : pool_at pools Q ≡ None = ap (pool_at pools) (sym (eqb-true (place_for_one pools) Q e)) ∙ vacant_place pools in
        new_slot size j ∙ sym (ap (λ (o : Option PoolState). slot_in (option_map_or (λ p. p.slots) o []) j) none)
    over false e = refl
