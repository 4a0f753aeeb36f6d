-- For crates above: as one more or one less has a slot, pools are the same but for holders.
use Rattle.std.specs.Prelude.{◌≡◌, ℕ, ◌+◌, ◌-◌, ◌<◌, Bool, true, false, ◌&&◌, if◌then◌else◌, ◌==◌, List, Option, Some, None, slice_get, slice_set, refl}
use Rattle.std.specs.Option.{option_map, option_map_or}
use Rattle.std.proofs.Common.{sym, ap, ap₂, ◌∙◌, arith, eqb-true}
use Rattle.iox_tables.specs.HubStates.Tables.{PoolState, SlotState, slot_at}
use Rattle.iox_tables.specs.HubBooks.Keeps.{bare_pool, bare_pools, bare_slot}
use Rattle.iox_tables.proofs.HubBooks.Frames.{map_set}
use Rattle.iox_slots.specs.Pools.{with_slot}
use Rattle.iox_slots.specs.Slots.{held, let_go, with_slot_of}
use Rattle.iox_slots.proofs.CallerLemmas.{holders_let_go, one_at}

module _ (f : SlotState → SlotState) (keeps : (s : SlotState) → bare_slot (f s) ≡ bare_slot s) where
  pool_stays : (p : PoolState) (k : ℕ) → bare_pool p ≡ bare_pool (with_slot_of f p k)
  pool_stays p k = step (slice_get p.slots k) refl
    where
      step : (o : Option SlotState) → slice_get p.slots k ≡ o → bare_pool p ≡ bare_pool (option_map_or (λ s. record p { slots = slice_set p.slots k (f s) }) o p)
      step None at = refl
      step (Some s) at = ap (λ ss. record p { slots = ss }) (sym (map_set bare_slot p.slots k s (f s) at (keeps s)))

  -- a change of one slot that keeps all but its holders
  pub pools_stay : (pools : List (Option PoolState)) (place k : ℕ) → bare_pools pools ≡ bare_pools (with_slot f pools place k)
  pools_stay pools place k = step (slice_get pools place) refl
    where
      inside : (o : Option PoolState) → option_map bare_pool (option_map (λ p. with_slot_of f p k) o) ≡ option_map bare_pool o
      inside None = refl
      inside (Some p) = ap (λ q. Some q) (sym (pool_stays p k))

      step : (o : Option (Option PoolState)) → slice_get pools place ≡ o
          → bare_pools pools ≡ bare_pools (option_map_or (λ q. slice_set pools place (option_map (λ p. with_slot_of f p k) q)) o pools)
      step None at = refl
      step (Some q) at = sym (map_set (option_map bare_pool) pools place q (option_map (λ p. with_slot_of f p k) q) at (inside q))

-- one more has a slot
pub held_bare : (pools : List (Option PoolState)) (place k : ℕ) → bare_pools pools ≡ bare_pools (with_slot held pools place k)
held_bare = pools_stay held (λ s. refl)

-- one less has a slot
pub let_go_bare : (pools : List (Option PoolState)) (place k : ℕ) → bare_pools pools ≡ bare_pools (with_slot let_go pools place k)
let_go_bare = pools_stay let_go (λ s. refl)

-- where somebody had it, one less has it
pub let_go_one : (pools : List (Option PoolState)) (P k : ℕ) → 0 < (slot_at pools P k).holders → (Q j : ℕ)
    → (slot_at (with_slot let_go pools P k) Q j).holders + one_at P k Q j ≡ (slot_at pools Q j).holders
let_go_one pools P k some Q j = step (P == Q) (k == j) refl refl
  where
    less : (a b : ℕ) → a ≡ b - 1 → 0 < b → a + 1 ≡ b
    less a b e le = omega (arith, e, le)

    same : (a b c : ℕ) → a ≡ b - c → c ≡ 0 → a + c ≡ b
    same a b c e z = omega (arith, e, z)

    off : (a b : Bool) → (P == Q) ≡ a → (k == j) ≡ b → (a && b) ≡ false → (slot_at (with_slot let_go pools P k) Q j).holders + one_at P k Q j ≡ (slot_at pools Q j).holders
    off a b e f none = same _ _ _ (holders_let_go pools P k Q j) (ap₂ (λ (x y : Bool). if x && y then 1 else 0) e f ∙ ap (λ (x : Bool). if x then 1 else 0) none)

    step : (a b : Bool) → (P == Q) ≡ a → (k == j) ≡ b → (slot_at (with_slot let_go pools P k) Q j).holders + one_at P k Q j ≡ (slot_at pools Q j).holders
    step true true e f =
        let one : one_at P k Q j ≡ 1 = ap₂ (λ (x y : Bool). if x && y then 1 else 0) e f in
        let here : (slot_at pools P k).holders ≡ (slot_at pools Q j).holders = ap₂ (λ a b. (slot_at pools a b).holders) (eqb-true P Q e) (eqb-true k j f) in
        let gone = holders_let_go pools P k Q j in omega (arith, one, here, gone, some)
    step true false e f = off true false e f refl
    step false b e f = off false b e f refl
