-- Holds and their ends, one slot after another: pools are the same but for holders.
use Rattle.std.specs.Prelude.{◌≡◌, ℕ, ◌+◌, ◌-◌, ◌<◌, Bool, true, false, ◌&&◌, if◌then◌else◌, ◌==◌, List, Option, Some, None, slice_get, slice_set, map, zero, suc, [], ◌∷◌, refl}
use Rattle.std.specs.Option.{option_map, option_map_or}
use Rattle.std.proofs.Common.{sym, ap, ap₂, ◌∙◌, arith, eqb-true}
use Rattle.iox_tables.specs.HubStates.Tables.{PoolState, SlotState, slot_at}
use Rattle.iox_slots.specs.Pools.{with_slot}
use Rattle.iox_slots.specs.Slots.{held, let_go, with_slot_of}
use Rattle.iox_slots.proofs.CallerLemmas.{holders_held, holders_let_go, one_at, taken_is_there}
use Rattle.iox_tables.specs.HubBooks.Keeps.{bare_pool, bare_pools, bare_slot}
use Rattle.iox_hub_delivering.specs.Steps.{LettingGoEndsHandles, with_out}
use Rattle.iox_slots.proofs.BareLemmas.{let_go_bare, let_go_one}

-- ---- the same but for holders

-- nobody, or one less, has what is pushed out
pub out_bare : (pools : List (Option PoolState)) (place : ℕ) (o : Option ℕ) → bare_pools pools ≡ bare_pools (with_out pools place o)
out_bare pools place (Some j) = let_go_bare pools place j
out_bare pools place None = refl

-- ---- how many have each

-- one less has what is pushed out, if anything is
pub out_one : (pools : List (Option PoolState)) (P : ℕ) (o : Option ℕ) → ((j : ℕ) → o ≡ Some j → 0 < (slot_at pools P j).holders) → (Q j : ℕ)
    → (slot_at (with_out pools P o) Q j).holders + (if P == Q then option_map_or (λ i. if i == j then 1 else 0) o 0 else 0) ≡ (slot_at pools Q j).holders
out_one pools P (Some i) some Q j = ap (λ m. (slot_at (with_out pools P (Some i)) Q j).holders + m) (split 1 (P == Q) (i == j)) ∙ let_go_one pools P i (some i refl) Q j
  where
    split : (m : ℕ) (a b : Bool) → (if a then (if b then m else 0) else 0) ≡ (if a && b then m else 0)
    split m true b = refl
    split m false b = refl
out_one pools P None some Q j = none (P == Q)
  where
    none : (b : Bool) → (slot_at pools Q j).holders + (if b then 0 else 0) ≡ (slot_at pools Q j).holders
    none true = omega arith
    none false = omega arith

-- where somebody had it, one more has it
pub held_one : (pools : List (Option PoolState)) (P k : ℕ) → 0 < (slot_at pools P k).holders → (Q j : ℕ)
    → (slot_at (with_slot held pools P k) Q j).holders ≡ (slot_at pools Q j).holders + one_at P k Q j
held_one pools P k some Q j = holders_held pools P k Q j (taken_is_there pools P k some)

pub letting_go_ends_handles : LettingGoEndsHandles
letting_go_ends_handles h pools some = record { same = let_go_bare pools h.pool h.slot; holders = λ pool k. let_go_one pools h.pool h.slot some pool k }
