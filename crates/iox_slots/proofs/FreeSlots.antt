-- Where some slot of a pool is free, it can be named.
use Rattle.std.specs.Prelude.{◌≡◌, ℕ, suc, ◌<◌, Bool, true, false, if◌then◌else◌, ◌==◌, List, [], ◌∷◌, filter, length, Option, slice_get, refl}
use Rattle.std.specs.Option.{option_map_or}
use Rattle.std.proofs.Common.{sym, subst, arith, eqb-true}
use Rattle.std.proofs.lemmas.List.Sums.{length-filter}
use Rattle.iox_tables.specs.HubStates.Tables.{PoolState, SlotState, no_slot, slot_at, slots_of, is_free}
use Rattle.iox_slots.specs.Pools.{free_count}

-- A slot of that list is free.
abbrev SomeFree : List SlotState → Type 0
SomeFree ss = (k : ℕ) × (k < length ss) × ((option_map_or (λ s. s) (slice_get ss k) no_slot).holders ≡ 0)

some_free : (ss : List SlotState) → 0 < length (filter is_free ss) → SomeFree ss
some_free [] e = absurd (omega (arith, e))
some_free (s ∷ ss) e = step (s.holders == 0) refl e (some_free ss)
  where
    step : (b : Bool) → (s.holders == 0) ≡ b → 0 < length (if b then s ∷ filter is_free ss else filter is_free ss) → (0 < length (filter is_free ss) → SomeFree ss) → SomeFree (s ∷ ss)
    step true is e rest = (0, omega arith, eqb-true s.holders 0 is)
    step false is e rest = let r = rest e in (suc r.0, let low = r.1 in omega (arith, low), r.2)

pub free_slot : (pools : List (Option PoolState)) (pool : ℕ) → 0 < free_count pools pool → (k : ℕ) × (k < length (slots_of pools pool)) × ((slot_at pools pool k).holders ≡ 0)
free_slot pools pool some = some_free (slots_of pools pool) (subst (λ n. 0 < n) (sym (length-filter is_free (slots_of pools pool))) some)
