-- A new pool in the first vacant place.
use Rattle.std.specs.Prelude.{◌≡◌, ℕ, suc, ◌+◌, ◌<◌, List, [], ◌∷◌, ◌++◌, length, Option, Some, None, is_none, position, slice_set, refl}
use Rattle.std.specs.List.{position_from}
use Rattle.std.specs.Option.{option_map_or}
use Rattle.std.proofs.Common.{sym, ap, ◌∙◌, arith}
use Rattle.std.proofs.lemmas.Iterator.Adapters.{position_from-zero}
use Rattle.std.proofs.lemmas.Option.{none-some}
use Rattle.iox_tables.specs.HubStates.Tables.{PoolState, pool_at}
use Rattle.iox_slots.specs.Pools.{place_for_one, with_one_more}
use Rattle.iox_tables.specs.HubMaking.FreePools.{IsPut}
use Rattle.iox_tables.proofs.HubMaking.Pooling.{new_pools_are_put}

within : (m : ℕ) (pools : List (Option PoolState)) (i : ℕ) → position_from is_none m pools ≡ Some i → i < m + length pools
within m [] i e = absurd (none-some i e)
within m (None ∷ os) i e = low m i (length os) (ap (λ o. option_map_or (λ k. k) o 0) e)
  where
    low : (a b n : ℕ) → a ≡ b → b < a + suc n
    low a b n h = omega (arith, h)
within m (Some q ∷ os) i e = low i m (length os) (within (m + 1) os i e)
  where
    low : (a b n : ℕ) → a < (b + 1) + n → a < b + suc n
    low a b n h = omega (arith, h)

-- the place is so far on, and nothing is there
at_place : (m : ℕ) (pools : List (Option PoolState))
    → (k : ℕ) × (option_map_or (λ place. place) (position_from is_none m pools) (m + length pools) ≡ m + k) × (pool_at pools k ≡ None)
at_place m [] = (0, refl, refl)
at_place m (None ∷ os) = (0, omega arith, refl)
at_place m (Some q ∷ os) =
    let rest = at_place (m + 1) os in
    (suc rest.0, ap (option_map_or (λ place. place) (position_from is_none (m + 1) os)) (more m (length os)) ∙ rest.1 ∙ sym (more m rest.0), rest.2)
  where
    more : (a b : ℕ) → a + suc b ≡ (a + 1) + b
    more a b = omega arith

pub vacant : (pools : List (Option PoolState)) → pool_at pools (place_for_one pools) ≡ None
vacant pools =
    let place = at_place 0 pools in
    ap (pool_at pools)
    (ap (λ o. option_map_or (λ k. k) o (length pools)) (position_from-zero is_none pools)
    ∙ ap (option_map_or (λ k. k) (position_from is_none 0 pools)) (none (length pools)) ∙ place.1 ∙ sym (none place.0))
    ∙ place.2
  where
    none : (k : ℕ) → k ≡ 0 + k
    none k = omega arith

pub one_more_is_put : (pools : List (Option PoolState)) (pool : PoolState) → IsPut pools (place_for_one pools) pool (with_one_more pools pool)
one_more_is_put pools pool = step (position is_none pools) (sym (position_from-zero is_none pools))
  where
    step : (o : Option ℕ) → position_from is_none 0 pools ≡ o
        → IsPut pools (option_map_or (λ place. place) o (length pools)) pool (option_map_or (λ place. slice_set pools place (Some pool)) o (pools ++ Some pool ∷ []))
    step None e = (new_pools_are_put pools pool).behind
    step (Some i) e = (new_pools_are_put pools pool).inside i (low (within 0 pools i e))
      where
        low : {n : ℕ} → i < 0 + n → i < n
        low h = omega (arith, h)
