-- Where no slot is free.
use Rattle.std.specs.Prelude.{◌≡◌, ℕ, suc, ◌&&◌, nat_lt, Bool, true, false, ◌==◌, if◌then◌else◌, List, [], ◌∷◌, filter, length, Option, refl}
use Rattle.std.specs.List.{list_all}
use Rattle.std.proofs.Common.{ap, ◌∙◌, arith}
use Rattle.std.proofs.lemmas.List.Sums.{length-filter}
use Rattle.iox_tables.specs.HubStates.Tables.{PoolState, SlotState, slots_of, is_free}
use Rattle.iox_tables.specs.HubLending.Keeping.{has_holder}
use Rattle.iox_slots.specs.Pools.{free_count}

all_taken : (ss : List SlotState) → length (filter is_free ss) ≡ 0 → list_all has_holder ss ≡ true
all_taken [] e = refl
all_taken (s ∷ ss) e = step (s.holders == 0) refl e (all_taken ss)
  where
    never : (n : ℕ) → suc n ≡ 0 → ⊥
    never n e = omega (arith, e)

    some : (n : ℕ) → (n == 0) ≡ false → nat_lt 0 n ≡ true
    some n e = grind (arith, e)

    step : (b : Bool) → (s.holders == 0) ≡ b → length (if b then s ∷ filter is_free ss else filter is_free ss) ≡ 0
        → (length (filter is_free ss) ≡ 0 → list_all has_holder ss ≡ true) → (has_holder s && list_all has_holder ss) ≡ true
    step true is e rest = absurd (never (length (filter is_free ss)) e)
    step false is e rest = ap (λ (b : Bool). b && list_all has_holder ss) (some s.holders is) ∙ rest e

pub all_have_holders : (pools : List (Option PoolState)) (place : ℕ) → free_count pools place ≡ 0 → list_all has_holder (slots_of pools place) ≡ true
all_have_holders pools place e = all_taken (slots_of pools place) (length-filter is_free (slots_of pools place) ∙ e)
