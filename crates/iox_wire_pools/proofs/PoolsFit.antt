-- A pool whose uses are counted fits.
use Rattle.std.specs.Prelude.{◌&&◌, ◌<◌, ◌≤◌, nat_lt}
use Rattle.std.specs.Option.{option_map_or}
use Rattle.std.proofs.Common.{◌≡◌, ℕ, Bool, true, false, [], refl, ap, sym, subst, ◌∙◌, arith}
use Rattle.iox_model.specs.Maps.{has_number, AreDistinct}
use Rattle.iox_wire_locals.specs.declared.seat.Seat.{Seat}
use Rattle.iox_wire_locals.specs.declared.table.Desk.{Desk}
use Rattle.iox_wire_locals.specs.Known.{free_slots}
use Rattle.iox_wire_laws.specs.WireKeeping.UsedSlots.{slots_used}
use Rattle.iox_wire_pools.specs.Uses.{CountsUses, UsesAreCounted}
use Rattle.iox_wire_pools.specs.UsesLaws.{CountedPoolsFit}
use Rattle.iox_wire_pools.proofs.Counting.{none_used, used}

-- what is in use so often is a slot of the pool
pub within_pool : (pool : ℕ) (uses : ℕ → ℕ) (d : Desk) → CountsUses pool uses d → (slot : ℕ) → 1 ≤ uses slot → slot < pool
within_pool pool uses d counts slot some = by_case (nat_lt slot pool) refl
  where
    below : (a b : ℕ) → nat_lt a b ≡ true → a < b
    below a b e = grind (arith)

    beyond : (a b : ℕ) → nat_lt a b ≡ false → b ≤ a
    beyond a b e = grind (arith)

    never : (k : ℕ) → k ≡ 0 → 1 ≤ k → ⊥
    never k e f = omega (arith, e, f)

    by_case : (b : Bool) → nat_lt slot pool ≡ b → slot < pool
    by_case true is = below slot pool is
    by_case false is = absurd (never (uses slot) (counts.within slot (beyond slot pool is)) some)

free_is : (x : Seat) (port pool : ℕ) (counted : UsesAreCounted x port pool) → free_slots x port ≡ counted.desk.free
free_is x port pool counted = ap (λ d. option_map_or (λ (e : Desk). e.free) d []) counted.there

pub counted_pools_fit : CountedPoolsFit
counted_pools_fit held x port pool counted apart = record {
  within = within;
  apart = λ i j here there same. apart i j (within i here) (within j there) same;
  free_once = subst AreDistinct (sym (free_is x port pool counted)) counted.counts.free_once;
  free = λ slot. ap (has_number slot) (free_is x port pool counted) ∙ counted.counts.free slot
      ∙ ap (λ b. nat_lt slot pool && b) (none_used slot (slots_used x port));
}
  where
    within : (slot : ℕ) → has_number slot (slots_used x port) ≡ true → slot < pool
    within slot here = within_pool pool _ counted.desk counted.counts slot (used slot (slots_used x port) here)
