-- The worked client has one desk and nothing in use as the wire opens.
use Rattle.std.specs.Prelude.{nat_lt, ◌||◌, ◌<◌, replicate, slice_index}
use Rattle.std.specs.List.{range_with_len}
use Rattle.std.proofs.Common.{◌≡◌, ℕ, true, false, ◌==◌, ◌&&◌, zero, suc, [], ◌∷◌, refl, sym, subst, arith}
use Rattle.iox_model.specs.Messages.{request_way}
use Rattle.iox_wire_locals.specs.WorkedCalls.{fresh}
use Rattle.iox_wire_locals.specs.WorkedWires.{fresh_desk, ones}
use Rattle.iox_wire_pools.specs.Uses.{UsesAreCounted}
use Rattle.iox_wire_pools.specs.WorkedUses.{RequestsAreUsedTwice, UnusedSlotsAreFreedTwice, WorkedUsesAreCounted}

-- the four slots are those below four
below_four : (k : ℕ) → ((0 == k) || ((1 == k) || ((2 == k) || ((3 == k) || false)))) ≡ (nat_lt k 4 && true)
below_four k = grind (arith)

-- all words are 0
told : (k : ℕ) → k < 4 → slice_index (replicate 4 0) k ≡ 0
told zero lt = refl
told (suc zero) lt = refl
told (suc (suc zero)) lt = refl
told (suc (suc (suc zero))) lt = refl
told (suc (suc (suc (suc k)))) lt = absurd (off k lt)
  where
    off : (k : ℕ) → suc (suc (suc (suc k))) < 4 → ⊥
    off k lt = omega (arith, lt)

counted : UsesAreCounted fresh.client 0 4
counted = record {
  desk = fresh_desk 0 4 (range_with_len 0 4) (request_way 0 1 ∷ []);
  there = refl;
  ways = (refl, tt);
  counts = record { words = refl; told = told; within = λ slot le. refl; free_once = (refl, (refl, (refl, (refl, tt)))); free = below_four };
}

pub worked_uses_are_counted : WorkedUsesAreCounted
worked_uses_are_counted port mine = subst (λ k. UsesAreCounted fresh.client k (ones.port k).pool) (sym mine.1) counted

pub requests_are_used_twice : RequestsAreUsedTwice
requests_are_used_twice = (refl, refl, refl, refl)

pub unused_slots_are_freed_twice : UnusedSlotsAreFreedTwice
unused_slots_are_freed_twice = (refl, refl)
