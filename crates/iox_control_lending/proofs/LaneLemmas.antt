-- The lane of a loan.
use Rattle.std.specs.Prelude.{◌≡◌, ℕ, zero, suc, ◌+◌, ◌<◌, ◌&&◌, Bool, true, false, not, if◌then◌else◌, List, [], ◌∷◌, find, Option, Some, None, refl}
use Rattle.std.specs.List.{list_all, range_with_len}
use Rattle.std.proofs.Common.{sym, ap, subst, ◌∙◌, arith, true≢false}
use Rattle.std.proofs.lemmas.Option.{none-some, same_Some}
use Rattle.iox_model.specs.declared.kind.Role.TheVariants.{Client}
use Rattle.iox_tables.specs.HubStates.Tables.{HubTables, PortState}
use Rattle.iox_tables.specs.HubBooks.Hubs.{AreInOrder}
use Rattle.iox_tables.specs.HubLoans.Counts.{is_lane_taken}
use Rattle.iox_tables.specs.HubLoans.Lenders.{Lender}
use Rattle.iox_tables.specs.HubLending.Choosing.{IsFreeSlot}
use Rattle.iox_tables.proofs.HubLending.Chosen.{free_slots_have_lanes}
use Rattle.iox_control_lending.specs.Lends.{MayBeOn}

-- what is found passes, and is in the range
pub found_passes : (test : ℕ → Bool) (a n k : ℕ) → find test (range_with_len a n) ≡ Some k → (test k ≡ true) × (k < a + n)
found_passes test a zero k e = absurd (none-some k e)
found_passes test a (suc n) k e = step (test a) refl e (found_passes test (a + 1) n k)
  where
    low : (k : ℕ) → a ≡ k → k < a + suc n
    low k is = omega (arith, is)

    more : k < a + 1 + n → k < a + suc n
    more is = omega (arith, is)

    step : (b : Bool) → test a ≡ b → (if b then Some a else find test (range_with_len (a + 1) n)) ≡ Some k
        → (find test (range_with_len (a + 1) n) ≡ Some k → (test k ≡ true) × (k < a + 1 + n)) → (test k ≡ true) × (k < a + suc n)
    step true is at rest = let same : a ≡ k = same_Some a k at in (ap test (sym same) ∙ is, low k same)
    step false is at rest = let r = rest at in (r.0, more r.1)

-- where none is found, all fail
none_found : (test : ℕ → Bool) (xs : List ℕ) → find (λ k. not (test k)) xs ≡ None → list_all test xs ≡ true
none_found test [] e = refl
none_found test (x ∷ xs) e = step (test x) e (none_found test xs)
  where
    step : (b : Bool) → (if not b then Some x else find (λ k. not (test k)) xs) ≡ None
        → (find (λ k. not (test k)) xs ≡ None → list_all test xs ≡ true) → (b && list_all test xs) ≡ true
    step true at rest = rest at
    step false at rest = absurd (none-some x (sym at))

-- while nobody has some slot of a client a lane of it is free
pub has_lane : (t : HubTables) (n slot : ℕ) (p : PortState) → AreInOrder t → IsFreeSlot t n p t.pools slot
    → find (λ k. not (is_lane_taken t p.number k)) (range_with_len 0 p.size) ≡ None → ⊥
has_lane t n slot p order is e = true≢false (sym (none_found (is_lane_taken t p.number) (range_with_len 0 p.size) e) ∙ free_slots_have_lanes t n slot p order is)

not_taken : (b : Bool) → not b ≡ true → b ≡ false
not_taken true e = absurd (true≢false (sym e))
not_taken false e = refl

-- a lane that is found is free
pub found_free : (t : HubTables) (n size lane : ℕ) → find (λ k. not (is_lane_taken t n k)) (range_with_len 0 size) ≡ Some lane
    → (lane < size) × (is_lane_taken t n lane ≡ false)
found_free t n size lane e =
    let found = found_passes (λ k. not (is_lane_taken t n k)) 0 size lane e in
    (within found.1, not_taken (is_lane_taken t n lane) found.0)
  where
    within : lane < 0 + size → lane < size
    within is = omega (arith, is)

-- so there is one
pub some_lane : (t : HubTables) (n slot : ℕ) (p : PortState) → AreInOrder t → IsFreeSlot t n p t.pools slot
    → (lane : ℕ) × (lane < p.size) × (is_lane_taken t p.number lane ≡ false)
some_lane t n slot p order is = by_lane (find (λ k. not (is_lane_taken t p.number k)) (range_with_len 0 p.size)) refl
  where
    by_lane : (o : Option ℕ) → find (λ k. not (is_lane_taken t p.number k)) (range_with_len 0 p.size) ≡ o
        → (lane : ℕ) × (lane < p.size) × (is_lane_taken t p.number lane ≡ false)
    by_lane None none = absurd (has_lane t n slot p order is none)
    by_lane (Some lane) found = let free = found_free t p.number p.size lane found in (lane, free.0, free.1)

-- a client's lane is below its size
pub lane_within : (t : HubTables) (y : Lender) (lane : ℕ) → MayBeOn y.port.role t y lane → y.port.role ≡ Client → lane < y.port.size
lane_within t y lane on role = (subst (λ r. MayBeOn r t y lane) role on).0
