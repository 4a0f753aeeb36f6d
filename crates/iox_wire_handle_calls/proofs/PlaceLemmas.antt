-- Where the port of a number stands, and that what stands in its slots is in memory.
use Rattle.std.specs.Prelude.{find, nat_lt, slice_get, slice_index, zero, suc, IsSomeAnd}
use Rattle.std.specs.List.{position, position_or_len}
use Rattle.std.specs.Option.{option_map_or}
use Rattle.std.proofs.Common.{◌≡◌, ℕ, ◌<◌, ◌≤◌, ◌==◌, Bool, true, false, cond, if◌then◌else◌, eqb-true, List, [], ◌∷◌, map, length, Option, Some, None, refl, ap, sym, subst, ◌∙◌, true≢false, arith}
use Rattle.std.proofs.lemmas.Bool.{ltb-false}
use Rattle.std.proofs.lemmas.List.Folds.{find_at}
use Rattle.iox_wire_stops.specs.PlanPort.{PlanPort}
use Rattle.iox_wire_stops.specs.WirePlan.{WirePlan}
use Rattle.iox_wire_stops.specs.Plans.{number_at}
use Rattle.iox_wire_stops.proofs.PairLemmas.{index_there}

-- ---- found by its number

which : (b : Bool) (k i : ℕ) → cond b (Some k) None ≡ Some i → k ≡ i
which true k i is = ap (λ (o : Option ℕ). option_map_or (λ n. n) o 0) is
which false k i is = absurd (true≢false (sym (ap (λ (o : Option ℕ). option_map_or (λ n. true) o false) is)))

-- what is so of the first that passes, is so of the one at its place
pub at_place : (P : PlanPort → Type 0) (t : PlanPort → Bool) (ps : List PlanPort) (i : ℕ) → position t ps ≡ Some i
    → IsSomeAnd (find t ps) P → IsSomeAnd (slice_get ps i) P
at_place P t ps i is some =
    subst (λ (o : Option PlanPort). IsSomeAnd o P)
    (find_at t ps ∙ ap (λ k. slice_get ps k) (which (nat_lt (position_or_len t ps) (length ps)) (position_or_len t ps) i is)) some

-- where one passes, there is a place
pub has_place : (P : PlanPort → Type 0) (t : PlanPort → Bool) (ps : List PlanPort) → position t ps ≡ None → IsSomeAnd (find t ps) P → ⊥
has_place P t ps is some =
    let low : position_or_len t ps < length ps =
    index_there PlanPort P ps (position_or_len t ps) (subst (λ (o : Option PlanPort). IsSomeAnd o P) (find_at t ps) some) in
    by_case (nat_lt (position_or_len t ps) (length ps)) refl is low
  where
    by_case : (b : Bool) → nat_lt (position_or_len t ps) (length ps) ≡ b → cond b (Some (position_or_len t ps)) None ≡ None
        → position_or_len t ps < length ps → ⊥
    by_case true e none low = true≢false (ap (λ (o : Option ℕ). option_map_or (λ n. true) o false) none)
    by_case false e none low = let h : length ps ≤ position_or_len t ps = ltb-false (position_or_len t ps) (length ps) e in omega (arith, h, low)

-- it has that number
found_number : (n : ℕ) (ps : List PlanPort) (q : PlanPort) → find (λ r. r.number == n) ps ≡ Some q → q.number ≡ n
found_number n [] q is = absurd (true≢false (sym (ap (λ (o : Option PlanPort). option_map_or (λ r. true) o false) is)))
found_number n (r ∷ ps) q is = by_case (r.number == n) refl is (found_number n ps q)
  where
    by_case : (b : Bool) → (r.number == n) ≡ b → (if b then Some r else find (λ r. r.number == n) ps) ≡ Some q
        → (find (λ r. r.number == n) ps ≡ Some q → q.number ≡ n) → q.number ≡ n
    by_case true same is rest =
        sym (ap (λ (o : Option PlanPort). option_map_or (λ r. r.number) o q.number) is) ∙ eqb-true r.number n same
    by_case false other is rest = rest is

number_of_found : (P : PlanPort → Type 0) (n : ℕ) (ps : List PlanPort) → IsSomeAnd (find (λ r. r.number == n) ps) P
    → option_map_or (λ r. r.number) (find (λ r. r.number == n) ps) n ≡ n
number_of_found P n ps some = by_case (find (λ r. r.number == n) ps) refl
  where
    by_case : (o : Option PlanPort) → find (λ r. r.number == n) ps ≡ o → option_map_or (λ r. r.number) o n ≡ n
    by_case None is = refl
    by_case (Some q) is = found_number n ps q is

index_map : (ps : List PlanPort) (i d : ℕ) → i < length ps
    → slice_index (map (λ r. r.number) ps) i ≡ option_map_or (λ r. r.number) (slice_get ps i) d
index_map [] i d low = absurd (omega (arith, low))
index_map (p ∷ ps) zero d low = refl
index_map (p ∷ ps) (suc i) d low = index_map ps i d (omega (arith, low))

pub number_there : (P : PlanPort → Type 0) (n : ℕ) (plan : WirePlan) (i : ℕ) → position (λ q. q.number == n) plan.ports.items ≡ Some i
    → IsSomeAnd (find (λ q. q.number == n) plan.ports.items) P → number_at plan i ≡ n
number_there P n plan i is some =
    index_map plan.ports.items i n (index_there PlanPort P plan.ports.items i (at_place P (λ q. q.number == n) plan.ports.items i is some))
    ∙ ap (λ (o : Option PlanPort). option_map_or (λ r. r.number) o n)
    (ap (λ k. slice_get plan.ports.items k)
    (sym (which (nat_lt (position_or_len (λ q. q.number == n) plan.ports.items) (length plan.ports.items)) (position_or_len (λ q. q.number == n) plan.ports.items) i is))
    ∙ sym (find_at (λ q. q.number == n) plan.ports.items))
    ∙ number_of_found P n plan.ports.items some
