-- How often a place stands on a lane, before and after each change of the lane.
use Rattle.std.specs.Prelude.{◌≡◌, ℕ, ◌+◌, Bool, true, false, if◌then◌else◌, ◌==◌, List, [], ◌∷◌, ◌++◌, drop, Option, Some, None, slice_get, refl}
use Rattle.std.specs.List.{sum_by}
use Rattle.std.specs.Option.{option_map_or}
use Rattle.std.proofs.Common.{sym, ap, ap₂, ◌∙◌, arith}
use Rattle.std.proofs.lemmas.List.Recursion.{is_sum_by}
use Rattle.iox_lanes.specs.Lanes.{LaneState, delivered, is_at_limit, is_taken, oldest, without_oldest, without_taken}
use Rattle.iox_lanes.specs.Searches.{after_wanted, before_wanted, first_wanted, searched, visited, with_found}
use Rattle.iox_lanes.proofs.CallerLemmas.{taken_sum}
use Rattle.iox_tables.specs.HubStates.Changes.{emptied_lane}
use Rattle.iox_tables.specs.HubStates.Steps.{places_on}
use Rattle.iox_tables.specs.HubBooks.Counts.{lane_count, total}
use Rattle.iox_tables.proofs.HubBooks.Totals.{total-append, total-last}

nothing : 0 ≡ 0 + (0 + 0)
nothing = omega arith

none_more : (n : ℕ) → n ≡ n + 0
none_more n = omega arith

module _ (f : ℕ → ℕ) where
  -- ---- where its places are

  pub on_places : (l : LaneState) → total f (places_on l) ≡ total f l.returned + (total f l.waiting + total f l.taken)
  on_places l =
      let all = total-append f l.returned (l.waiting ++ l.taken) in
      let more = total-append f l.waiting l.taken in omega (arith, all, more)

  -- ---- visits

  abbrev pub of_found : Option ℕ → ℕ
  of_found o = option_map_or f o 0

  pub in_search : (test : ℕ → Bool) (ks : List ℕ) → total f ks ≡ total f (before_wanted test ks) + (of_found (first_wanted test ks) + total f (after_wanted test ks))
  in_search test [] = nothing
  in_search test (k ∷ ks) = step (test k) (in_search test ks)
    where
      step : (b : Bool) → total f ks ≡ total f (before_wanted test ks) + (of_found (first_wanted test ks) + total f (after_wanted test ks))
          → f k + total f ks
          ≡ total f (if b then [] else k ∷ before_wanted test ks) + (of_found (if b then Some k else first_wanted test ks) + total f (if b then ks else after_wanted test ks))
      step true rest = let r = total f ks in omega arith
      step false rest = omega (arith, rest)

  in_found : (o : Option ℕ) (l : LaneState) → total f (places_on (with_found o l)) ≡ total f (places_on l) + of_found o
  in_found None l = none_more (total f (places_on l))
  in_found (Some k) l =
      let new = on_places (with_found (Some k) l) in
      let old = on_places l in
      let more = total-last f l.taken k in omega (arith, new, old, more)

  pub visit_places : (test : ℕ → Bool) (l : LaneState) → total f (places_on (visited test l)) ≡ total f (places_on l)
  visit_places test l = step (is_at_limit l)
    where
      seek : total f (places_on (with_found (first_wanted test l.waiting) (searched test l))) ≡ total f (places_on l)
      seek =
          let one = in_found (first_wanted test l.waiting) (searched test l) in
          let new = on_places (searched test l) in
          let back = total-append f l.returned (before_wanted test l.waiting) in
          let old = on_places l in
          let all = in_search test l.waiting in omega (arith, one, new, back, old, all)

      step : (b : Bool) → total f (places_on (if b then l else with_found (first_wanted test l.waiting) (searched test l))) ≡ total f (places_on l)
      step true = refl
      step false = seek

  -- ---- returns, deliveries

  pub summed : (ks : List ℕ) → total f ks ≡ sum_by f ks
  summed ks = is_sum_by (total f) f refl (λ k xs. refl) ks

  pub fewer_taken : (l : LaneState) (k : ℕ) → is_taken l k ≡ true → total f (without_taken l k).taken + f k ≡ total f l.taken
  fewer_taken l k has =
      ap (λ n. n + f k) (summed (without_taken l k).taken) ∙ taken_sum f l k has ∙ sym (summed l.taken)

  pub delivered_places : (l : LaneState) (k : ℕ) → total f (places_on (delivered l k)) ≡ total f (places_on l) + f k
  delivered_places l k =
      let new = on_places (delivered l k) in
      let old = on_places l in
      let more = total-last f l.waiting k in omega (arith, new, old, more)

  pub emptied_places : (l : LaneState) → total f (places_on (emptied_lane l)) + total f l.returned ≡ total f (places_on l)
  emptied_places l = let old = on_places l in let new = on_places (emptied_lane l) in omega (arith, old, new)

  -- the oldest of those that wait, and the others
  pub oldest_first : (ks : List ℕ) → of_found (slice_get ks 0) + total f (drop 1 ks) ≡ total f ks
  oldest_first [] = sym (none_more 0)
  oldest_first (k ∷ ks) = refl

  pub evicted_places : (l : LaneState) → total f (places_on (without_oldest l)) + of_found (oldest l) ≡ total f (places_on l)
  evicted_places l =
      let new = on_places (without_oldest l) in
      let old = on_places l in
      let first = oldest_first l.waiting in omega (arith, new, old, first)

-- ---- pools stay

pub visited_pool : (test : ℕ → Bool) (l : LaneState) → (visited test l).pool ≡ l.pool
visited_pool test l = step (is_at_limit l) (first_wanted test l.waiting)
  where
    step : (b : Bool) (o : Option ℕ) → (if b then l else with_found o (searched test l)).pool ≡ l.pool
    step true o = refl
    step false (Some k) = refl
    step false None = refl

pub visited_count : (pool k : ℕ) (test : ℕ → Bool) (l : LaneState) → lane_count pool k (visited test l) ≡ lane_count pool k l
visited_count pool k test l =
    ap₂ (λ (p n : ℕ). if p == pool then n else 0) (visited_pool test l)
    (visit_places (λ n. if n == k then 1 else 0) test l)
