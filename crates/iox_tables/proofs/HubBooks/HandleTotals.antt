-- How a sum over handles changes as one is added, changed or dropped.
use Rattle.std.specs.Prelude.{◌≡◌, ℕ, ◌+◌, Bool, true, false, not, ◌&&◌, ◌||◌, if◌then◌else◌, ◌==◌, List, [], ◌∷◌, map, Some, refl}
use Rattle.std.specs.Option.{option_map_or}
use Rattle.std.proofs.Common.{ap, subst, arith, true≢false, eqb-true}
use Rattle.std.proofs.lemmas.Option.{none-some}
use Rattle.iox_model.specs.Maps.{has_number, AreDistinct}
use Rattle.iox_tables.specs.HubStates.Tables.{HandleState}
use Rattle.iox_tables.specs.HubStates.Ends.{changed_handles, dropped_handles}
use Rattle.iox_tables.specs.HubStates.Wirings.{handle_in}
use Rattle.iox_tables.specs.HubBooks.Counts.{total}

abbrev pub numbers_of_handles : List HandleState → List ℕ
numbers_of_handles hs = map (λ h. h.number) hs

-- the handles with another number stay
pub dropped_elsewhere : (node n : ℕ) (hs : List HandleState) → has_number n (numbers_of_handles hs) ≡ false → dropped_handles node n hs ≡ hs
dropped_elsewhere node n [] none = refl
dropped_elsewhere node n (h ∷ hs) none = step (h.node == node) (h.number == n) none (dropped_elsewhere node n hs)
  where
    step : (a b : Bool) → (b || has_number n (numbers_of_handles hs)) ≡ false
        → (has_number n (numbers_of_handles hs) ≡ false → dropped_handles node n hs ≡ hs)
        → (if not (a && b) then h ∷ dropped_handles node n hs else dropped_handles node n hs) ≡ h ∷ hs
    step a true e rest = absurd (true≢false e)
    step true false e rest = ap (λ ks. h ∷ ks) (rest e)
    step false false e rest = ap (λ ks. h ∷ ks) (rest e)

module _ (f : HandleState → ℕ) where
  pub handle_dropped : (hs : List HandleState) (node n : ℕ) (h : HandleState) → handle_in hs node n ≡ Some h → AreDistinct (numbers_of_handles hs)
      → total f (dropped_handles node n hs) + f h ≡ total f hs
  handle_dropped [] node n h there apart = absurd (none-some h there)
  handle_dropped (k ∷ ks) node n h there apart = step (k.node == node) (k.number == n) refl there (λ at. handle_dropped ks node n h at apart.1)
    where
      kept : (a b : ℕ) → a + f h ≡ b → (f k + a) + f h ≡ f k + b
      kept a b e = omega (arith, e)

      gone : k.number ≡ n → dropped_handles node n ks ≡ ks
      gone e = dropped_elsewhere node n ks (subst (λ m. has_number m (numbers_of_handles ks) ≡ false) e apart.0)

      step : (a b : Bool) → (k.number == n) ≡ b → (if a && b then Some k else handle_in ks node n) ≡ Some h
          → (handle_in ks node n ≡ Some h → total f (dropped_handles node n ks) + f h ≡ total f ks)
          → total f (if not (a && b) then k ∷ dropped_handles node n ks else dropped_handles node n ks) + f h ≡ f k + total f ks
      step true true e at rest =
          let same : f k ≡ f h = ap (λ o. option_map_or f o 0) at in
          let all : total f (dropped_handles node n ks) ≡ total f ks = ap (total f) (gone (eqb-true k.number n e)) in
          omega (arith, same, all)
      step true false e at rest = kept _ _ (rest at)
      step false b e at rest = kept _ _ (rest at)

  pub handle_changed : (hs : List HandleState) (new old : HandleState) → handle_in hs new.node new.number ≡ Some old
      → total f (changed_handles new hs) + f old ≡ total f hs + f new
  handle_changed [] new old there = absurd (none-some old there)
  handle_changed (k ∷ ks) new old there = step ((k.node == new.node) && (k.number == new.number)) there (handle_changed ks new old)
    where
      step : (b : Bool) → (if b then Some k else handle_in ks new.node new.number) ≡ Some old
          → (handle_in ks new.node new.number ≡ Some old → total f (changed_handles new ks) + f old ≡ total f ks + f new)
          → total f (if b then new ∷ ks else k ∷ changed_handles new ks) + f old ≡ (f k + total f ks) + f new
      step true at rest =
          let same : f k ≡ f old = ap (λ o. option_map_or f o 0) at in
          let r = total f ks in omega (arith, same)
      step false at rest = let more = rest at in omega (arith, more)
