-- What a lane, and a pipe, count as one message, and one lane, is taken out.
use Rattle.std.specs.Prelude.{◌≡◌, ℕ, zero, suc, ◌+◌, ◌-◌, ◌<◌, Bool, true, false, ◌&&◌, if◌then◌else◌, ◌==◌, List, [], ◌∷◌, ◌++◌, length, drop, take, Some, None, slice_get, refl}
use Rattle.std.proofs.Common.{sym, ap, subst, ◌∙◌, arith}
use Rattle.std.proofs.lemmas.Option.{none-some, same_Some}
use Rattle.iox_lanes.specs.Lanes.{LaneState, has_returned, has_waiting, places, without_first, without_oldest, without_returned}
use Rattle.iox_tables.specs.HubBooks.Counts.{how_often, lane_count, total}
use Rattle.iox_slots.proofs.CallerLemmas.{one_at}

-- ---- a lane

pub pool_stays : (l : LaneState) → (without_first l).pool ≡ l.pool
pool_stays l = step (has_returned l) (has_waiting l)
  where
    step : (a b : Bool) → (if a then without_returned l else (if b then without_oldest l else record l { taken = drop 1 l.taken })).pool ≡ l.pool
    step true b = refl
    step false true = refl
    step false false = refl

pub places_left : (l : LaneState) → places (without_first l) ≡ drop 1 (places l)
places_left l = step l.returned l.waiting l.taken refl refl refl
  where
    from : (rs ws ts : List ℕ) → LaneState
    from rs ws ts = record l { returned = rs; waiting = ws; taken = ts }

    parts : (rs ws ts : List ℕ) → places (without_first (from rs ws ts)) ≡ drop 1 (rs ++ (ws ++ ts))
    parts (r ∷ rs) ws ts = refl
    parts [] (w ∷ ws) ts = refl
    parts [] [] ts = refl

    step : (rs ws ts : List ℕ) → l.returned ≡ rs → l.waiting ≡ ws → l.taken ≡ ts → places (without_first l) ≡ drop 1 (places l)
    step rs ws ts a b c = parts l.returned l.waiting l.taken

first_often : (xs : List ℕ) (slot k : ℕ) → slice_get xs 0 ≡ Some slot → how_often k xs ≡ (if slot == k then 1 else 0) + how_often k (drop 1 xs)
first_often [] slot k e = absurd (none-some slot e)
first_often (x ∷ xs) slot k e = ap (λ n. (if n == k then 1 else 0) + how_often k xs) (same_Some x slot e)

-- a lane counts the message that is taken off, and what is left
pub lane_goes : (l : LaneState) (slot pool k : ℕ) → slice_get (places l) 0 ≡ Some slot
    → lane_count pool k l ≡ one_at l.pool slot pool k + lane_count pool k (without_first l)
lane_goes l slot pool k e =
    step (l.pool == pool) (first_often (places l) slot k e)
    ∙ ap (λ n. one_at l.pool slot pool k + n) (sym left)
  where
    left : lane_count pool k (without_first l) ≡ (if l.pool == pool then how_often k (drop 1 (places l)) else 0)
    left = ap (λ (p : ℕ). if p == pool then how_often k (places (without_first l)) else 0) (pool_stays l)
        ∙ ap (λ xs. if l.pool == pool then how_often k xs else 0) (places_left l)

    step : (b : Bool) → how_often k (places l) ≡ (if slot == k then 1 else 0) + how_often k (drop 1 (places l))
        → (if b then how_often k (places l) else 0)
        ≡ (if b && (slot == k) then 1 else 0) + (if b then how_often k (drop 1 (places l)) else 0)
    step true more = more
    step false more = refl

none_in : (xs : List ℕ) → None ≡ slice_get xs 0 → xs ≡ []
none_in [] e = refl
none_in (x ∷ xs) e = absurd (none-some x e)

-- a lane without messages counts nothing
pub lane_done : (l : LaneState) (pool k : ℕ) → None ≡ slice_get (places l) 0 → lane_count pool k l ≡ 0
lane_done l pool k e = ap (λ xs. if l.pool == pool then how_often k xs else 0) (none_in (places l) e) ∙ step (l.pool == pool)
  where
    step : (b : Bool) → (if b then zero else zero) ≡ 0
    step true = refl
    step false = refl

shorter : (xs : List ℕ) (slot : ℕ) → slice_get xs 0 ≡ Some slot → length (drop 1 xs) < length xs
shorter [] slot e = absurd (none-some slot e)
shorter (x ∷ xs) slot e = omega arith

pub lane_shorter : (l : LaneState) (slot : ℕ) → slice_get (places l) 0 ≡ Some slot → length (places (without_first l)) < length (places l)
lane_shorter l slot e = subst (λ (xs : List ℕ). length xs < length (places l)) (sym (places_left l)) (shorter (places l) slot e)

-- ---- a list whose last goes

last_at : {A : Type 0} (f : A → ℕ) (xs : List A) (i : ℕ) (x : A) → slice_get xs i ≡ Some x → suc i ≡ length xs
    → total f xs ≡ f x + total f (take i xs)
last_at f [] i x e h = absurd (none-some x e)
last_at f (y ∷ []) zero x e h = ap (λ z. f z + 0) (same_Some y x e)
last_at f (y ∷ (z ∷ zs)) zero x e h = absurd (omega (arith, h))
last_at f (y ∷ ys) (suc i) x e h = sums (f y) (f x) _ _ (last_at f ys i x e (omega (arith, h)))
  where
    sums : (a b c d : ℕ) → c ≡ b + d → a + c ≡ b + (a + d)
    sums a b c d h = omega (arith, h)

pub last_goes : {A : Type 0} (f : A → ℕ) (xs : List A) (x : A) → slice_get xs (length xs - 1) ≡ Some x
    → total f xs ≡ f x + total f (take (length xs - 1) xs)
last_goes f [] x e = absurd (none-some x e)
last_goes f (y ∷ ys) x e = last_at f (y ∷ ys) (length (y ∷ ys) - 1) x e (omega arith)

within : {A : Type 0} (xs : List A) (i : ℕ) → i < length xs → None ≡ slice_get xs i → ⊥
within [] i h e = omega (arith, h)
within (y ∷ ys) zero h e = none-some y e
within (y ∷ ys) (suc i) h e = within ys i (omega (arith, h)) e

pub last_none : {A : Type 0} (f : A → ℕ) (xs : List A) → None ≡ slice_get xs (length xs - 1) → total f xs ≡ 0
last_none f [] e = refl
last_none f (y ∷ ys) e = absurd (within (y ∷ ys) (length (y ∷ ys) - 1) (omega arith) e)

take_shorter : {A : Type 0} (xs : List A) (i : ℕ) → i < length xs → length (take i xs) < length xs
take_shorter [] i h = absurd (omega (arith, h))
take_shorter (y ∷ ys) zero h = omega arith
take_shorter (y ∷ ys) (suc i) h = let more = take_shorter ys i (omega (arith, h)) in omega (arith, more)

pub last_shorter : {A : Type 0} (xs : List A) (x : A) → slice_get xs (length xs - 1) ≡ Some x → length (take (length xs - 1) xs) < length xs
last_shorter [] x e = absurd (none-some x e)
last_shorter (y ∷ ys) x e = take_shorter (y ∷ ys) (length (y ∷ ys) - 1) (omega arith)
