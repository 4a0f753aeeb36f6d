-- What callers may cite: when there is room, that places stay where a lane changes, and which pipe is the first from its sender.
use Rattle.std.proofs.Common.{◌≡◌, ◌<◌, ◌+◌, ◌-◌, ◌^◌, ◌==◌, ◌||◌, ◌&&◌, if◌then◌else◌, ℕ, zero, suc, Bool, true, false, cond, List, [], ◌∷◌, ◌++◌, length, map, get_or, Some, None, Option, is_some, unwrap_or, refl, sym, ap, ◌∙◌, arith}
use Rattle.std.proofs.lemmas.Bool.{false≢true, eq-eqb, eqb-true, lt-ltb}
use Rattle.std.proofs.lemmas.Option.{none-some, same_Some}
use Rattle.std.proofs.lemmas.List.Sorted.{IsPermutation-swap_remove, list_any-IsPermutation}
use Rattle.std.proofs.lemmas.List.Sums.{sum_by-swap_remove}
use Rattle.std.specs.Option.{option_map_or}
use Rattle.std.specs.List.{list_any, position_from, sum_by, swap_remove}
use Rattle.std.specs.Prelude.{slice_get}
use Rattle.iox_model.specs.Maps.{AreDistinct, has_number}
use Rattle.iox_lanes.specs.Incomings.{IsFirstAt}
use Rattle.iox_lanes.specs.Pipes.{PipeState}
use Rattle.iox_lanes.specs.Lanes.{LaneState, IsSound, has_room, is_taken, outstanding, rank_in, without_taken}
use Rattle.iox_lanes.specs.Searches.{after_wanted, before_wanted, first_wanted}

-- ---- room

-- where nothing is left to get back, and fewer wait than may, there is room
pub room_where_emptied : (l : LaneState) → IsSound l → l.returned ≡ [] → length l.waiting < l.buffer → l.deliveries < 2 ^ 64 - 1
    → has_room l ≡ true
room_where_emptied l s none room counts =
    let fits : outstanding l < l.buffer + l.limit = omega (arith, s.has, room, ap (λ (ks : List ℕ). length ks) none) in
    all _ _ _ (lt-ltb _ _ room) (lt-ltb _ _ fits) (lt-ltb _ _ counts)
  where
    all : (a b c : Bool) → a ≡ true → b ≡ true → c ≡ true → (a && b && c) ≡ true
    all true true c e f g = g
    all true false c e f g = f
    all false b c e f g = e

-- ---- what its receiver has

-- a place that is found stands at its rank
record Ranked (k n i : ℕ) (ks : List ℕ) : Type 0 where
  at : ℕ
  is : i ≡ at + n
  within : at < length ks
  holds : k ≡ get_or ks at k

ranked : (k n i : ℕ) (ks : List ℕ) → position_from (λ m. m == k) n ks ≡ Some i → Ranked k n i ks
ranked k n i [] h = absurd (false≢true (ap (λ (o : Option ℕ). is_some o) h))
ranked k n i (x ∷ ks) h =
    elim (x == k) as (λ b. (x == k) ≡ b → cond b (Some n) (position_from (λ m. m == k) (n + 1) ks) ≡ Some i → Ranked k n i (x ∷ ks)) [
      | true ↦ λ e is. record { at = 0; is = omega (arith, ap (λ (o : Option ℕ). unwrap_or o 0) is); within = omega arith; holds = sym (eqb-true x k e) }
      | false ↦ λ e is.
          let r : Ranked k (n + 1) i ks = ranked k (n + 1) i ks is in
          record { at = suc r.at; is = omega (arith, r.is); within = omega (arith, r.within); holds = r.holds }
    ] refl h

some_rank : (ks : List ℕ) (k n : ℕ) → is_some (position_from (λ m. m == k) n ks) ≡ list_any (λ m. m == k) ks
some_rank [] k n = refl
some_rank (x ∷ ks) k n = over (x == k) (some_rank ks k (n + 1))
  where
    over : (b : Bool) → is_some (position_from (λ m. m == k) (n + 1) ks) ≡ list_any (λ m. m == k) ks
        → is_some (cond b (Some n) (position_from (λ m. m == k) (n + 1) ks)) ≡ (b || list_any (λ m. m == k) ks)
    over true e = refl
    over false e = e

-- a place is taken if it is one of the places that are
pub taken_is_any : (l : LaneState) (k : ℕ) → is_taken l k ≡ list_any (λ m. m == k) l.taken
taken_is_any l k = some_rank l.taken k 0

-- whatever is counted of those taken: the one that goes counts for itself
pub taken_sum : (f : ℕ → ℕ) (l : LaneState) (k : ℕ) → is_taken l k ≡ true → sum_by f (without_taken l k).taken + f k ≡ sum_by f l.taken
taken_sum f l k = over (rank_in l.taken k) refl
  where
    over : (o : Option ℕ) → rank_in l.taken k ≡ o → is_some o ≡ true
        → sum_by f (option_map_or (λ i. record l { taken = swap_remove l.taken i k }) o l).taken + f k ≡ sum_by f l.taken
    over None e h = absurd (false≢true h)
    over (Some i) e h =
        let r : Ranked k 0 i l.taken = ranked k 0 i l.taken e in
        let at : i ≡ r.at = omega (arith, r.is) in
        ap (λ (j : ℕ). sum_by f (swap_remove l.taken j k) + f k) at
        ∙ ap (λ (m : ℕ). sum_by f (swap_remove l.taken r.at k) + f m) r.holds
        ∙ sum_by-swap_remove f l.taken r.at k r.within

-- those taken are the one that goes and those that stay
pub taken_any : (p : ℕ → Bool) (l : LaneState) (k : ℕ) → is_taken l k ≡ true → list_any p l.taken ≡ (p k || list_any p (without_taken l k).taken)
taken_any p l k = over (rank_in l.taken k) refl
  where
    over : (o : Option ℕ) → rank_in l.taken k ≡ o → is_some o ≡ true
        → list_any p l.taken ≡ (p k || list_any p (option_map_or (λ i. record l { taken = swap_remove l.taken i k }) o l).taken)
    over None e h = absurd (false≢true h)
    over (Some i) e h =
        let r : Ranked k 0 i l.taken = ranked k 0 i l.taken e in
        let at : i ≡ r.at = omega (arith, r.is) in
        list_any-IsPermutation p l.taken (k ∷ swap_remove l.taken r.at k) (IsPermutation-swap_remove l.taken r.at k r.within r.holds)
        ∙ ap (λ (j : ℕ). p k || list_any p (swap_remove l.taken j k)) (sym at)

-- ---- a search

-- what a search found, as a list
abbrev pub found_list : Option ℕ → List ℕ
found_list (Some k) = k ∷ []
found_list None = []

-- those that waited are those passed over, the one that was found and those that still wait
pub all_searched : (test : ℕ → Bool) (ks : List ℕ) → ks ≡ before_wanted test ks ++ found_list (first_wanted test ks) ++ after_wanted test ks
all_searched test [] = refl
all_searched test (k ∷ ks) =
    elim (test k) as (λ b. k ∷ ks ≡ (if b then [] else k ∷ before_wanted test ks) ++ found_list (if b then Some k else first_wanted test ks) ++ (if b then ks else after_wanted test ks)) [
      | true ↦ refl
      | false ↦ ap (λ (zs : List ℕ). k ∷ zs) (all_searched test ks)
    ]

-- ---- the first pipe from a sender

not_left : (a b : Bool) → (a || b) ≡ false → a ≡ false
not_left true b h = h
not_left false b h = refl

not_right : (a b : Bool) → (a || b) ≡ false → b ≡ false
not_right true b h = absurd (false≢true (sym h))
not_right false b h = h

another : (n : ℕ) (ps : List PipeState) (i : ℕ) (p : PipeState) → has_number n (map (λ q. q.sender) ps) ≡ false → slice_get ps i ≡ Some p
    → (p.sender == n) ≡ false
another n [] i p h e = absurd (none-some p e)
another n (x ∷ xs) zero p h e =
    ap (λ (q : PipeState). q.sender == n) (sym (same_Some x p e)) ∙ not_left (x.sender == n) (has_number n (map (λ q. q.sender) xs)) h
another n (x ∷ xs) (suc i) p h e = another n xs i p (not_right (x.sender == n) (has_number n (map (λ q. q.sender) xs)) h) e

turned : (m n : ℕ) → (m == n) ≡ false → (n == m) ≡ false
turned m n h = over (n == m) refl
  where
    over : (b : Bool) → (n == m) ≡ b → b ≡ false
    over true e = absurd (false≢true (sym h ∙ eq-eqb m n (sym (eqb-true n m e))))
    over false e = refl

first_from : (ps : List PipeState) (n i : ℕ) (p : PipeState) → AreDistinct (map (λ q. q.sender) ps) → slice_get ps i ≡ Some p
    → position_from (λ q. q.sender == p.sender) n ps ≡ Some (i + n)
first_from [] n i p d e = absurd (none-some p e)
first_from (x ∷ xs) n zero p d e =
    ap (λ (b : Bool). cond b (Some n) (position_from (λ q. q.sender == p.sender) (n + 1) xs))
    (eq-eqb x.sender p.sender (ap (λ (q : PipeState). q.sender) (same_Some x p e)))
    ∙ ap (λ (k : ℕ). Some k) (omega arith)
first_from (x ∷ xs) n (suc i) p d e =
    ap (λ (b : Bool). cond b (Some n) (position_from (λ q. q.sender == p.sender) (n + 1) xs))
    (turned p.sender x.sender (another x.sender xs i p d.0 e))
    ∙ first_from xs (n + 1) i p d.1 e
    ∙ ap (λ (k : ℕ). Some k) (omega arith)

-- where no sender comes twice, each pipe is the first from its sender
pub first_where_apart : (ps : List PipeState) (rank : ℕ) → AreDistinct (map (λ q. q.sender) ps) → IsFirstAt ps rank
first_where_apart ps rank d p e = first_from ps 0 rank p d e ∙ ap (λ (k : ℕ). Some k) (omega arith)
