-- Visits to senders, one after another.
use Rattle.std.proofs.Common.{◌≡◌, ◌<◌, ◌≤◌, ◌+◌, ℕ, zero, suc, Bool, true, false, if◌then◌else◌, List, [], ◌∷◌, ◌++◌, length, take, drop, get_or, slice_set, refl, sym, ap, subst, ◌∙◌, arith, add-one, append_assoc, append-nil}
use Rattle.std.proofs.Math.ListN.{drop_of_length-le}
use Rattle.iox_lanes.specs.declared.wanted.Wanted.{Wanted}
use Rattle.iox_lanes.specs.declared.search.LaneVisit.{LaneVisit}
use Rattle.iox_lanes.specs.declared.search.LaneVisit as one
use Rattle.iox_lanes.specs.declared.incoming.Visits.TheVariants.{Got, AtLimit, Nothing}
use Rattle.iox_lanes.specs.Pipes.{PipeState}
use Rattle.iox_lanes.specs.Searches.{LabelsByPlace}
use Rattle.iox_lanes.specs.Visited.{after_visit, all_visited, all_visits, is_got, pipe_visit, pipe_visited, pool_on, visits_from}

-- ---- one place of a list

-- the rest from an index begins with the item there
pub drop_at : {A : Type 0} (xs : List A) (i : ℕ) (x : A) → i < length xs → x ≡ get_or xs i x → drop i xs ≡ x ∷ drop (suc i) xs
drop_at [] i x h e = absurd (omega arith)
drop_at (y ∷ ys) zero x h e = ap (λ z. z ∷ ys) (sym e)
drop_at (y ∷ ys) (suc i) x h e = drop_at ys i x (omega arith) e

-- what is behind the index that is set stays
pub drop_set : {A : Type 0} (xs : List A) (i : ℕ) (x : A) → drop (suc i) (slice_set xs i x) ≡ drop (suc i) xs
drop_set [] i x = refl
drop_set (y ∷ ys) zero x = refl
drop_set (y ∷ ys) (suc i) x = drop_set ys i x

-- what stands up to the index ends with the item that is set
pub take_set : {A : Type 0} (xs : List A) (i : ℕ) (x : A) → i < length xs → take (suc i) (slice_set xs i x) ≡ take i xs ++ x ∷ []
take_set [] i x h = absurd (omega arith)
take_set (y ∷ ys) zero x h = refl
take_set (y ∷ ys) (suc i) x h = ap (λ zs. y ∷ zs) (take_set ys i x (omega arith))

set_split : {A : Type 0} (xs : List A) (i : ℕ) (x : A) → i < length xs → slice_set xs i x ≡ take i xs ++ x ∷ drop (suc i) xs
set_split [] i x h = absurd (omega arith)
set_split (y ∷ ys) zero x h = refl
set_split (y ∷ ys) (suc i) x h = ap (λ zs. y ∷ zs) (set_split ys i x (omega arith))

-- all that there are
pub take_all : {A : Type 0} (xs : List A) (n : ℕ) → length xs ≤ n → take n xs ≡ xs
take_all [] zero h = refl
take_all [] (suc n) h = refl
take_all (x ∷ xs) zero h = absurd (omega arith)
take_all (x ∷ xs) (suc n) h = ap (λ zs. x ∷ zs) (take_all xs n (omega arith))

-- ---- the loop

-- what is left to visit comes to the same
pub record Comes (wanted : Wanted) (labels : LabelsByPlace) (lane : ℕ) (first now : List PipeState) (i : ℕ) (waits : Bool) : Type 0 where
  pub says : all_visits wanted labels lane first ≡ visits_from wanted labels lane (drop i now) waits
  pub leaves : all_visited wanted labels lane first ≡ take i now ++ all_visited wanted labels lane (drop i now)

pub begins : (wanted : Wanted) (labels : LabelsByPlace) (lane : ℕ) (first : List PipeState) → Comes wanted labels lane first first 0 false
begins wanted labels lane first = record { says = refl; leaves = refl }

pub gets : (wanted : Wanted) (labels : LabelsByPlace) (lane : ℕ) (first now : List PipeState) (i : ℕ) (waits : Bool) (p : PipeState) (k : ℕ)
    → Comes wanted labels lane first now i waits → i < length now → p ≡ get_or now i p → pipe_visit wanted labels lane p ≡ one.TheVariants.Got k
    → (Got p.sender (pool_on p lane) k ≡ all_visits wanted labels lane first)
    × (slice_set now i (pipe_visited wanted labels lane p) ≡ all_visited wanted labels lane first)
gets wanted labels lane first now i waits p k c h e is =
    let at : drop i now ≡ p ∷ drop (suc i) now = drop_at now i p h e in (
      sym (c.says ∙ ap (λ ps. visits_from wanted labels lane ps waits) at
          ∙ ap (λ v. after_visit v p lane (visits_from wanted labels lane (drop (suc i) now) true) (visits_from wanted labels lane (drop (suc i) now) waits)) is),
      set_split now i (pipe_visited wanted labels lane p) h
          ∙ sym (c.leaves ∙ ap (λ ps. take i now ++ all_visited wanted labels lane ps) at
          ∙ ap (λ v. take i now ++ pipe_visited wanted labels lane p ∷ (if is_got v then drop (suc i) now else all_visited wanted labels lane (drop (suc i) now))) is),
    )

pub goes_on : (wanted : Wanted) (labels : LabelsByPlace) (lane : ℕ) (first now : List PipeState) (i : ℕ) (waits after : Bool) (p : PipeState)
    → Comes wanted labels lane first now i waits → i < length now → p ≡ get_or now i p
    → is_got (pipe_visit wanted labels lane p) ≡ false
    → after_visit (pipe_visit wanted labels lane p) p lane (visits_from wanted labels lane (drop (suc i) now) true) (visits_from wanted labels lane (drop (suc i) now) waits) ≡ visits_from wanted labels lane (drop (suc i) now) after
    → Comes wanted labels lane first (slice_set now i (pipe_visited wanted labels lane p)) (i + 1) after
goes_on wanted labels lane first now i waits after p c h e passed is =
    let p' : PipeState = pipe_visited wanted labels lane p in
    let at : drop i now ≡ p ∷ drop (suc i) now = drop_at now i p h e in
    let behind : drop (suc i) now ≡ drop (suc i) (slice_set now i p') = sym (drop_set now i p') in
    let done : Comes wanted labels lane first (slice_set now i p') (suc i) after = record {
      says = c.says ∙ ap (λ ps. visits_from wanted labels lane ps waits) at ∙ is ∙ ap (λ ps. visits_from wanted labels lane ps after) behind;
      leaves = c.leaves ∙ ap (λ ps. take i now ++ all_visited wanted labels lane ps) at
          ∙ ap (λ b. take i now ++ p' ∷ (if b then drop (suc i) now else all_visited wanted labels lane (drop (suc i) now))) passed
          ∙ sym (append_assoc (take i now) (p' ∷ []) (all_visited wanted labels lane (drop (suc i) now)))
          ∙ ap (λ zs. zs ++ all_visited wanted labels lane (drop (suc i) now)) (sym (take_set now i p' h))
          ∙ ap (λ ps. take (suc i) (slice_set now i p') ++ all_visited wanted labels lane ps) behind;
    } in
    subst (λ (n : ℕ). Comes wanted labels lane first (slice_set now i p') n after) (sym (add-one i)) done

-- a lane at its limit waits, and a lane with nothing does not
module _ (wanted : Wanted) (labels : LabelsByPlace) (lane : ℕ) (first now : List PipeState) (i : ℕ) (waits : Bool) (p : PipeState)
    (c : Comes wanted labels lane first now i waits) (h : i < length now) (e : p ≡ get_or now i p) where
  pub goes_on_at_limit : pipe_visit wanted labels lane p ≡ one.TheVariants.AtLimit
      → Comes wanted labels lane first (slice_set now i (pipe_visited wanted labels lane p)) (i + 1) true
  goes_on_at_limit is =
      goes_on wanted labels lane first now i waits true p c h e (ap (λ v. is_got v) is)
      (ap (λ v. after_visit v p lane (visits_from wanted labels lane (drop (suc i) now) true) (visits_from wanted labels lane (drop (suc i) now) waits)) is)

  pub goes_on_past : pipe_visit wanted labels lane p ≡ one.TheVariants.Nothing
      → Comes wanted labels lane first (slice_set now i (pipe_visited wanted labels lane p)) (i + 1) waits
  goes_on_past is =
      goes_on wanted labels lane first now i waits waits p c h e (ap (λ v. is_got v) is)
      (ap (λ v. after_visit v p lane (visits_from wanted labels lane (drop (suc i) now) true) (visits_from wanted labels lane (drop (suc i) now) waits)) is)

pub ends : (wanted : Wanted) (labels : LabelsByPlace) (lane : ℕ) (first now : List PipeState) (i : ℕ) (waits : Bool)
    → Comes wanted labels lane first now i waits → length now ≤ i
    → ((if waits then AtLimit else Nothing) ≡ all_visits wanted labels lane first) × (now ≡ all_visited wanted labels lane first)
ends wanted labels lane first now i waits c h =
    let none : drop i now ≡ [] = drop_of_length-le now h in (
      sym (c.says ∙ ap (λ ps. visits_from wanted labels lane ps waits) none),
      sym (c.leaves ∙ ap (λ ps. take i now ++ all_visited wanted labels lane ps) none ∙ append-nil (take i now) ∙ take_all now i h),
    )

-- where there is no pipe, nothing comes
pub no_visits : (wanted : Wanted) (labels : LabelsByPlace) (lane : ℕ) (ps : List PipeState) → length ps ≡ 0 → Nothing ≡ all_visits wanted labels lane ps
no_visits wanted labels lane ps none = (ends wanted labels lane ps ps 0 false (begins wanted labels lane ps) (omega (arith, none))).0

pub none_visited : (wanted : Wanted) (labels : LabelsByPlace) (lane : ℕ) (ps : List PipeState) → length ps ≡ 0 → ps ≡ all_visited wanted labels lane ps
none_visited wanted labels lane ps none = (ends wanted labels lane ps ps 0 false (begins wanted labels lane ps) (omega (arith, none))).1

pub ruleset none_comes = (no_visits, none_visited)
