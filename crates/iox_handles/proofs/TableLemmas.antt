-- A table in memory: each call keeps it, and what it comes to as a list by number.
use Rattle.std.specs.Prelude.{◌≡◌, ℕ, ◌+◌, ◌-◌, ◌<◌, ◌≤◌, suc, nat_lt, Bool, true, false, not, if◌then◌else◌, ◌==◌, List, [], ◌∷◌, ◌++◌, length, filter, find, Option, Some, None, slice_get, slice_set, refl}
use Rattle.std.proofs.Common.{sym, ap, subst, ◌∙◌, arith, add-one, length-append}
use Rattle.std.proofs.lemmas.Option.{none-some}
use Rattle.std.proofs.lemmas.Bool.{ltb-true, ltb-false}
use Rattle.std.proofs.lemmas.List.{length-set}
use Rattle.iox_handles.specs.declared.entry.Entry.{Entry}
use Rattle.iox_handles.specs.Tables.{Contents, has_that, with_handle}
use Rattle.iox_handles.specs.Places.{has_at, how_often, in_places, handles_in, used, vacancy, IsTable}
use Rattle.iox_handles.proofs.NumberLemmas.{same_number, less_is_other, other, adds_last, removes_one, changes_one, finds_by_number}
use Rattle.iox_handles.proofs.PlaceLemmas.{own_numbers, has_there, of_place, put_in_place, put_behind, set_in_place, apart_put, apart_behind, apart_set}
use Rattle.iox_handles.proofs.VacancyLemmas.{one_if, often-append, vacancy-put, vacancy-take, vacancy-change, vacancy-behind, vacant-at, used-put, used-take, used-change, used-behind}

-- ---- searches

-- a search of the list finds what is in the places
pub found_is : (ps : List (Option Entry)) (free : List ℕ) (room next pc fc : ℕ) → IsTable ps free room next pc fc → (k : ℕ)
    → find (has_that k) (handles_in ps next) ≡ in_places ps k
found_is ps free room next pc fc t k = finds_by_number (in_places ps) next k (own_numbers ps) t.below

-- ---- a handle comes

cancel : (a b c x : ℕ) → a + x ≡ c → b + x ≡ c → a ≡ b
cancel a b c x p q = omega (arith, p, q)

-- the last of those listed is vacant
pub listed_last : (ps : List (Option Entry)) (fs : List ℕ) (i room next pc fc : ℕ) → IsTable ps (fs ++ i ∷ []) room next pc fc → slice_get ps i ≡ Some None
listed_last ps fs i room next pc fc t =
    vacant-at ps i (how_often i fs)
    (sym (t.listed i) ∙ often-append i fs i ∙ ap (λ (b : Bool). how_often i fs + (if b then 1 else 0)) (same_number i) ∙ add-one (how_often i fs))

-- no handle has a number past a new one's
past_new : (at at' : ℕ → Option Entry) (next : ℕ) (h : Entry) → ((k : ℕ) → next ≤ k → at k ≡ None) → next ≤ h.number
    → ((k : ℕ) → at' k ≡ (if k == h.number then Some h else at k)) → (k : ℕ) → h.number + 1 ≤ k → at' k ≡ None
past_new at at' next h below newer is k past =
    is k ∙ ap (λ (b : Bool). if b then Some h else at k) (other h.number k (less_is_other h.number k (omega arith))) ∙ below k (omega arith)

pub IsTable-put : (ps : List (Option Entry)) (fs : List ℕ) (i room next pc fc : ℕ) (h : Entry) → IsTable ps (fs ++ i ∷ []) room next pc fc
    → 0 < room → next ≤ h.number → IsTable (slice_set ps i (Some h)) fs (room - 1) (h.number + 1) pc fc
IsTable-put ps fs i room next pc fc h t some newer =
    let vacant : slice_get ps i ≡ Some None = listed_last ps fs i room next pc fc t in
    let new : in_places ps h.number ≡ None = t.below h.number newer in
    let size : length (slice_set ps i (Some h)) ≡ length ps = length-set ps i (Some h) in
    let more : used (slice_set ps i (Some h)) ≡ suc (used ps) = used-put ps i h vacant in
    let free : length (fs ++ i ∷ []) ≡ length fs + 1 = length-append fs (i ∷ []) in
    record {
      apart = apart_put ps i h vacant new t.apart;
      below = past_new (in_places ps) (in_places (slice_set ps i (Some h))) next h t.below newer (λ k. put_in_place ps i h k vacant new);
      listed = λ p. cancel (how_often p fs) (vacancy (slice_set ps i (Some h)) p) (vacancy ps p) (one_if i p)
          (sym (often-append p fs i) ∙ t.listed p) (vacancy-put ps i h p vacant);
      counted = omega (arith, t.counted, size, more, free);
      promised = omega (arith, t.promised, free);
      fits = omega (arith, t.fits, size, free, some);
      returns = omega (arith, t.returns, size, free, some);
    }

pub handles-put : (ps : List (Option Entry)) (fs : List ℕ) (i room next pc fc : ℕ) (h : Entry) → IsTable ps (fs ++ i ∷ []) room next pc fc
    → next ≤ h.number → handles_in (slice_set ps i (Some h)) (h.number + 1) ≡ handles_in ps next ++ h ∷ []
handles-put ps fs i room next pc fc h t newer =
    adds_last (in_places ps) (in_places (slice_set ps i (Some h))) next h
    (λ k. put_in_place ps i h k (listed_last ps fs i room next pc fc t) (t.below h.number newer)) t.below newer

pub IsTable-behind : (ps : List (Option Entry)) (room next pc fc : ℕ) (h : Entry) → IsTable ps [] room next pc fc
    → 0 < room → next ≤ h.number → IsTable (ps ++ Some h ∷ []) [] (room - 1) (h.number + 1) pc fc
IsTable-behind ps room next pc fc h t some newer =
    let new : in_places ps h.number ≡ None = t.below h.number newer in
    let size : length (ps ++ Some h ∷ []) ≡ length ps + 1 = length-append ps (Some h ∷ []) in
    let more : used (ps ++ Some h ∷ []) ≡ suc (used ps) = used-behind ps h in
    record {
      apart = apart_behind ps h new t.apart;
      below = past_new (in_places ps) (in_places (ps ++ Some h ∷ [])) next h t.below newer (λ k. put_behind ps h k new);
      listed = λ p. t.listed p ∙ sym (vacancy-behind ps h p);
      counted = omega (arith, t.counted, size, more);
      promised = omega arith;
      fits = omega (arith, t.fits, size, some);
      returns = omega (arith, t.returns, size, some);
    }

pub handles-behind : (ps : List (Option Entry)) (room next pc fc : ℕ) (h : Entry) → IsTable ps [] room next pc fc
    → next ≤ h.number → handles_in (ps ++ Some h ∷ []) (h.number + 1) ≡ handles_in ps next ++ h ∷ []
handles-behind ps room next pc fc h t newer =
    adds_last (in_places ps) (in_places (ps ++ Some h ∷ [])) next h (λ k. put_behind ps h k (t.below h.number newer)) t.below newer

-- ---- a handle goes

-- there is memory for its place
pub spare : (ps : List (Option Entry)) (free : List ℕ) (k i room next pc fc : ℕ) → IsTable ps free room next pc fc → has_at k ps i ≡ true → length free < fc
spare ps free k i room next pc fc t e =
    let (h, at, same) = has_there k ps i e in
    let one : suc (used (slice_set ps i None)) ≡ used ps = used-take ps i h at in
    omega (arith, t.returns, t.promised, t.counted, one)

pub IsTable-take : (ps : List (Option Entry)) (free : List ℕ) (k i room next pc fc : ℕ) → IsTable ps free room next pc fc → has_at k ps i ≡ true
    → IsTable (slice_set ps i None) (free ++ i ∷ []) (room + 1) next pc fc
IsTable-take ps free k i room next pc fc t e =
    let (h, at, same) = has_there k ps i e in
    let size : length (slice_set ps i None) ≡ length ps = length-set ps i None in
    let less : suc (used (slice_set ps i None)) ≡ used ps = used-take ps i h at in
    let more : length (free ++ i ∷ []) ≡ length free + 1 = length-append free (i ∷ []) in
    record {
      apart = apart_set ps i h None at t.apart tt;
      below = λ j past. set_in_place ps i h None j at t.apart tt ∙ either (j == h.number) (in_places ps j) (t.below j past);
      listed = λ p. often-append p free i ∙ ap (λ n. n + one_if i p) (t.listed p) ∙ sym (vacancy-take ps i h p at);
      counted = omega (arith, t.counted, size, less, more);
      promised = omega (arith, t.promised, more);
      fits = omega (arith, t.fits, size, more);
      returns = omega (arith, t.returns, size, more);
    }
  where
    either : (b : Bool) (o : Option Entry) → o ≡ None → (if b then None else o) ≡ None
    either true o e = refl
    either false o e = e

pub handles-take : (ps : List (Option Entry)) (free : List ℕ) (k i room next pc fc : ℕ) → IsTable ps free room next pc fc → has_at k ps i ≡ true
    → handles_in (slice_set ps i None) next ≡ filter (λ h. not (has_that k h)) (handles_in ps next)
handles-take ps free k i room next pc fc t e =
    let (h, at, same) = has_there k ps i e in
    removes_one (in_places ps) (in_places (slice_set ps i None)) next h (own_numbers ps) (λ j. set_in_place ps i h None j at t.apart tt)
    ∙ ap (λ n. filter (λ g. not (has_that n g)) (handles_in ps next)) same

-- ---- a handle changes

-- the number of a handle is below the next
pub is_below : (ps : List (Option Entry)) (free : List ℕ) (room next pc fc : ℕ) → IsTable ps free room next pc fc
    → (i : ℕ) (h : Entry) → slice_get ps i ≡ Some (Some h) → h.number < next
is_below ps free room next pc fc t i h at = by_case (nat_lt h.number next) refl
  where
    by_case : (b : Bool) → nat_lt h.number next ≡ b → h.number < next
    by_case true e = ltb-true h.number next e
    by_case false e = absurd (none-some h (sym (t.below h.number (ltb-false h.number next e)) ∙ of_place ps i h at t.apart))

pub IsTable-change : (ps : List (Option Entry)) (free : List ℕ) (i room next pc fc : ℕ) (n : Entry) → IsTable ps free room next pc fc → has_at n.number ps i ≡ true
    → IsTable (slice_set ps i (Some n)) free room next pc fc
IsTable-change ps free i room next pc fc n t e =
    let (h, at, same) = has_there n.number ps i e in
    let size : length (slice_set ps i (Some n)) ≡ length ps = length-set ps i (Some n) in
    let more : used (slice_set ps i (Some n)) ≡ used ps = used-change ps i h n at in
    record {
      apart = apart_set ps i h (Some n) at t.apart (sym same);
      below = λ j past. set_in_place ps i h (Some n) j at t.apart (sym same)
          ∙ ap (λ (b : Bool). if b then Some n else in_places ps j) (other h.number j (less_is_other h.number j (under ps next i h at t j past)))
          ∙ t.below j past;
      listed = λ p. t.listed p ∙ sym (vacancy-change ps i h n p at);
      counted = omega (arith, t.counted, size, more);
      promised = t.promised;
      fits = omega (arith, t.fits, size);
      returns = omega (arith, t.returns, size);
    }
  where
    under : (ps : List (Option Entry)) (next i : ℕ) (h : Entry) → slice_get ps i ≡ Some (Some h) → IsTable ps free room next pc fc → (j : ℕ) → next ≤ j → h.number < j
    under ps next i h at t j past = let low : h.number < next = is_below ps free room next pc fc t i h at in omega arith

pub handles-change : (ps : List (Option Entry)) (free : List ℕ) (i room next pc fc : ℕ) (n : Entry) → IsTable ps free room next pc fc → has_at n.number ps i ≡ true
    → handles_in (slice_set ps i (Some n)) next ≡ with_handle n (handles_in ps next)
handles-change ps free i room next pc fc n t e =
    let (h, at, same) = has_there n.number ps i e in
    changes_one (in_places ps) (in_places (slice_set ps i (Some n))) next n h (own_numbers ps)
    (λ j. set_in_place ps i h (Some n) j at t.apart (sym same) ∙ ap (λ m. if j == m then Some n else in_places ps j) same)
    (ap (in_places ps) (sym same) ∙ of_place ps i h at t.apart)
    (subst (λ m. m < next) same (is_below ps free room next pc fc t i h at))

-- ---- for answers

pub none_left : (fs : List ℕ) → length fs ≡ 0 → fs ≡ []
none_left [] e = refl
none_left (f ∷ fs) e = absurd (omega (arith, e))

abbrev pub contents : ℕ → ℕ → List Entry → Contents
contents room next handles = record { room = room; next = next; handles = handles }
