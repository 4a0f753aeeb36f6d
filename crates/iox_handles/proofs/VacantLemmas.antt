-- What stands in places, and the handles that are there.
use Rattle.std.specs.Prelude.{◌≡◌, ℕ, ◌+◌, ◌<◌, ◌^◌, zero, suc, nat_lt, Bool, true, false, not, ◌||◌, if◌then◌else◌, ◌==◌, List, [], ◌∷◌, ◌++◌, length, Option, Some, None, cond, count_by, position, slice_get, slice_set, slice_index_or, refl}
use Rattle.std.specs.List.{list_any, position_or_len}
use Rattle.std.proofs.Common.{sym, ap, ap₂, ◌∙◌, true≢false, eqb-true, eq-eqb, arith}
use Rattle.std.proofs.lemmas.List.{length-map, map-append, map-set}
use Rattle.std.proofs.lemmas.List.Sums.{sum_by-cons}
use Rattle.iox_handles.specs.declared.entry.Entry.{Entry}
use Rattle.iox_handles.specs.Tables.{has_that}
use Rattle.iox_handles.specs.Places.{handle_in, handles_there, has_at, has_number_at, in_places, is_numbered, nobody}
use Rattle.iox_handles.proofs.NumberLemmas.{less_is_other, other}
use Rattle.iox_handles.proofs.PlaceLemmas.{found_there, has_there, inside, not_found}

-- ---- one place

pub is_somebody : (h : Entry) → (h.number == nobody) ≡ false → handle_in h ≡ Some h
is_somebody h e = ap (λ (b : Bool). if b then None else Some h) e

-- a handle has a number below the greatest
pub low_is_somebody : (h : Entry) → h.number + 1 < 2 ^ 64 → handle_in h ≡ Some h
low_is_somebody h low = is_somebody h (less_is_other h.number nobody (omega (arith, low)))

pub is_vacant : (h : Entry) → h.number ≡ nobody → handle_in h ≡ None
is_vacant h e = ap (λ (b : Bool). if b then None else Some h) (eq-eqb h.number nobody e)

-- what stands in a place with a handle of a number is that handle, and the number is a handle's
numbered_is : (k : ℕ) (p : Entry) → is_numbered k (handle_in p) ≡ true → handle_in p ≡ Some p
numbered_is k p e = by_case (p.number == nobody) e
  where
    by_case : (b : Bool) → is_numbered k (if b then None else Some p) ≡ true → (if b then None else Some p) ≡ Some p
    by_case true e = absurd (true≢false (sym e))
    by_case false e = refl

numbered_somebody : (k : ℕ) (p : Entry) → is_numbered k (handle_in p) ≡ true → (k == nobody) ≡ false
numbered_somebody k p e = by_case (p.number == nobody) refl e
  where
    by_case : (b : Bool) → (p.number == nobody) ≡ b → is_numbered k (if b then None else Some p) ≡ true → (k == nobody) ≡ false
    by_case true is e = absurd (true≢false (sym e))
    by_case false is e = ap (λ m. m == nobody) (sym (eqb-true p.number k e)) ∙ is

-- to compare the number is enough, where it is a handle's
numbered_same : (k : ℕ) (p : Entry) → k < nobody → is_numbered k (handle_in p) ≡ has_that k p
numbered_same k p low = by_case (p.number == nobody) refl
  where
    by_case : (b : Bool) → (p.number == nobody) ≡ b → is_numbered k (if b then None else Some p) ≡ (p.number == k)
    by_case true e = sym (ap (λ m. m == k) (eqb-true p.number nobody e) ∙ other k nobody (less_is_other k nobody low))
    by_case false e = refl

-- ---- a place of a table

pub read_there : (k : ℕ) (ps : List Entry) (i : ℕ) (h : Entry) → has_at k (handles_there ps) i ≡ true → h ≡ slice_index_or ps i h
    → slice_get (handles_there ps) i ≡ Some (Some h)
read_there k [] i h e is = absurd (true≢false (sym e))
read_there k (p ∷ ps) zero h e is = ap (λ o. Some o) (numbered_is k p e ∙ ap (λ q. Some q) (sym is))
read_there k (p ∷ ps) (suc i) h e is = read_there k ps i h e is

pub number_there : (k : ℕ) (ps : List Entry) (i : ℕ) (h : Entry) → has_at k (handles_there ps) i ≡ true → h ≡ slice_index_or ps i h → h.number ≡ k
number_there k ps i h e is =
    let (g, at, same) = has_there k (handles_there ps) i e in
    ap (λ (r : Entry). r.number) (inside h g (sym (read_there k ps i h e is) ∙ at)) ∙ same

-- two reads of a place are one
pub read_twice : (k : ℕ) (ps : List Entry) (i : ℕ) (g h : Entry) → has_at k (handles_there ps) i ≡ true → g ≡ slice_index_or ps i g → h ≡ slice_index_or ps i h
    → g ≡ h
read_twice k ps i g h e first second = inside g h (sym (read_there k ps i g e first) ∙ read_there k ps i h e second)

pub within_there : (k : ℕ) (ps : List Entry) (i : ℕ) → has_at k (handles_there ps) i ≡ true → i < length ps
within_there k [] i e = absurd (true≢false (sym e))
within_there k (p ∷ ps) zero e = omega arith
within_there k (p ∷ ps) (suc i) e = let low = within_there k ps i e in omega (arith, low)

pub somebody_there : (k : ℕ) (ps : List Entry) (i : ℕ) → has_at k (handles_there ps) i ≡ true → (k == nobody) ≡ false
somebody_there k [] i e = absurd (true≢false (sym e))
somebody_there k (p ∷ ps) zero e = numbered_somebody k p e
somebody_there k (p ∷ ps) (suc i) e = somebody_there k ps i e

pub set_in : (ps : List Entry) (i : ℕ) (h : Entry) (o : Option Entry) → handle_in h ≡ o → handles_there (slice_set ps i h) ≡ slice_set (handles_there ps) i o
set_in ps i h o is = map-set handle_in ps i h ∙ ap (λ p. slice_set (handles_there ps) i p) is

pub push_in : (ps qs : List Entry) (h : Entry) → qs ≡ ps ++ h ∷ [] → handle_in h ≡ Some h → handles_there qs ≡ handles_there ps ++ Some h ∷ []
push_in ps qs h grown is = ap (λ xs. handles_there xs) grown ∙ map-append handle_in ps (h ∷ []) ∙ ap (λ o. handles_there ps ++ o ∷ []) is

-- ---- searches

pub number_at : (k : ℕ) (ps : List Entry) (i : ℕ) → k < nobody → has_number_at k ps i ≡ true → has_at k (handles_there ps) i ≡ true
number_at k [] i low e = absurd (true≢false (sym e))
number_at k (p ∷ ps) zero low e = numbered_same k p low ∙ e
number_at k (p ∷ ps) (suc i) low e = number_at k ps i low e

-- nobody is not there
pub nobody_there : (ps : List Entry) → in_places (handles_there ps) nobody ≡ None
nobody_there [] = refl
nobody_there (p ∷ ps) = by_case (p.number == nobody) refl (nobody_there ps)
  where
    by_case : (b : Bool) → (p.number == nobody) ≡ b → in_places (handles_there ps) nobody ≡ None
        → in_places ((if b then None else Some p) ∷ handles_there ps) nobody ≡ None
    by_case true e rest = rest
    by_case false e rest = ap (λ (c : Bool). if c then Some p else in_places (handles_there ps) nobody) e ∙ rest

position_there : (k : ℕ) (ps : List Entry) → k < nobody → position_or_len (is_numbered k) (handles_there ps) ≡ position_or_len (has_that k) ps
position_there k [] low = refl
position_there k (p ∷ ps) low = ap₂ (λ (b : Bool) (n : ℕ). if not b then 1 + n else 0) (numbered_same k p low) (position_there k ps low)

first_there : (k : ℕ) (ps : List Entry) → k < nobody → position (is_numbered k) (handles_there ps) ≡ position (has_that k) ps
first_there k ps low = ap₂ (λ (m n : ℕ). cond (nat_lt m n) (Some m) None) (position_there k ps low) (length-map ps handle_in)

pub found_at : (k : ℕ) (ps : List Entry) (i : ℕ) → k < nobody → position (has_that k) ps ≡ Some i → has_at k (handles_there ps) i ≡ true
found_at k ps i low e = found_there k (handles_there ps) i (first_there k ps low ∙ e)

pub found_nowhere : (k : ℕ) (ps : List Entry) → k < nobody → position (has_that k) ps ≡ None → in_places (handles_there ps) k ≡ None
found_nowhere k ps low e = not_found k (handles_there ps) (first_there k ps low ∙ e)

-- ---- of all places

pub count_there : (test : Option Entry → Bool) (ps : List Entry) → count_by (λ h. test (handle_in h)) ps ≡ count_by test (handles_there ps)
count_there test [] = refl
count_there test (p ∷ ps) =
    sum_by-cons (λ h. cond (test (handle_in h)) 1 0) p ps ∙ ap (λ n. cond (test (handle_in p)) 1 0 + n) (count_there test ps)
    ∙ sym (sum_by-cons (λ o. cond (test o) 1 0) (handle_in p) (handles_there ps))

pub any_there : (test : Option Entry → Bool) (ps : List Entry) → list_any (λ h. test (handle_in h)) ps ≡ list_any test (handles_there ps)
any_there test [] = refl
any_there test (p ∷ ps) = ap (λ (b : Bool). test (handle_in p) || b) (any_there test ps)
