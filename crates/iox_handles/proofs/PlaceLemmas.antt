-- Handles in places: which handle has a number, and how that changes with one place.
use Rattle.std.specs.Prelude.{◌≡◌, ℕ, ◌+◌, ◌<◌, ◌≤◌, zero, suc, nat_lt, Bool, true, false, not, if◌then◌else◌, ◌==◌, List, [], ◌∷◌, ◌++◌, length, Option, Some, None, position, slice_get, slice_set, slice_index_or, refl, ⊤}
use Rattle.std.specs.Option.{option_map_or}
use Rattle.std.specs.List.{position_or_len}
use Rattle.std.proofs.Common.{sym, ap, ◌∙◌, true≢false, eqb-true, eq-eqb, arith}
use Rattle.std.proofs.lemmas.Option.{none-some}
use Rattle.std.proofs.lemmas.Bool.{ltb-false}
use Rattle.std.proofs.lemmas.List.Quantifiers.{position-Some}
use Rattle.iox_handles.specs.declared.entry.Entry.{Entry}
use Rattle.iox_handles.specs.Places.{is_numbered, has_at, in_places, NumbersAreApart}
use Rattle.iox_handles.proofs.NumberLemmas.{same_number, other, AreOwn}

same_eq : (a b : ℕ) (c : Bool) → (a == b) ≡ c → (b == a) ≡ c
same_eq a b true e = eq-eqb b a (sym (eqb-true a b e))
same_eq a b false e = other a b e

pub inner : (o p : Option Entry) → Some o ≡ Some p → o ≡ p
inner o p e = ap (λ (q : Option (Option Entry)). option_map_or (λ r. r) q None) e

pub inside : (g h : Entry) → Some (Some g) ≡ Some (Some h) → g ≡ h
inside g h e = ap (λ (o : Option Entry). option_map_or (λ r. r) o g) (inner (Some g) (Some h) e)

pub own_numbers : (ps : List (Option Entry)) → AreOwn (in_places ps)
own_numbers [] k h e = absurd (none-some h e)
own_numbers (None ∷ ps) k h e = own_numbers ps k h e
own_numbers (Some g ∷ ps) k h e = by_case (g.number == k) refl (own_numbers ps k h) e
  where
    by_case : (b : Bool) → (g.number == k) ≡ b → (in_places ps k ≡ Some h → h.number ≡ k) → (if b then Some g else in_places ps k) ≡ Some h → h.number ≡ k
    by_case true is more at = ap (λ (o : Option Entry). option_map_or (λ r. r.number) o 0) (sym at) ∙ eqb-true g.number k is
    by_case false is more at = more at

-- a number that is not there is not the first's, nor one behind it
not_first : (g : Entry) (ps : List (Option Entry)) (k : ℕ) → in_places (Some g ∷ ps) k ≡ None → ((g.number == k) ≡ false) × (in_places ps k ≡ None)
not_first g ps k e = by_case (g.number == k) refl
  where
    by_case : (b : Bool) → (g.number == k) ≡ b → ((g.number == k) ≡ false) × (in_places ps k ≡ None)
    by_case true is = absurd (none-some g (sym e ∙ ap (λ (c : Bool). if c then Some g else in_places ps k) is))
    by_case false is = (is, sym (ap (λ (c : Bool). if c then Some g else in_places ps k) is) ∙ e)

-- two numbers that differ
apart_ifs : (g h : Entry) (k : ℕ) (x : Option Entry) (a b : Bool) → (g.number == k) ≡ a → (k == h.number) ≡ b → (g.number == h.number) ≡ false
    → (o : Option Entry) → (if a then Some g else (if b then o else x)) ≡ (if b then o else (if a then Some g else x))
apart_ifs g h k x true true ea eb apart o = absurd (true≢false (sym (ap (λ j. j == h.number) (eqb-true g.number k ea) ∙ eb) ∙ apart))
apart_ifs g h k x true false ea eb apart o = refl
apart_ifs g h k x false b ea eb apart o = refl

-- ---- a handle comes into a vacant place, or into a new one

pub put_in_place : (ps : List (Option Entry)) (i : ℕ) (h : Entry) (k : ℕ) → slice_get ps i ≡ Some None → in_places ps h.number ≡ None
    → in_places (slice_set ps i (Some h)) k ≡ (if k == h.number then Some h else in_places ps k)
put_in_place [] i h k vacant new = absurd (none-some None vacant)
put_in_place (None ∷ ps) zero h k vacant new = ap (λ (b : Bool). if b then Some h else in_places ps k) (same_eq k h.number (k == h.number) refl)
put_in_place (Some g ∷ ps) zero h k vacant new = absurd (none-some g (sym (inner (Some g) None vacant)))
put_in_place (None ∷ ps) (suc i) h k vacant new = put_in_place ps i h k vacant new
put_in_place (Some g ∷ ps) (suc i) h k vacant new =
    let parts : ((g.number == h.number) ≡ false) × (in_places ps h.number ≡ None) = not_first g ps h.number new in
    ap (λ o. if g.number == k then Some g else o) (put_in_place ps i h k vacant parts.1)
    ∙ apart_ifs g h k (in_places ps k) (g.number == k) (k == h.number) refl refl parts.0 (Some h)

pub put_behind : (ps : List (Option Entry)) (h : Entry) (k : ℕ) → in_places ps h.number ≡ None
    → in_places (ps ++ Some h ∷ []) k ≡ (if k == h.number then Some h else in_places ps k)
put_behind [] h k new = ap (λ (b : Bool). if b then Some h else None) (same_eq k h.number (k == h.number) refl)
put_behind (None ∷ ps) h k new = put_behind ps h k new
put_behind (Some g ∷ ps) h k new =
    let parts : ((g.number == h.number) ≡ false) × (in_places ps h.number ≡ None) = not_first g ps h.number new in
    ap (λ o. if g.number == k then Some g else o) (put_behind ps h k parts.1)
    ∙ apart_ifs g h k (in_places ps k) (g.number == k) (k == h.number) refl refl parts.0 (Some h)

-- another number is not there either
still_none : (g h : Entry) (ps : List (Option Entry)) → (g.number == h.number) ≡ false → in_places ps g.number ≡ None
    → (if g.number == h.number then Some h else in_places ps g.number) ≡ None
still_none g h ps differ none = ap (λ (b : Bool). if b then Some h else in_places ps g.number) differ ∙ none

pub apart_put : (ps : List (Option Entry)) (i : ℕ) (h : Entry) → slice_get ps i ≡ Some None → in_places ps h.number ≡ None → NumbersAreApart ps
    → NumbersAreApart (slice_set ps i (Some h))
apart_put [] i h vacant new apart = absurd (none-some None vacant)
apart_put (None ∷ ps) zero h vacant new apart = (new, apart)
apart_put (Some g ∷ ps) zero h vacant new apart = absurd (none-some g (sym (inner (Some g) None vacant)))
apart_put (None ∷ ps) (suc i) h vacant new apart = apart_put ps i h vacant new apart
apart_put (Some g ∷ ps) (suc i) h vacant new (first, apart) =
    let parts : ((g.number == h.number) ≡ false) × (in_places ps h.number ≡ None) = not_first g ps h.number new in
    (put_in_place ps i h g.number vacant parts.1 ∙ still_none g h ps parts.0 first, apart_put ps i h vacant parts.1 apart)

pub apart_behind : (ps : List (Option Entry)) (h : Entry) → in_places ps h.number ≡ None → NumbersAreApart ps → NumbersAreApart (ps ++ Some h ∷ [])
apart_behind [] h new apart = (refl, tt)
apart_behind (None ∷ ps) h new apart = apart_behind ps h new apart
apart_behind (Some g ∷ ps) h new (first, apart) =
    let parts : ((g.number == h.number) ≡ false) × (in_places ps h.number ≡ None) = not_first g ps h.number new in
    (put_behind ps h g.number parts.1 ∙ still_none g h ps parts.0 first, apart_behind ps h parts.1 apart)

-- ---- the handle of a place

is_there : (ps : List (Option Entry)) (i : ℕ) (h : Entry) → slice_get ps i ≡ Some (Some h) → in_places ps h.number ≡ None → ⊥
is_there [] i h at e = none-some (Some h) at
is_there (None ∷ ps) zero h at e = none-some h (inner None (Some h) at)
is_there (Some g ∷ ps) zero h at e =
    true≢false (sym (ap (λ (r : Entry). r.number == h.number) (inside g h at) ∙ same_number h.number) ∙ (not_first g ps h.number e).0)
is_there (None ∷ ps) (suc i) h at e = is_there ps i h at e
is_there (Some g ∷ ps) (suc i) h at e = is_there ps i h at (not_first g ps h.number e).1

-- the first of two handles has another number
first_differs : (g h : Entry) (ps : List (Option Entry)) (i : ℕ) → slice_get ps i ≡ Some (Some h) → in_places ps g.number ≡ None → (g.number == h.number) ≡ false
first_differs g h ps i at none = differ (g.number == h.number) refl
  where
    differ : (b : Bool) → (g.number == h.number) ≡ b → b ≡ false
    differ true e = absurd (is_there ps i h at (ap (in_places ps) (sym (eqb-true g.number h.number e)) ∙ none))
    differ false e = refl

pub of_place : (ps : List (Option Entry)) (i : ℕ) (h : Entry) → slice_get ps i ≡ Some (Some h) → NumbersAreApart ps → in_places ps h.number ≡ Some h
of_place [] i h at apart = absurd (none-some (Some h) at)
of_place (None ∷ ps) zero h at apart = absurd (none-some h (inner None (Some h) at))
of_place (Some g ∷ ps) zero h at apart =
    ap (λ (r : Entry). if r.number == h.number then Some r else in_places ps h.number) (inside g h at)
    ∙ ap (λ (b : Bool). if b then Some h else in_places ps h.number) (same_number h.number)
of_place (None ∷ ps) (suc i) h at apart = of_place ps i h at apart
of_place (Some g ∷ ps) (suc i) h at (first, apart) =
    ap (λ (b : Bool). if b then Some g else in_places ps h.number) (first_differs g h ps i at first) ∙ of_place ps i h at apart

-- ---- a handle leaves its place, or changes there: o is what stands there then

-- none, or a handle of that number
abbrev pub IsSameOrNone : ℕ → Option Entry → Type 0
IsSameOrNone n None = ⊤
IsSameOrNone n (Some h) = h.number ≡ n

pub set_in_place : (ps : List (Option Entry)) (i : ℕ) (h : Entry) (o : Option Entry) (k : ℕ) → slice_get ps i ≡ Some (Some h) → NumbersAreApart ps
    → IsSameOrNone h.number o → in_places (slice_set ps i o) k ≡ (if k == h.number then o else in_places ps k)
set_in_place [] i h o k at apart same = absurd (none-some (Some h) at)
set_in_place (None ∷ ps) zero h o k at apart same = absurd (none-some h (inner None (Some h) at))
set_in_place (Some g ∷ ps) zero h o k at (first, apart) same =
    let eq : g ≡ h = inside g h at in
    let none : in_places ps h.number ≡ None = ap (λ (r : Entry). in_places ps r.number) (sym eq) ∙ first in
    at_front o same (k == h.number) refl none
    ∙ ap (λ (b : Bool). if k == h.number then o else (if b then Some g else in_places ps k)) (sym (ap (λ (r : Entry). r.number == k) eq ∙ same_eq k h.number (k == h.number) refl))
  where
    at_front : (o : Option Entry) → IsSameOrNone h.number o → (b : Bool) → (k == h.number) ≡ b → in_places ps h.number ≡ None
        → in_places (o ∷ ps) k ≡ (if b then o else (if b then Some g else in_places ps k))
    at_front None same true e none = ap (in_places ps) (eqb-true k h.number e) ∙ none
    at_front None same false e none = refl
    at_front (Some n) same b e none = ap (λ (c : Bool). if c then Some n else in_places ps k) (ap (λ j. j == k) same ∙ same_eq k h.number b e) ∙ over b
      where
        over : (c : Bool) → (if c then Some n else in_places ps k) ≡ (if c then Some n else (if c then Some g else in_places ps k))
        over true = refl
        over false = refl
set_in_place (None ∷ ps) (suc i) h o k at apart same = set_in_place ps i h o k at apart same
set_in_place (Some g ∷ ps) (suc i) h o k at (first, apart) same =
    ap (λ x. if g.number == k then Some g else x) (set_in_place ps i h o k at apart same)
    ∙ apart_ifs g h k (in_places ps k) (g.number == k) (k == h.number) refl refl (first_differs g h ps i at first) o

pub apart_set : (ps : List (Option Entry)) (i : ℕ) (h : Entry) (o : Option Entry) → slice_get ps i ≡ Some (Some h) → NumbersAreApart ps
    → IsSameOrNone h.number o → NumbersAreApart (slice_set ps i o)
apart_set [] i h o at apart same = absurd (none-some (Some h) at)
apart_set (None ∷ ps) zero h o at apart same = absurd (none-some h (inner None (Some h) at))
apart_set (Some g ∷ ps) zero h None at (first, apart) same = apart
apart_set (Some g ∷ ps) zero h (Some n) at (first, apart) same =
    (ap (in_places ps) (same ∙ ap (λ (r : Entry). r.number) (sym (inside g h at))) ∙ first, apart)
apart_set (None ∷ ps) (suc i) h o at apart same = apart_set ps i h o at apart same
apart_set (Some g ∷ ps) (suc i) h o at (first, apart) same = (
  set_in_place ps i h o g.number at apart same
      ∙ ap (λ (b : Bool). if b then o else in_places ps g.number) (first_differs g h ps i at first) ∙ first,
  apart_set ps i h o at apart same,
)

-- ---- searches

-- a place that has the number
pub has_there : (k : ℕ) (ps : List (Option Entry)) (i : ℕ) → has_at k ps i ≡ true → (h : Entry) × (slice_get ps i ≡ Some (Some h)) × (h.number ≡ k)
has_there k [] i e = absurd (true≢false (sym e))
has_there k (None ∷ ps) zero e = absurd (true≢false (sym e))
has_there k (Some h ∷ ps) zero e = (h, refl, eqb-true h.number k e)
has_there k (o ∷ ps) (suc i) e = has_there k ps i e

pub there_has : (k : ℕ) (ps : List (Option Entry)) (i : ℕ) (d : Option Entry) → i < length ps → is_numbered k (slice_index_or ps i d) ≡ true → has_at k ps i ≡ true
there_has k [] i d within e = absurd (omega arith)
there_has k (o ∷ ps) zero d within e = e
there_has k (o ∷ ps) (suc i) d within e = there_has k ps i d (omega arith) e

none_before_the_end : (k : ℕ) (ps : List (Option Entry)) → length ps ≤ position_or_len (is_numbered k) ps → in_places ps k ≡ None
none_before_the_end k [] past = refl
none_before_the_end k (None ∷ ps) past = none_before_the_end k ps (omega arith)
none_before_the_end k (Some h ∷ ps) past = by_case (h.number == k) refl (none_before_the_end k ps)
  where
    by_case : (b : Bool) → (h.number == k) ≡ b → (length ps ≤ position_or_len (is_numbered k) ps → in_places ps k ≡ None)
        → (if b then Some h else in_places ps k) ≡ None
    by_case true e more =
        let zero_is : position_or_len (is_numbered k) (Some h ∷ ps) ≡ 0 = ap (λ (b : Bool). if not b then 1 + position_or_len (is_numbered k) ps else 0) e in
        absurd (omega (arith, zero_is, past))
    by_case false e more =
        let one_more : position_or_len (is_numbered k) (Some h ∷ ps) ≡ 1 + position_or_len (is_numbered k) ps = ap (λ (b : Bool). if not b then 1 + position_or_len (is_numbered k) ps else 0) e in
        more (omega (arith, one_more, past))

pub not_found : (k : ℕ) (ps : List (Option Entry)) → position (is_numbered k) ps ≡ None → in_places ps k ≡ None
not_found k ps e = by_case (nat_lt (position_or_len (is_numbered k) ps) (length ps)) refl
  where
    by_case : (b : Bool) → nat_lt (position_or_len (is_numbered k) ps) (length ps) ≡ b → in_places ps k ≡ None
    by_case true is = absurd (none-some (position_or_len (is_numbered k) ps) (sym e ∙ ap (λ (b : Bool). if b then Some (position_or_len (is_numbered k) ps) else None) is))
    by_case false is = none_before_the_end k ps (ltb-false (position_or_len (is_numbered k) ps) (length ps) is)

pub found_there : (k : ℕ) (ps : List (Option Entry)) (i : ℕ) → position (is_numbered k) ps ≡ Some i → has_at k ps i ≡ true
found_there k ps i e =
    let at = position-Some (is_numbered k) ps i None e in
    there_has k ps i None at.0 at.1
