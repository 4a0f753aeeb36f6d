-- Loans and pending responses are counted by groups of kinds and by remainders of ports' numbers.
use Rattle.std.specs.Prelude.{◌≡◌, nat_lt, replicate, ℕ, zero, suc, ◌+◌, ◌-◌, ◌<◌, ◌≤◌, ◌^◌, ◌%◌, ◌*◌, Bool, true, false, ◌&&◌, ◌||◌, ◌==◌, List, [], ◌∷◌, ◌++◌, length, filter, Option, Some, None, cond, count_by, if◌then◌else◌, slice_get, slice_set, slice_index_or, refl}
use Rattle.std.proofs.Common.{sym, ap, ap₂, subst, ◌∙◌, arith, true≢false, eqb-true, eq-eqb, zero-add}
use Rattle.std.proofs.lemmas.List.{get_or-set_other, get_or-set_same, length-set}
use Rattle.std.proofs.lemmas.Bool.{ltb-true, ltb-false}
use Rattle.std.proofs.Math.ListN.{get_or-eq_default}
use Rattle.std.proofs.lemmas.List.Sums.{sum_by-append, sum_by-set, count_by-le-length}
use Rattle.iox_model.specs.Handles.{kind_code, same_kind}
use Rattle.iox_handles.proofs.CountLemmas.{passing-places}
use Rattle.std.proofs.lemmas.Option.{none-some, get_or_from_slice_get, slice_get_within}
use Rattle.iox_model.specs.declared.kind.Kind.{Kind}
use Rattle.iox_handles.specs.declared.tally.Tally.{Tally}
use Rattle.iox_handles.specs.declared.entry.Entry.{Entry}
use Rattle.iox_handles.specs.Places.{NumbersAreApart, IsTable, handles_in, in_places, passes}
use Rattle.iox_handles.specs.Tables.{group_of, is_like, is_of}
use Rattle.iox_handles.specs.Tallies.{IsTallied, is_counted_at, tally_place}

-- ---- places

pub place_within : (port : ℕ) (k : Kind) → group_of k < 3 → tally_place port k < 192
place_within port k few = omega (arith, few)

pub all_same : (z n i : ℕ) → slice_index_or (replicate n z) i z ≡ z
all_same z zero i = refl
all_same z (suc n) zero = refl
all_same z (suc n) (suc i) = all_same z n i

-- no handle is counted where there is none
pub none_tallied : (t : Tally) → (length t.counts ≡ 192) → ((i : ℕ) → slice_index_or t.counts i 0 ≡ 0) → IsTallied t.counts []
none_tallied t size none = record { size = size; each = λ i low. none i }

-- ---- one place changes

abbrev one_if : Bool → ℕ
one_if b = cond b 1 0

-- how many are counted at a place, before a place of the table changes and after
set_count : (ps : List (Option Entry)) (j : ℕ) (old new : Option Entry) → slice_get ps j ≡ Some old → (i : ℕ)
    → count_by (passes (is_counted_at i)) (slice_set ps j new) + one_if (passes (is_counted_at i) old)
    ≡ count_by (passes (is_counted_at i)) ps + one_if (passes (is_counted_at i) new)
set_count ps j old new at i =
    ap (λ o. count_by (passes (is_counted_at i)) (slice_set ps j new) + one_if (passes (is_counted_at i) o))
    (sym (get_or_from_slice_get ps j old old at))
    ∙ sum_by-set (λ o. one_if (passes (is_counted_at i) o)) ps j new old (slice_get_within ps j old at)

differ : (a b : ℕ) → (a == b) ≡ false → a ≡ b → ⊥
differ a b e same = true≢false (sym (eq-eqb a b same) ∙ e)

-- one place of the counts is another
module _ (counts : List ℕ) (at value : ℕ) (size : length counts ≡ 192) where
  same_there : (i : ℕ) → i < 192 → (at == i) ≡ true → slice_index_or (slice_set counts at value) i 0 ≡ value
  same_there i low e =
      let same : at ≡ i = eqb-true at i e in
      ap (λ k. slice_index_or (slice_set counts at value) k 0) (sym same)
      ∙ get_or-set_same counts at value 0 (omega (arith, low, same, size))

  same_else : (i : ℕ) → (at == i) ≡ false → slice_index_or (slice_set counts at value) i 0 ≡ slice_index_or counts i 0
  same_else i e = get_or-set_other counts at i value 0 (λ same. differ at i e (sym same))

-- how many the table counts at a place
abbrev at_place : List ℕ → Entry → ℕ
at_place counts h = slice_index_or counts (tally_place h.port h.kind) 0

-- ---- a handle comes

pub tallied-put : (counts : List ℕ) (ps : List (Option Entry)) (j : ℕ) (h : Entry) → IsTallied counts ps → slice_get ps j ≡ Some None
    → IsTallied (slice_set counts (tally_place h.port h.kind) (at_place counts h + 1)) (slice_set ps j (Some h))
tallied-put counts ps j h t at = record { size = length-set counts place _ ∙ t.size; each = each }
  where
    place : ℕ
    place = tally_place h.port h.kind

    each : (i : ℕ) → i < 192 → slice_index_or (slice_set counts place (at_place counts h + 1)) i 0 ≡ count_by (passes (is_counted_at i)) (slice_set ps j (Some h))
    each i low = step (place == i) refl
      where
        step : (b : Bool) → (place == i) ≡ b
            → slice_index_or (slice_set counts place (at_place counts h + 1)) i 0 ≡ count_by (passes (is_counted_at i)) (slice_set ps j (Some h))
        step true e =
            let set = set_count ps j None (Some h) at i in let one : one_if (place == i) ≡ 1 = ap one_if e in
            let was = t.each i low in let there = same_there counts place (at_place counts h + 1) t.size i low e in
            let same : at_place counts h ≡ slice_index_or counts i 0 = ap (λ k. slice_index_or counts k 0) (eqb-true place i e) in
            there ∙ omega (arith, set, one, was, same)
        step false e =
            let set = set_count ps j None (Some h) at i in let none : one_if (place == i) ≡ 0 = ap one_if e in
            let was = t.each i low in let there = same_else counts place (at_place counts h + 1) t.size i e in
            there ∙ omega (arith, set, none, was)

pub tallied-behind : (counts : List ℕ) (ps : List (Option Entry)) (h : Entry) → IsTallied counts ps
    → IsTallied (slice_set counts (tally_place h.port h.kind) (at_place counts h + 1)) (ps ++ Some h ∷ [])
tallied-behind counts ps h t = record { size = length-set counts place _ ∙ t.size; each = each }
  where
    place : ℕ
    place = tally_place h.port h.kind

    each : (i : ℕ) → i < 192 → slice_index_or (slice_set counts place (at_place counts h + 1)) i 0 ≡ count_by (passes (is_counted_at i)) (ps ++ Some h ∷ [])
    each i low = step (place == i) refl
      where
        more : count_by (passes (is_counted_at i)) (ps ++ Some h ∷ []) ≡ count_by (passes (is_counted_at i)) ps + one_if (place == i)
        more = sum_by-append (λ o. one_if (passes (is_counted_at i) o)) ps (Some h ∷ [])
            ∙ ap (λ n. count_by (passes (is_counted_at i)) ps + n) (zero-add (one_if (place == i)))

        step : (b : Bool) → (place == i) ≡ b
            → slice_index_or (slice_set counts place (at_place counts h + 1)) i 0 ≡ count_by (passes (is_counted_at i)) (ps ++ Some h ∷ [])
        step true e =
            let one : one_if (place == i) ≡ 1 = ap one_if e in let was = t.each i low in
            let there = same_there counts place (at_place counts h + 1) t.size i low e in
            let same : at_place counts h ≡ slice_index_or counts i 0 = ap (λ k. slice_index_or counts k 0) (eqb-true place i e) in
            there ∙ omega (arith, more, one, was, same)
        step false e =
            let none : one_if (place == i) ≡ 0 = ap one_if e in let was = t.each i low in
            let there = same_else counts place (at_place counts h + 1) t.size i e in
            there ∙ omega (arith, more, none, was)

-- ---- a handle goes

pub tallied-take : (counts : List ℕ) (ps : List (Option Entry)) (j : ℕ) (h : Entry) → IsTallied counts ps → slice_get ps j ≡ Some (Some h)
    → IsTallied (slice_set counts (tally_place h.port h.kind) (at_place counts h - 1)) (slice_set ps j None)
tallied-take counts ps j h t at = record { size = length-set counts place _ ∙ t.size; each = each }
  where
    place : ℕ
    place = tally_place h.port h.kind

    each : (i : ℕ) → i < 192 → slice_index_or (slice_set counts place (at_place counts h - 1)) i 0 ≡ count_by (passes (is_counted_at i)) (slice_set ps j None)
    each i low = step (place == i) refl
      where
        step : (b : Bool) → (place == i) ≡ b
            → slice_index_or (slice_set counts place (at_place counts h - 1)) i 0 ≡ count_by (passes (is_counted_at i)) (slice_set ps j None)
        step true e =
            let set = set_count ps j (Some h) None at i in let one : one_if (place == i) ≡ 1 = ap one_if e in
            let was = t.each i low in let there = same_there counts place (at_place counts h - 1) t.size i low e in
            let same : at_place counts h ≡ slice_index_or counts i 0 = ap (λ k. slice_index_or counts k 0) (eqb-true place i e) in
            there ∙ omega (arith, set, one, was, same)
        step false e =
            let set = set_count ps j (Some h) None at i in let none : one_if (place == i) ≡ 0 = ap one_if e in
            let was = t.each i low in let there = same_else counts place (at_place counts h - 1) t.size i e in
            there ∙ omega (arith, set, none, was)

-- the handle in a place is counted
pub is_counted : (counts : List ℕ) (ps : List (Option Entry)) (j : ℕ) (h : Entry) → IsTallied counts ps → slice_get ps j ≡ Some (Some h)
    → group_of h.kind < 3 → 0 < at_place counts h
is_counted counts ps j h t at few =
    let set = set_count ps j (Some h) None at (tally_place h.port h.kind) in
    let was = t.each (tally_place h.port h.kind) (place_within h.port h.kind few) in
    let one : one_if (tally_place h.port h.kind == tally_place h.port h.kind) ≡ 1 = ap one_if (eq-eqb (tally_place h.port h.kind) (tally_place h.port h.kind) refl) in
    omega (arith, set, was, one)

-- no more are counted than there are places
pub few_counted : (counts : List ℕ) (ps : List (Option Entry)) (port : ℕ) (kind : Kind) → IsTallied counts ps
    → slice_index_or counts (tally_place port kind) 0 ≤ length ps
few_counted counts ps port kind t = by_case (nat_lt (tally_place port kind) 192) refl
  where
    by_case : (b : Bool) → nat_lt (tally_place port kind) 192 ≡ b → slice_index_or counts (tally_place port kind) 0 ≤ length ps
    by_case true e =
        let few = count_by-le-length (passes (is_counted_at (tally_place port kind))) ps in
        let was = t.each (tally_place port kind) (ltb-true (tally_place port kind) 192 e) in
        omega (arith, few, was)
    by_case false e =
        let past : length counts ≤ tally_place port kind = subst (λ n. n ≤ tally_place port kind) (sym t.size) (ltb-false (tally_place port kind) 192 e) in
        let none : slice_index_or counts (tally_place port kind) 0 ≡ 0 = get_or-eq_default counts 0 past in
        omega (arith, none)

-- ---- a handle changes

-- a place that is emptied is vacant, and what is put there then stands there
vacant_after : {X : Type 0} (ps : List X) (j : ℕ) (old new : X) → slice_get ps j ≡ Some old → slice_get (slice_set ps j new) j ≡ Some new
vacant_after [] j old new e = absurd (none-some old e)
vacant_after (p ∷ ps) zero old new e = refl
vacant_after (p ∷ ps) (suc j) old new e = vacant_after ps j old new e

put_twice : {X : Type 0} (ps : List X) (j : ℕ) (a b : X) → slice_set (slice_set ps j a) j b ≡ slice_set ps j b
put_twice [] j a b = refl
put_twice (p ∷ ps) zero a b = refl
put_twice (p ∷ ps) (suc j) a b = ap (λ qs. p ∷ qs) (put_twice ps j a b)

pub tallied-change : (counts less more : List ℕ) (ps : List (Option Entry)) (j : ℕ) (h n : Entry) → IsTallied counts ps → slice_get ps j ≡ Some (Some h)
    → less ≡ slice_set counts (tally_place h.port h.kind) (at_place counts h - 1)
    → more ≡ slice_set less (tally_place n.port n.kind) (at_place less n + 1) → IsTallied more (slice_set ps j (Some n))
tallied-change counts less more ps j h n t at first second =
    let took : IsTallied less (slice_set ps j None) = subst (λ cs. IsTallied cs (slice_set ps j None)) (sym first) (tallied-take counts ps j h t at) in
    subst (λ qs. IsTallied more qs) (put_twice ps j None (Some n))
    (subst (λ cs. IsTallied cs (slice_set (slice_set ps j None) j (Some n))) (sym second)
    (tallied-put less (slice_set ps j None) j n took (vacant_after ps j (Some h) None at)))

-- one that is counted where the old one was
pub tallied-alike : (counts : List ℕ) (ps : List (Option Entry)) (j : ℕ) (h n : Entry) → IsTallied counts ps → slice_get ps j ≡ Some (Some h)
    → tally_place n.port n.kind ≡ tally_place h.port h.kind → IsTallied counts (slice_set ps j (Some n))
tallied-alike counts ps j h n t at same = record { size = t.size; each = each }
  where
    each : (i : ℕ) → i < 192 → slice_index_or counts i 0 ≡ count_by (passes (is_counted_at i)) (slice_set ps j (Some n))
    each i low =
        let set = set_count ps j (Some h) (Some n) at i in
        let equal : one_if (tally_place n.port n.kind == i) ≡ one_if (tally_place h.port h.kind == i) = ap (λ m. one_if (m == i)) same in
        let was = t.each i low in
        omega (arith, set, equal, was)

-- there is memory for all places
pub few_places : (ps : List (Option Entry)) (free : List ℕ) (room next pc fc : ℕ) → IsTable ps free room next pc fc → length ps ≤ pc
few_places ps free room next pc fc t = let fits = t.fits in let promised = t.promised in omega (arith, fits, promised)

-- and there is room to count it
pub may_count : (counts : List ℕ) (ps : List (Option Entry)) (capacity port : ℕ) (kind : Kind) → IsTallied counts ps → length ps ≤ capacity → capacity < 2 ^ 63
    → slice_index_or counts (tally_place port kind) 0 + 1 < 2 ^ 64
may_count counts ps capacity port kind t within small =
    let few = few_counted counts ps port kind t in omega (arith, few, within, small)

pub may_count_changed : (counts less : List ℕ) (ps : List (Option Entry)) (j capacity : ℕ) (h : Entry) (port : ℕ) (kind : Kind) → IsTallied counts ps
    → slice_get ps j ≡ Some (Some h) → less ≡ slice_set counts (tally_place h.port h.kind) (at_place counts h - 1) → length ps ≤ capacity → capacity < 2 ^ 63
    → slice_index_or less (tally_place port kind) 0 + 1 < 2 ^ 64
may_count_changed counts less ps j capacity h port kind t at first within small =
    may_count less (slice_set ps j None) capacity port kind
    (subst (λ cs. IsTallied cs (slice_set ps j None)) (sym first) (tallied-take counts ps j h t at))
    (subst (λ m. m ≤ capacity) (sym (length-set ps j None)) within) small

-- ---- what is told

no_more : {A : Type 0} (f g : A → Bool) (xs : List A) → ((x : A) → f x ≡ true → g x ≡ true) → length (filter f xs) ≤ length (filter g xs)
no_more f g [] all = omega arith
no_more f g (x ∷ xs) all = step (f x) refl (g x) refl (no_more f g xs all)
  where
    step : (a : Bool) → f x ≡ a → (b : Bool) → g x ≡ b → length (filter f xs) ≤ length (filter g xs)
        → length (if a then x ∷ filter f xs else filter f xs) ≤ length (if b then x ∷ filter g xs else filter g xs)
    step true e true h rest = omega (arith, rest)
    step true e false h rest = absurd (true≢false (sym (all x e) ∙ h))
    step false e true h rest = omega (arith, rest)
    step false e false h rest = rest

-- handles of a port and kind are counted in one place
is_there : (port : ℕ) (kind : Kind) (h : Entry) → is_like port kind h ≡ true → is_counted_at (tally_place port kind) h ≡ true
is_there port kind h e = both (h.port == port) (group_of h.kind == group_of kind) refl refl e
  where
    both : (a b : Bool) → (h.port == port) ≡ a → (group_of h.kind == group_of kind) ≡ b → (a && b) ≡ true → is_counted_at (tally_place port kind) h ≡ true
    both true true p g e =
        eq-eqb _ _ (ap₂ (λ m n. m * 64 + n % 64) (eqb-true (group_of h.kind) (group_of kind) g) (eqb-true h.port port p))
    both true false p g e = absurd (true≢false (sym e))
    both false b p g e = absurd (true≢false (sym e))

pub as_counted : (counts : List ℕ) (ps : List (Option Entry)) (next port : ℕ) (kind : Kind) → IsTallied counts ps → NumbersAreApart ps
    → ((k : ℕ) → next ≤ k → in_places ps k ≡ None) → group_of kind < 3
    → slice_index_or counts (tally_place port kind) 0 ≡ length (filter (is_counted_at (tally_place port kind)) (handles_in ps next))
as_counted counts ps next port kind t apart below few =
    t.each (tally_place port kind) (place_within port kind few) ∙ passing-places (is_counted_at (tally_place port kind)) ps next apart below

-- those of a port and kind are among those that are counted where they are
pub fewer_alike : (hs : List Entry) (port : ℕ) (kind : Kind)
    → length (filter (is_like port kind) hs) ≤ length (filter (is_counted_at (tally_place port kind)) hs)
fewer_alike hs port kind = no_more (is_like port kind) (is_counted_at (tally_place port kind)) hs (is_there port kind)

-- a group is told by the kind's number
abbrev group_by : ℕ → ℕ
group_by c = if (c == 3) || (c == 2) then 0 else if (c == 5) || (c == 4) then 1 else if c == 6 then 2 else 3

alike : (a b : Kind) → kind_code a ≡ kind_code b → group_of a ≡ group_of b
alike a b e = ap group_by e

-- where none are counted there is none
same_kind_alike : (port : ℕ) (kind : Kind) (h : Entry) → is_of port kind h ≡ true → is_like port kind h ≡ true
same_kind_alike port kind h e = both (h.port == port) (same_kind h.kind kind) refl e
  where
    both : (a b : Bool) → same_kind h.kind kind ≡ b → (a && b) ≡ true → (a && (group_of h.kind == group_of kind)) ≡ true
    both true true k e = eq-eqb _ _ (alike h.kind kind (eqb-true _ _ k))
    both true false k e = absurd (true≢false (sym e))
    both false b k e = absurd (true≢false (sym e))

pub none_counted : (counts : List ℕ) (ps : List (Option Entry)) (next port : ℕ) (kind : Kind) → IsTallied counts ps → NumbersAreApart ps
    → ((k : ℕ) → next ≤ k → in_places ps k ≡ None) → group_of kind < 3 → slice_index_or counts (tally_place port kind) 0 ≡ 0
    → 0 ≡ length (filter (is_of port kind) (handles_in ps next))
none_counted counts ps next port kind t apart below few none =
    let most = fewer_alike (handles_in ps next) port kind in
    let was = as_counted counts ps next port kind t apart below few in
    let fewer = no_more (is_of port kind) (is_like port kind) (handles_in ps next) (same_kind_alike port kind) in
    omega (arith, most, was, fewer, none)
