-- A change of the count of one way is a change at one place.
use Rattle.std.proofs.Common.{◌≡◌, ℕ, zero, suc, ◌+◌, ◌<◌, ◌≤◌, Bool, not, true, false, cond, List, [], ◌∷◌, length, get_or, map, Some, None, refl, ap, sym, subst, ◌∙◌, arith, slice_set}
use Rattle.std.specs.Prelude.{position, nat_lt}
use Rattle.std.specs.List.{prefix_len}
use Rattle.std.proofs.lemmas.Option.{none-some}
use Rattle.std.proofs.lemmas.Bool.{ltb-false}
use Rattle.std.proofs.lemmas.List.Quantifiers.{position-Some}
use Rattle.iox_model.specs.declared.way.Way.{Way}
use Rattle.iox_model.specs.Maps.{same_way}
use Rattle.iox_laws.proofs.WeaveLaws.MapLemmas.{same_way-true}
use Rattle.iox_wire_locals.specs.declared.table.Borrowed.{Borrowed}
use Rattle.iox_wire_locals.specs.Desks.{with_count}
use Rattle.iox_wire_seats.specs.Counts.{AreOfOtherWays, AreOfDifferentWays, IsBelow}

-- ---- where no count is of the way

pub others_stay : (w : Way) (f : ℕ → ℕ) (bs : List Borrowed) → AreOfOtherWays w bs → bs ≡ map (with_count w f) bs
others_stay w f [] other = refl
others_stay w f (b ∷ bs) other =
    ap (λ xs. b ∷ xs) (others_stay w f bs other.1)
    ∙ sym (ap (λ t. cond t (record b { count = f b.count }) b ∷ map (with_count w f) bs) other.0)

none_from : (w : Way) (bs : List Borrowed) → length bs ≤ prefix_len (λ b. not (same_way b.way w)) bs → AreOfOtherWays w bs
none_from w [] h = tt
none_from w (b ∷ bs) h = by_case (same_way b.way w) refl h (none_from w bs)
  where
    by_case : (t : Bool) → same_way b.way w ≡ t
        → suc (length bs) ≤ cond (not t) (1 + prefix_len (λ b. not (same_way b.way w)) bs) 0
        → (length bs ≤ prefix_len (λ b. not (same_way b.way w)) bs → AreOfOtherWays w bs)
        → (same_way b.way w ≡ false) × AreOfOtherWays w bs
    by_case true is h rest = absurd (omega (arith, h))
    by_case false is h rest = (is, rest (omega (arith, h)))

pub some-none : {n : ℕ} → Some n ≡ None → ⊥
some-none e = none-some _ (sym e)

pub none_is : (w : Way) (bs : List Borrowed) → position (λ b. same_way b.way w) bs ≡ None → AreOfOtherWays w bs
none_is w bs e = by_case (nat_lt (prefix_len (λ b. not (same_way b.way w)) bs) (length bs)) refl e
  where
    by_case : (t : Bool) → nat_lt (prefix_len (λ b. not (same_way b.way w)) bs) (length bs) ≡ t
        → cond t (Some (prefix_len (λ b. not (same_way b.way w)) bs)) None ≡ None → AreOfOtherWays w bs
    by_case true is none = absurd (some-none none)
    by_case false is none = none_from w bs (ltb-false _ _ is)

-- ---- where one is

pub changed_at : (w : Way) (f : ℕ → ℕ) (bs : List Borrowed) (i : ℕ) (d : Borrowed) → AreOfDifferentWays bs → i < length bs
    → same_way (get_or bs i d).way w ≡ true → ((k : ℕ) → k < i → same_way (get_or bs k d).way w ≡ false)
    → slice_set bs i (record { way = (get_or bs i d).way; count = f (get_or bs i d).count }) ≡ map (with_count w f) bs
changed_at w f [] i d apart h is first = absurd (omega (arith, h))
changed_at w f (b ∷ bs) zero d apart h is first =
    ap (λ xs. record { way = b.way; count = f b.count } ∷ xs)
    (others_stay w f bs (subst (λ v. AreOfOtherWays v bs) (same_way-true b.way w is) apart.0))
    ∙ sym (ap (λ t. cond t (record b { count = f b.count }) b ∷ map (with_count w f) bs) is)
changed_at w f (b ∷ bs) (suc i) d apart h is first =
    ap (λ xs. b ∷ xs) (changed_at w f bs i d apart.1 (omega (arith, h)) is (λ k j. first (suc k) (omega (arith, j))))
    ∙ sym (ap (λ t. cond t (record b { count = f b.count }) b ∷ map (with_count w f) bs) (first 0 (omega arith)))

-- the ways stay
OtherWays-set : (v : Way) (bs : List Borrowed) (i : ℕ) (d b : Borrowed) → b.way ≡ (get_or bs i d).way → i < length bs
    → AreOfOtherWays v bs → AreOfOtherWays v (slice_set bs i b)
OtherWays-set v [] i d b e h other = tt
OtherWays-set v (x ∷ bs) zero d b e h other = (ap (λ y. same_way y v) e ∙ other.0, other.1)
OtherWays-set v (x ∷ bs) (suc i) d b e h other = (other.0, OtherWays-set v bs i d b e (omega (arith, h)) other.1)

pub DifferentWays-set : (bs : List Borrowed) (i : ℕ) (d b : Borrowed) → b.way ≡ (get_or bs i d).way → i < length bs
    → AreOfDifferentWays bs → AreOfDifferentWays (slice_set bs i b)
DifferentWays-set [] i d b e h apart = tt
DifferentWays-set (x ∷ bs) zero d b e h apart = (subst (λ v. AreOfOtherWays v bs) (sym e) apart.0, apart.1)
DifferentWays-set (x ∷ bs) (suc i) d b e h apart =
    (OtherWays-set x.way bs i d b e (omega (arith, h)) apart.0, DifferentWays-set bs i d b e (omega (arith, h)) apart.1)

pub count_below : (n : ℕ) (w : Way) (bs : List Borrowed) (i : ℕ) (d : Borrowed) → IsBelow n w bs → i < length bs
    → same_way (get_or bs i d).way w ≡ true → (get_or bs i d).count < n
count_below n w [] i d below h is = absurd (omega (arith, h))
count_below n w (b ∷ bs) zero d below h is = below.0 is
count_below n w (b ∷ bs) (suc i) d below h is = count_below n w bs i d below.1 (omega (arith, h)) is

-- ---- what was read at the place of the way

pub stored_at : (w : Way) (f : ℕ → ℕ) (bs : List Borrowed) (i : ℕ) (b : Borrowed) → AreOfDifferentWays bs
    → Some i ≡ position (λ x. same_way x.way w) bs → b ≡ get_or bs i b
    → slice_set bs i (record { way = b.way; count = f b.count }) ≡ map (with_count w f) bs
stored_at w f bs i b apart at read =
    let facts = position-Some (λ (x : Borrowed). same_way x.way w) bs i b (sym at) in
    ap (λ (x : Borrowed). slice_set bs i (record { way = x.way; count = f x.count })) read
    ∙ changed_at w f bs i b apart facts.0 facts.1 facts.2

pub kept_apart : (bs : List Borrowed) (i : ℕ) (b : Borrowed) (n : ℕ) (w : Way) → AreOfDifferentWays bs
    → Some i ≡ position (λ x. same_way x.way w) bs → b ≡ get_or bs i b
    → AreOfDifferentWays (slice_set bs i (record { way = b.way; count = n }))
kept_apart bs i b n w apart at read =
    let facts = position-Some (λ (x : Borrowed). same_way x.way w) bs i b (sym at) in
    DifferentWays-set bs i b (record { way = b.way; count = n }) (ap (λ (x : Borrowed). x.way) read) facts.0 apart

pub count_read : (n : ℕ) (w : Way) (bs : List Borrowed) (i : ℕ) (b : Borrowed) → IsBelow n w bs
    → Some i ≡ position (λ x. same_way x.way w) bs → b ≡ get_or bs i b → b.count < n
count_read n w bs i b below at read =
    let facts = position-Some (λ (x : Borrowed). same_way x.way w) bs i b (sym at) in
    subst (λ (x : Borrowed). x.count < n) (sym read) (count_below n w bs i b below facts.0 facts.1)
