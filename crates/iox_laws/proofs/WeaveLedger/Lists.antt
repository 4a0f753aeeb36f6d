-- What is among a list, and lists without repeats.
use Rattle.std.specs.Prelude.{◌≡◌, ℕ, suc, ◌+◌, ◌≤◌, Bool, true, false, ◌||◌, if◌then◌else◌, ◌==◌, nat_le, List, [], ◌∷◌, ◌++◌, length, map, filter, flat_map, Some, find, ⊤, ◌⊎◌, refl}
use Rattle.std.specs.List.{list_any}
use Rattle.std.proofs.Common.{sym, subst, ap, ◌∙◌, arith, true≢false, eqb-true, inl, inr}
use Rattle.iox_model.specs.declared.way.Way.{Way}
use Rattle.iox_model.specs.Maps.{first_of, rest_of, has_number, same_way, has_way, without_way, AreDistinct}
use Rattle.iox_laws.proofs.WeaveLaws.MapLemmas.{eqb-refl, same_way-refl, same_way-true}
use Rattle.iox_laws.proofs.WeaveLaws.WholeLemmas.{some-is}
use Rattle.iox_laws.proofs.WeaveLedger.Orders.{le-zero}
use Rattle.iox_laws.proofs.WeaveLedger.Truths.{false_if, never, one_of, none-some}

-- ---- what is among a list

abbrev pub IsAmong : {A : Type 0} → A → List A → Type 0
IsAmong a [] = ⊥
IsAmong a (x ∷ xs) = (a ≡ x) ⊎ IsAmong a xs

pub among-last : {A : Type 0} (a x : A) (xs : List A) → IsAmong a (xs ++ x ∷ []) → IsAmong a xs ⊎ (a ≡ x)
among-last a x [] (inl e) = inr e
among-last a x [] (inr p) = absurd p
among-last a x (z ∷ zs) (inl e) = inl (inl e)
among-last a x (z ∷ zs) (inr p) = elim (among-last a x zs p) as (λ u. IsAmong a (z ∷ zs) ⊎ (a ≡ x)) [
  | inl q ↦ inl (inr q)
  | inr e ↦ inr e
]

pub among-append : {A : Type 0} (a : A) (xs ys : List A) → IsAmong a (xs ++ ys) → IsAmong a xs ⊎ IsAmong a ys
among-append a [] ys p = inr p
among-append a (x ∷ xs) ys (inl e) = inl (inl e)
among-append a (x ∷ xs) ys (inr p) = elim (among-append a xs ys p) as (λ u. IsAmong a (x ∷ xs) ⊎ IsAmong a ys) [
  | inl q ↦ inl (inr q)
  | inr q ↦ inr q
]

pub among-front : {A : Type 0} (a : A) (xs ys : List A) → IsAmong a xs → IsAmong a (xs ++ ys)
among-front a [] ys p = absurd p
among-front a (x ∷ xs) ys (inl e) = inl e
among-front a (x ∷ xs) ys (inr p) = inr (among-front a xs ys p)

pub among-back : {A : Type 0} (a : A) (xs ys : List A) → IsAmong a ys → IsAmong a (xs ++ ys)
among-back a [] ys p = p
among-back a (x ∷ xs) ys p = inr (among-back a xs ys p)

pub first-among : {A : Type 0} (a : A) (xs : List A) → first_of xs ≡ Some a → IsAmong a xs
first-among a [] e = none-some a e
first-among a (x ∷ xs) e = inl (sym (some-is x a e))

pub rest-among : {A : Type 0} (a : A) (xs : List A) → IsAmong a (rest_of xs) → IsAmong a xs
rest-among a [] p = p
rest-among a (x ∷ xs) p = inr p

pub filter-none : {A : Type 0} (test : A → Bool) (xs : List A) → ((x : A) → IsAmong x xs → test x ≡ false) → filter test xs ≡ []
filter-none test [] none = refl
filter-none test (x ∷ xs) none = by_case (test x) (none x (inl refl)) (filter-none test xs (λ y p. none y (inr p)))
  where
    by_case : (b : Bool) → b ≡ false → filter test xs ≡ [] → (if b then x ∷ filter test xs else filter test xs) ≡ []
    by_case true e rest = absurd (true≢false e)
    by_case false e rest = rest

pub filter-among : {A : Type 0} (test : A → Bool) (a : A) (xs : List A) → IsAmong a (filter test xs) → IsAmong a xs × (test a ≡ true)
filter-among test a [] p = absurd p
filter-among test a (x ∷ xs) p = by_case (test x) refl (filter-among test a xs) p
  where
    by_case : (b : Bool) → test x ≡ b → (IsAmong a (filter test xs) → IsAmong a xs × (test a ≡ true))
        → IsAmong a (if b then x ∷ filter test xs else filter test xs) → IsAmong a (x ∷ xs) × (test a ≡ true)
    by_case true e rest (inl h) = (inl h, ap test h ∙ e)
    by_case true e rest (inr q) = (inr (rest q).0, (rest q).1)
    by_case false e rest q = (inr (rest q).0, (rest q).1)

pub among-filter : {A : Type 0} (test : A → Bool) (a : A) (xs : List A) → IsAmong a xs → test a ≡ true → IsAmong a (filter test xs)
among-filter test a [] p e = absurd p
among-filter test a (x ∷ xs) (inl h) e = rw (sym (ap test h) ∙ e) (inl h)
among-filter test a (x ∷ xs) (inr p) e = by_case (test x) (among-filter test a xs p e)
  where
    by_case : (b : Bool) → IsAmong a (filter test xs) → IsAmong a (if b then x ∷ filter test xs else filter test xs)
    by_case true q = inr q
    by_case false q = q

pub map-among : {A B : Type 0} (f : A → B) (b : B) (xs : List A) → IsAmong b (map f xs) → (a : A) × IsAmong a xs × (b ≡ f a)
map-among f b [] p = absurd p
map-among f b (x ∷ xs) (inl e) = (x, inl refl, e)
map-among f b (x ∷ xs) (inr p) = let r : (a : _) × IsAmong a xs × (b ≡ f a) = map-among f b xs p in (r.0, inr r.1, r.2)

pub flat-among : {A B : Type 0} (f : A → List B) (b : B) (xs : List A) → IsAmong b (flat_map f xs) → (a : A) × IsAmong a xs × IsAmong b (f a)
flat-among f b [] p = absurd p
flat-among f b (x ∷ xs) p = elim (among-append b (f x) (flat_map f xs) p) as (λ u. (a : _) × IsAmong a (x ∷ xs) × IsAmong b (f a)) [
  | inl q ↦ (x, inl refl, q)
  | inr q ↦ let r : (a : _) × IsAmong a xs × IsAmong b (f a) = flat-among f b xs q in (r.0, inr r.1, r.2)
]

pub among-map : {A B : Type 0} (f : A → B) (a : A) (xs : List A) → IsAmong a xs → IsAmong (f a) (map f xs)
among-map f a [] p = absurd p
among-map f a (x ∷ xs) (inl e) = inl (ap f e)
among-map f a (x ∷ xs) (inr p) = inr (among-map f a xs p)

pub find-among : {A : Type 0} (test : A → Bool) (a : A) (xs : List A) → find test xs ≡ Some a → IsAmong a xs × (test a ≡ true)
find-among test a [] e = absurd (none-some a e)
find-among test a (x ∷ xs) e = by_case (test x) refl (find-among test a xs) e
  where
    by_case : (b : Bool) → test x ≡ b → (find test xs ≡ Some a → IsAmong a xs × (test a ≡ true)) → (if b then Some x else find test xs) ≡ Some a
        → IsAmong a (x ∷ xs) × (test a ≡ true)
    by_case true t rest h = (inl (sym (some-is x a h)), ap test (sym (some-is x a h)) ∙ t)
    by_case false t rest h = (inr (rest h).0, (rest h).1)

pub any-among : {A : Type 0} (test : A → Bool) (xs : List A) → list_any test xs ≡ true → (a : A) × IsAmong a xs × (test a ≡ true)
any-among test [] e = absurd (true≢false (sym e))
any-among test (x ∷ xs) e = elim (one_of (test x) (list_any test xs) e) as (λ u. (a : _) × IsAmong a (x ∷ xs) × (test a ≡ true)) [
  | inl h ↦ (x, inl refl, h)
  | inr h ↦ let r : (a : _) × IsAmong a xs × (test a ≡ true) = any-among test xs h in (r.0, inr r.1, r.2)
]

pub among-any : {A : Type 0} (test : A → Bool) (a : A) (xs : List A) → IsAmong a xs → test a ≡ true → list_any test xs ≡ true
among-any test a [] p e = absurd p
among-any test a (x ∷ xs) (inl h) e = rw (sym (ap test h) ∙ e) refl
among-any test a (x ∷ xs) (inr p) e = rw (among-any test a xs p e) (or_true (test x))
  where
    or_true : (b : Bool) → (b || true) ≡ true
    or_true true = refl
    or_true false = refl

pub number-among : (n : ℕ) (ns : List ℕ) → has_number n ns ≡ true → IsAmong n ns
number-among n ns e =
    let r : (k : ℕ) × IsAmong k ns × ((k == n) ≡ true) = any-among (λ k. k == n) ns e in
    subst (λ k. IsAmong k ns) (eqb-true r.0 n r.2) r.1

pub among-number : (n : ℕ) (ns : List ℕ) → IsAmong n ns → has_number n ns ≡ true
among-number n ns p = among-any (λ k. k == n) n ns p (eqb-refl n)

pub way-among : (w : Way) (ws : List Way) → has_way w ws ≡ true → IsAmong w ws
way-among w ws e =
    let r : (v : Way) × IsAmong v ws × (same_way w v ≡ true) = any-among (same_way w) ws e in
    subst (λ v. IsAmong v ws) (sym (same_way-true w r.0 r.2)) r.1

pub among-way : (w : Way) (ws : List Way) → IsAmong w ws → has_way w ws ≡ true
among-way w ws p = among-any (same_way w) w ws p (same_way-refl w)

-- ---- lists without repeats

abbrev pub NoRepeats : {A : Type 0} → List A → Type 0
NoRepeats [] = ⊤
NoRepeats (x ∷ xs) = (IsAmong x xs → ⊥) × NoRepeats xs

pub distinct-no_repeats : (ns : List ℕ) → AreDistinct ns → NoRepeats ns
distinct-no_repeats [] d = tt
distinct-no_repeats (n ∷ ns) d = (λ p. never (has_number n ns) (among-number n ns p) d.0, distinct-no_repeats ns d.1)

pub no_repeats-distinct : (ns : List ℕ) → NoRepeats ns → AreDistinct ns
no_repeats-distinct [] d = tt
no_repeats-distinct (n ∷ ns) d = (false_if (has_number n ns) (λ e. d.0 (number-among n ns e)), no_repeats-distinct ns d.1)

pub no_repeats-last : {A : Type 0} (x : A) (xs : List A) → NoRepeats xs → (IsAmong x xs → ⊥) → NoRepeats (xs ++ x ∷ [])
no_repeats-last x [] d f = (λ p. p, tt)
no_repeats-last x (z ∷ zs) d f = (apart, no_repeats-last x zs d.1 (λ p. f (inr p)))
  where
    apart : IsAmong z (zs ++ x ∷ []) → ⊥
    apart p = elim (among-last z x zs p) as (λ u. ⊥) [ inl q ↦ d.0 q | inr e ↦ f (inl (sym e)) ]

pub no_repeats-append : {A : Type 0} (xs ys : List A) → NoRepeats xs → NoRepeats ys → ((a : A) → IsAmong a xs → IsAmong a ys → ⊥)
    → NoRepeats (xs ++ ys)
no_repeats-append [] ys d e apart = e
no_repeats-append (x ∷ xs) ys d e apart = (
  (λ p. elim (among-append x xs ys p) as (λ u. ⊥) [ inl q ↦ d.0 q | inr q ↦ apart x (inl refl) q ]),
  no_repeats-append xs ys d.1 e (λ a p q. apart a (inr p) q),
)

pub no_repeats-filter : {A : Type 0} (test : A → Bool) (xs : List A) → NoRepeats xs → NoRepeats (filter test xs)
no_repeats-filter test [] d = tt
no_repeats-filter test (x ∷ xs) d = by_case (test x) (no_repeats-filter test xs d.1)
  where
    by_case : (b : Bool) → NoRepeats (filter test xs) → NoRepeats (if b then x ∷ filter test xs else filter test xs)
    by_case true rest = (λ p. d.0 (filter-among test x xs p).0, rest)
    by_case false rest = rest

-- of what a list without repeats is the image, that has none among those that pass
pub no_repeats-map_filter : {A B : Type 0} (f : A → B) (test : A → Bool) (xs : List A) → NoRepeats (map f xs) → NoRepeats (map f (filter test xs))
no_repeats-map_filter f test [] d = tt
no_repeats-map_filter f test (x ∷ xs) d = by_case (test x) (no_repeats-map_filter f test xs d.1)
  where
    apart : IsAmong (f x) (map f (filter test xs)) → ⊥
    apart p =
        let r : (a : _) × IsAmong a (filter test xs) × (f x ≡ f a) = map-among f (f x) (filter test xs) p in
        d.0 (subst (λ b. IsAmong b (map f xs)) (sym r.2) (among-map f r.0 xs (filter-among test r.0 xs r.1).0))

    by_case : (b : Bool) → NoRepeats (map f (filter test xs)) → NoRepeats (map f (if b then x ∷ filter test xs else filter test xs))
    by_case true rest = (apart, rest)
    by_case false rest = rest

pub no_repeats-map : {A B : Type 0} (f : A → B) (xs : List A) → ((a b : A) → f a ≡ f b → a ≡ b) → NoRepeats xs → NoRepeats (map f xs)
no_repeats-map f [] inj d = tt
no_repeats-map f (x ∷ xs) inj d = (apart, no_repeats-map f xs inj d.1)
  where
    apart : IsAmong (f x) (map f xs) → ⊥
    apart p =
        let r : (a : _) × IsAmong a xs × (f x ≡ f a) = map-among f (f x) xs p in
        d.0 (subst (λ a. IsAmong a xs) (sym (inj x r.0 r.2)) r.1)

-- two of the same image are the same
pub only-one : {A B : Type 0} (f : A → B) (a b : A) (xs : List A) → NoRepeats (map f xs) → IsAmong a xs → IsAmong b xs → f a ≡ f b → a ≡ b
only-one f a b [] d p q e = absurd p
only-one f a b (x ∷ xs) d (inl p) (inl q) e = p ∙ sym q
only-one f a b (x ∷ xs) d (inl p) (inr q) e =
    absurd (d.0 (subst (λ c. IsAmong c (map f xs)) (sym e ∙ ap f p) (among-map f b xs q)))
only-one f a b (x ∷ xs) d (inr p) (inl q) e =
    absurd (d.0 (subst (λ c. IsAmong c (map f xs)) (e ∙ ap f q) (among-map f a xs p)))
only-one f a b (x ∷ xs) d (inr p) (inr q) e = only-one f a b xs d.1 p q e

-- and so it is found by its image
pub find-own : {A : Type 0} (number : A → ℕ) (xs : List A) (a : A) → NoRepeats (map number xs) → IsAmong a xs
    → find (λ x. number x == number a) xs ≡ Some a
find-own number [] a d p = absurd p
find-own number (x ∷ xs) a d (inl e) = rw (ap (λ y. number x == number y) e ∙ eqb-refl (number x)) (ap Some (sym e))
find-own number (x ∷ xs) a d (inr p) = by_case (number x == number a) refl (find-own number xs a d.1 p)
  where
    by_case : (b : Bool) → (number x == number a) ≡ b → find (λ y. number y == number a) xs ≡ Some a
        → (if b then Some x else find (λ y. number y == number a) xs) ≡ Some a
    by_case true e rest =
        absurd (d.0 (subst (λ k. IsAmong k (map number xs)) (sym (eqb-true (number x) (number a) e)) (among-map number a xs p)))
    by_case false e rest = rest

-- ---- how long a list is

pub no-length : {A : Type 0} (xs : List A) → length xs ≤ 0 → xs ≡ []
no-length [] p = refl
no-length (x ∷ xs) p = absurd (omega arith)

pub length-none : {A : Type 0} (xs : List A) (b : ℕ) → xs ≡ [] → length xs ≤ b
length-none xs b e = subst (λ ys. length ys ≤ b) (sym e) (omega arith)

pub le-none : {A : Type 0} (xs : List A) (b : ℕ) → xs ≡ [] → nat_le (length xs) b ≡ true
le-none xs b e = subst (λ ys. nat_le (length ys) b ≡ true) (sym e) (le-zero b)

pub length-rest : {A : Type 0} (xs : List A) → length (rest_of xs) ≤ length xs
length-rest [] = omega arith
length-rest (x ∷ xs) = omega arith

pub length-last : {A : Type 0} (xs : List A) (x : A) → length (xs ++ x ∷ []) ≡ length xs + 1
length-last [] x = refl
length-last (z ∷ zs) x = one-more (length (zs ++ x ∷ [])) (length zs) (length-last zs x)
  where
    one-more : (a b : ℕ) → a ≡ b + 1 → suc a ≡ suc b + 1
    one-more a b e = omega arith

-- ---- a way is taken out

pub without-among : (w v : Way) (ws : List Way) → IsAmong v (without_way w ws) → IsAmong v ws
without-among w v [] p = absurd p
without-among w v (x ∷ xs) p = by_case (same_way x w) (without-among w v xs) p
  where
    by_case : (b : Bool) → (IsAmong v (without_way w xs) → IsAmong v xs) → IsAmong v (if b then xs else x ∷ without_way w xs) → IsAmong v (x ∷ xs)
    by_case true rest q = inr q
    by_case false rest (inl e) = inl e
    by_case false rest (inr q) = inr (rest q)

pub no_repeats-without : (w : Way) (ws : List Way) → NoRepeats ws → NoRepeats (without_way w ws)
no_repeats-without w [] d = tt
no_repeats-without w (x ∷ xs) d = by_case (same_way x w) (no_repeats-without w xs d.1)
  where
    by_case : (b : Bool) → NoRepeats (without_way w xs) → NoRepeats (if b then xs else x ∷ without_way w xs)
    by_case true rest = d.1
    by_case false rest = (λ p. d.0 (without-among w x xs p), rest)

-- where it stood once, it is not there any more
pub without-itself : (w : Way) (ws : List Way) → NoRepeats ws → IsAmong w (without_way w ws) → ⊥
without-itself w [] d p = p
without-itself w (x ∷ xs) d p = by_case (same_way x w) refl (without-itself w xs d.1) p
  where
    by_case : (b : Bool) → same_way x w ≡ b → (IsAmong w (without_way w xs) → ⊥) → IsAmong w (if b then xs else x ∷ without_way w xs) → ⊥
    by_case true e rest q = d.0 (subst (λ v. IsAmong v xs) (sym (same_way-true x w e)) q)
    by_case false e rest (inl h) = never (same_way x w) (ap (same_way x) h ∙ same_way-refl x) e
    by_case false e rest (inr q) = rest q
