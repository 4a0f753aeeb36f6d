-- Ascending numbers below the next one stay so.
use Rattle.std.specs.Prelude.{◌≡◌, ℕ, ◌+◌, Bool, true, nat_lt, List, [], ◌∷◌, ◌++◌, map, filter, refl}
use Rattle.std.specs.List.{list_all}
use Rattle.iox_laws.proofs.WeaveLaws.MapLemmas.{either}
use Rattle.iox_laws.proofs.WeaveLaws.WholeLemmas.{split}
use Rattle.iox_laws.proofs.WeaveLedger.Truths.{both_true}
use Rattle.iox_laws.proofs.WeaveLedger.Orders.{less-next, next-is-less}
use Rattle.iox_laws.specs.ServiceLaws.Listings.{are_ascending}

abbrev pub are_below : ℕ → List ℕ → Bool
are_below next ns = list_all (λ k. nat_lt k next) ns

-- they were given out one after another, and the next comes after them
abbrev pub Counted : ℕ → List ℕ → Type 0
Counted next ns = (are_ascending ns ≡ true) × (are_below next ns ≡ true)

-- ---- some are left out

all_filter : {A : Type 0} (f : A → ℕ) (p : ℕ → Bool) (test : A → Bool) (xs : List A) → list_all p (map f xs) ≡ true
    → list_all p (map f (filter test xs)) ≡ true
all_filter f p test [] e = refl
all_filter f p test (x ∷ xs) e =
    let q : (p (f x) ≡ true) × (list_all p (map f xs) ≡ true) = split (p (f x)) (list_all p (map f xs)) e in
    either (λ ys. list_all p (map f ys) ≡ true) (test x) (x ∷ filter test xs) (filter test xs)
    (λ u. both_true (p (f x)) (list_all p (map f (filter test xs))) q.0 (all_filter f p test xs q.1)) (λ u. all_filter f p test xs q.1)

pub ascends_filter : {A : Type 0} (f : A → ℕ) (test : A → Bool) (xs : List A) → are_ascending (map f xs) ≡ true
    → are_ascending (map f (filter test xs)) ≡ true
ascends_filter f test [] e = refl
ascends_filter f test (x ∷ xs) e =
    let q : (list_all (nat_lt (f x)) (map f xs) ≡ true) × (are_ascending (map f xs) ≡ true)
    = split (list_all (nat_lt (f x)) (map f xs)) (are_ascending (map f xs)) e in
    either (λ ys. are_ascending (map f ys) ≡ true) (test x) (x ∷ filter test xs) (filter test xs)
    (λ u. both_true (list_all (nat_lt (f x)) (map f (filter test xs))) (are_ascending (map f (filter test xs)))
    (all_filter f (nat_lt (f x)) test xs q.0) (ascends_filter f test xs q.1))
    (λ u. ascends_filter f test xs q.1)

pub counted_filter : {A : Type 0} (f : A → ℕ) (test : A → Bool) (next : ℕ) (xs : List A) → Counted next (map f xs)
    → Counted next (map f (filter test xs))
counted_filter f test next xs p = (ascends_filter f test xs p.0, all_filter f (λ k. nat_lt k next) test xs p.1)

-- ---- one more

below_more : (n : ℕ) (ns : List ℕ) → are_below n ns ≡ true → are_below (n + 1) ns ≡ true
below_more n [] e = refl
below_more n (k ∷ ks) e =
    let q : (nat_lt k n ≡ true) × (are_below n ks ≡ true) = split (nat_lt k n) (are_below n ks) e in
    both_true (nat_lt k (n + 1)) (are_below (n + 1) ks) (less-next k n q.0) (below_more n ks q.1)

pub counted_more : (n : ℕ) (ns : List ℕ) → Counted n ns → Counted (n + 1) ns
counted_more n ns p = (p.0, below_more n ns p.1)

all_last : (p : ℕ → Bool) (ns : List ℕ) (n : ℕ) → list_all p ns ≡ true → p n ≡ true → list_all p (ns ++ n ∷ []) ≡ true
all_last p [] n e last = both_true (p n) true last refl
all_last p (k ∷ ks) n e last =
    let q : (p k ≡ true) × (list_all p ks ≡ true) = split (p k) (list_all p ks) e in
    both_true (p k) (list_all p (ks ++ n ∷ [])) q.0 (all_last p ks n q.1 last)

ascends_last : (ns : List ℕ) (n : ℕ) → are_ascending ns ≡ true → are_below n ns ≡ true → are_ascending (ns ++ n ∷ []) ≡ true
ascends_last [] n e below = refl
ascends_last (k ∷ ks) n e below =
    let q : (list_all (nat_lt k) ks ≡ true) × (are_ascending ks ≡ true) = split (list_all (nat_lt k) ks) (are_ascending ks) e in
    let b : (nat_lt k n ≡ true) × (are_below n ks ≡ true) = split (nat_lt k n) (are_below n ks) below in
    both_true (list_all (nat_lt k) (ks ++ n ∷ [])) (are_ascending (ks ++ n ∷ [])) (all_last (nat_lt k) ks n q.0 b.0) (ascends_last ks n q.1 b.1)

pub counted_last : (n : ℕ) (ns : List ℕ) → Counted n ns → Counted (n + 1) (ns ++ n ∷ [])
counted_last n ns p = (
  ascends_last ns n p.0 p.1,
  all_last (λ k. nat_lt k (n + 1)) ns n (below_more n ns p.1) (next-is-less n n refl),
)
