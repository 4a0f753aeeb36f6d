-- How many numbers of a list pass a test: no more than pass its parts.
use Rattle.std.specs.Prelude.{◌≡◌, ℕ, suc, ◌+◌, ◌*◌, ◌≤◌, Bool, true, false, ◌&&◌, ◌||◌, if◌then◌else◌, ◌==◌, List, [], ◌∷◌, length, filter, flat_map, refl}
use Rattle.std.specs.List.{list_any}
use Rattle.std.proofs.Common.{sym, subst, arith, eqb-true, inl, inr}
use Rattle.std.proofs.lemmas.List.{length-append}
use Rattle.std.proofs.Math.Nat.{suc-mul}
use Rattle.iox_laws.proofs.WeaveLedger.Truths.{false_if}
use Rattle.iox_laws.proofs.WeaveLedger.Orders.{zero-le}
use Rattle.iox_laws.proofs.WeaveLedger.Counts.{count, one_if, count-cons, count-none}
use Rattle.iox_laws.proofs.WeaveLedger.Lists.{IsAmong, NoRepeats}

-- either of two tests
pub count-or : {A : Type 0} (a b : A → Bool) (xs : List A) → count (λ x. a x || b x) xs ≤ count a xs + count b xs
count-or a b [] = omega arith
count-or a b (x ∷ xs) =
    joins (one_if (a x)) (one_if (b x)) (one_if (a x || b x)) (count a xs) (count b xs) (count (λ y. a y || b y) xs) (either-one (a x) (b x)) (count-or a b xs)
    (count-cons a x xs) (count-cons b x xs) (count-cons (λ y. a y || b y) x xs)
  where
    either-one : (p q : Bool) → one_if (p || q) ≤ one_if p + one_if q
    either-one true q = omega arith
    either-one false q = omega arith

    joins : (p q r m n k : ℕ) {c d e : ℕ} → r ≤ p + q → k ≤ m + n → c ≡ p + m → d ≡ q + n → e ≡ r + k → e ≤ c + d
    joins p q r m n k {c} {d} {e} f g x y z = omega arith

-- one of many tests, of which each lets pass so many at most
pub count-any : {A W : Type 0} (test : W → A → Bool) (most : ℕ) (ws : List W) (xs : List A) → ((w : W) → IsAmong w ws → count (test w) xs ≤ most)
    → count (λ x. list_any (λ w. test w x) ws) xs ≤ length ws * most
count-any test most [] xs f = subst (λ n. n ≤ 0 * most) (sym (count-none (λ x. false) xs (λ x a. refl))) (omega arith)
count-any test most (w ∷ ws) xs f =
    joins (count (test w) xs) (count (λ x. list_any (λ v. test v x) ws) xs) (length ws * most) (count-or (test w) (λ x. list_any (λ v. test v x) ws) xs)
    (f w (inl refl)) (count-any test most ws xs (λ v p. f v (inr p))) (suc-mul (length ws) most)
  where
    joins : (a b c : ℕ) {d e : ℕ} → d ≤ a + b → a ≤ most → b ≤ c → e ≡ c + most → d ≤ e
    joins a b c {d} {e} p q r t = omega arith

-- ---- numbers that stand in a list

absent : (n : ℕ) (ns : List ℕ) → (IsAmong n ns → ⊥) → count (λ k. n == k) ns ≤ 0
absent n ns f =
    zero-le (count (λ k. n == k) ns) 0
    (count-none (λ k. n == k) ns (λ k a. false_if (n == k) (λ e. f (subst (λ j. IsAmong j ns) (sym (eqb-true n k e)) a))))

pub count-equal : (n : ℕ) (ns : List ℕ) → NoRepeats ns → count (λ k. n == k) ns ≤ 1
count-equal n [] d = omega arith
count-equal n (k ∷ ks) d = by_case (n == k) refl (count-equal n ks d.1)
  where
    first : (c : ℕ) → c ≤ 0 → suc c ≤ 1
    first c p = omega arith

    by_case : (b : Bool) → (n == k) ≡ b → count (λ j. n == j) ks ≤ 1 → length (if b then k ∷ filter (λ j. n == j) ks else filter (λ j. n == j) ks) ≤ 1
    by_case true e p = first (count (λ j. n == j) ks) (absent n ks (λ q. d.0 (subst (λ j. IsAmong j ks) (eqb-true n k e) q)))
    by_case false e p = p

-- the numbers of those that pass a test are no more than they
pub count-named : {A : Type 0} (test : A → Bool) (number : A → ℕ) (xs : List A) (ns : List ℕ) → NoRepeats ns
    → count (λ k. list_any (λ x. test x && (number x == k)) xs) ns ≤ count test xs
count-named test number [] ns d = subst (λ n. n ≤ 0) (sym (count-none (λ k. false) ns (λ k a. refl))) (omega arith)
count-named test number (x ∷ xs) ns d =
    joins (count (λ k. test x && (number x == k)) ns) (count (λ k. list_any (λ y. test y && (number y == k)) xs) ns) (one_if (test x)) (count test xs)
    (count-or (λ k. test x && (number x == k)) (λ k. list_any (λ y. test y && (number y == k)) xs) ns) (one (test x))
    (count-named test number xs ns d) (count-cons test x xs)
  where
    one : (b : Bool) → count (λ k. b && (number x == k)) ns ≤ one_if b
    one true = count-equal (number x) ns d
    one false = subst (λ n. n ≤ 0) (sym (count-none (λ k. false) ns (λ k a. refl))) (omega arith)

    joins : (a b c e : ℕ) {m n : ℕ} → m ≤ a + b → a ≤ c → b ≤ e → n ≡ c + e → m ≤ n
    joins a b c e {m} {n} p q r s = omega arith

-- ---- lists of lists

pub length-flat : {A B : Type 0} (f : A → List B) (most : ℕ) (xs : List A) → ((x : A) → IsAmong x xs → length (f x) ≤ most)
    → length (flat_map f xs) ≤ length xs * most
length-flat f most [] each = omega arith
length-flat f most (x ∷ xs) each =
    joins (length (f x)) (length (flat_map f xs)) (length xs * most) (length-append (f x) (flat_map f xs)) (each x (inl refl))
    (length-flat f most xs (λ y p. each y (inr p))) (suc-mul (length xs) most)
  where
    joins : (a b c : ℕ) {d e : ℕ} → d ≡ a + b → a ≤ most → b ≤ c → e ≡ c + most → d ≤ e
    joins a b c {d} {e} p q r t = omega arith
