-- How many of a list pass a test.
use Rattle.std.specs.Prelude.{◌≡◌, ℕ, suc, ◌+◌, ◌≤◌, Bool, true, false, not, if◌then◌else◌, ◌==◌, List, [], ◌∷◌, ◌++◌, length, filter, refl}
use Rattle.std.proofs.Common.{sym, subst, ap, ◌∙◌, arith, eq-eqb, true≢false, inl, inr}
use Rattle.iox_model.specs.Counts.{without_handle, with_handle}
use Rattle.iox_model.specs.States.{Handle}
use Rattle.iox_laws.proofs.WeaveLedger.Lists.{IsAmong, filter-none}

abbrev pub count : {A : Type 0} → (A → Bool) → List A → ℕ
count test xs = length (filter test xs)

abbrev pub one_if : Bool → ℕ
one_if b = if b then 1 else 0

pub one-at-most : (b : Bool) → one_if b ≤ 1
one-at-most true = omega arith
one-at-most false = omega arith

pub count-cons : {A : Type 0} (test : A → Bool) (x : A) (xs : List A) → count test (x ∷ xs) ≡ one_if (test x) + count test xs
count-cons test x xs = by_case (test x)
  where
    one : (n : ℕ) → suc n ≡ 1 + n
    one n = omega arith

    none : (n : ℕ) → n ≡ 0 + n
    none n = omega arith

    by_case : (b : Bool) → length (if b then x ∷ filter test xs else filter test xs) ≡ one_if b + count test xs
    by_case true = one (count test xs)
    by_case false = none (count test xs)

pub count-last : {A : Type 0} (test : A → Bool) (xs : List A) (x : A) → count test (xs ++ x ∷ []) ≡ count test xs + one_if (test x)
count-last test [] x = count-cons test x [] ∙ flip (one_if (test x))
  where
    flip : (n : ℕ) → n + 0 ≡ 0 + n
    flip n = omega arith
count-last test (z ∷ zs) x =
    count-cons test z (zs ++ x ∷ [])
    ∙ joins (one_if (test z)) (count test (zs ++ x ∷ [])) (count test zs) (one_if (test x)) (count test (z ∷ zs))
    (count-last test zs x) (count-cons test z zs)
  where
    joins : (a b c d e : ℕ) → b ≡ c + d → e ≡ a + c → a + b ≡ e + d
    joins a b c d e p q = omega arith

pub count-none : {A : Type 0} (test : A → Bool) (xs : List A) → ((x : A) → IsAmong x xs → test x ≡ false) → count test xs ≡ 0
count-none test xs none = ap length (filter-none test xs none)

-- a test that lets no more pass
pub count-fewer : {A : Type 0} (a b : A → Bool) (xs : List A) → ((x : A) → IsAmong x xs → a x ≡ true → b x ≡ true)
    → count a xs ≤ count b xs
count-fewer a b [] f = omega arith
count-fewer a b (x ∷ xs) f =
    joins (one_if (a x)) (one_if (b x)) (count a xs) (count b xs) (one (a x) (b x) (f x (inl refl)))
    (count-fewer a b xs (λ y p. f y (inr p))) (count-cons a x xs) (count-cons b x xs)
  where
    one : (p q : Bool) → (p ≡ true → q ≡ true) → one_if p ≤ one_if q
    one true q g = subst (λ r. 1 ≤ one_if r) (sym (g refl)) (omega arith)
    one false q g = omega arith

    joins : (p q m n : ℕ) {c d : ℕ} → p ≤ q → m ≤ n → c ≡ p + m → d ≡ q + n → c ≤ d
    joins p q m n {c} {d} f g x y = omega arith

pub count-filter : {A : Type 0} (test keep : A → Bool) (xs : List A) → count test (filter keep xs) ≤ count test xs
count-filter test keep [] = omega arith
count-filter test keep (x ∷ xs) = by_case (keep x) (count-filter test keep xs)
  where
    more : (a b c d e : ℕ) → a ≤ b → c ≡ d + b → e ≡ d + a → e ≤ c
    more a b c d e p q r = omega arith

    less : (a b c d : ℕ) → a ≤ b → c ≡ d + b → a ≤ c
    less a b c d p q = omega arith

    by_case : (b : Bool) → count test (filter keep xs) ≤ count test xs
        → count test (if b then x ∷ filter keep xs else filter keep xs) ≤ count test (x ∷ xs)
    by_case true p =
        more (count test (filter keep xs)) (count test xs) (count test (x ∷ xs)) (one_if (test x)) (count test (x ∷ filter keep xs)) p
        (count-cons test x xs) (count-cons test x (filter keep xs))
    by_case false p = less (count test (filter keep xs)) (count test xs) (count test (x ∷ xs)) (one_if (test x)) p (count-cons test x xs)

-- ---- handles that are taken out or changed

pub count-less : (test : Handle → Bool) (h : Handle) (hs : List Handle) → count test (without_handle h hs) ≤ count test hs
count-less test h hs = count-filter test (λ k. not (k.number == h.number)) hs

pub count-gone : (test : Handle → Bool) (h : Handle) (hs : List Handle) → IsAmong h hs → test h ≡ true
    → count test (without_handle h hs) + 1 ≤ count test hs
count-gone test h [] a e = absurd a
count-gone test h (k ∷ ks) (inl same) e =
    subst (λ j. count test (without_handle h (j ∷ ks)) + 1 ≤ count test (j ∷ ks)) same
    (first (h.number == h.number) (eq-eqb h.number h.number refl))
  where
    fewer : (a b c d : ℕ) → a ≤ b → c ≡ d + b → d ≡ 1 → a + 1 ≤ c
    fewer a b c d p q r = omega arith

    first : (b : Bool) → b ≡ true
        → count test (if not b then h ∷ without_handle h ks else without_handle h ks) + 1 ≤ count test (h ∷ ks)
    first true u =
        fewer (count test (without_handle h ks)) (count test ks) (count test (h ∷ ks)) (one_if (test h)) (count-less test h ks)
        (count-cons test h ks) (ap one_if e)
    first false u = absurd (true≢false (sym u))
count-gone test h (k ∷ ks) (inr a) e = by_case (k.number == h.number) (count-gone test h ks a e)
  where
    less : (a b c d : ℕ) → a + 1 ≤ b → c ≡ d + b → a + 1 ≤ c
    less a b c d p q = omega arith

    both : (a b c d e : ℕ) → a + 1 ≤ b → c ≡ d + b → e ≡ d + a → e + 1 ≤ c
    both a b c d e p q r = omega arith

    by_case : (b : Bool) → count test (without_handle h ks) + 1 ≤ count test ks
        → count test (if not b then k ∷ without_handle h ks else without_handle h ks) + 1 ≤ count test (k ∷ ks)
    by_case true p = less (count test (without_handle h ks)) (count test ks) (count test (k ∷ ks)) (one_if (test k)) p (count-cons test k ks)
    by_case false p =
        both (count test (without_handle h ks)) (count test ks) (count test (k ∷ ks)) (one_if (test k)) (count test (k ∷ without_handle h ks))
        p (count-cons test k ks) (count-cons test k (without_handle h ks))

-- one is put in another's place
pub count-with : (test : Handle → Bool) (h : Handle) (hs : List Handle)
    → count test (with_handle h hs) ≤ count test hs + one_if (test h)
count-with test h [] = omega arith
count-with test h (k ∷ ks) = by_case (k.number == h.number) (count-with test h ks)
  where
    first : (a b c d e : ℕ) → a ≡ d + b → c ≡ e + b → a ≤ c + d
    first a b c d e p q = omega arith

    later : (a b c d e f : ℕ) → a ≤ b + f → c ≡ d + b → e ≡ d + a → e ≤ c + f
    later a b c d e f p q r = omega arith

    by_case : (b : Bool) → count test (with_handle h ks) ≤ count test ks + one_if (test h)
        → count test (if b then h ∷ ks else k ∷ with_handle h ks) ≤ count test (k ∷ ks) + one_if (test h)
    by_case true p =
        first (count test (h ∷ ks)) (count test ks) (count test (k ∷ ks)) (one_if (test h)) (one_if (test k))
        (count-cons test h ks) (count-cons test k ks)
    by_case false p =
        later (count test (with_handle h ks)) (count test ks) (count test (k ∷ ks)) (one_if (test k)) (count test (k ∷ with_handle h ks))
        (one_if (test h)) p (count-cons test k ks) (count-cons test k (with_handle h ks))

pub count-swap : (test : Handle → Bool) (h : Handle) (hs : List Handle) → test h ≡ false → count test (with_handle h hs) ≤ count test hs
count-swap test h hs e = less (count test (with_handle h hs)) (count test hs) (one_if (test h)) (count-with test h hs) (ap one_if e)
  where
    less : (a b c : ℕ) → a ≤ b + c → c ≡ 0 → a ≤ b
    less a b c p q = omega arith
