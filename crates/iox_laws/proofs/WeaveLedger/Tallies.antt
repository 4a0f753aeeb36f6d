-- How often a list has what passes a test.
use Rattle.std.specs.Prelude.{◌≡◌, ℕ, suc, ◌+◌, Bool, true, false, not, ◌&&◌, if◌then◌else◌, ◌==◌, List, [], ◌∷◌, ◌++◌, length, map, filter, refl}
use Rattle.std.proofs.Common.{sym, subst, ap, ◌∙◌, arith, eqb-true, eq-eqb, inl, inr}
use Rattle.iox_model.specs.States.{Handle}
use Rattle.iox_model.specs.Counts.{without_handle, with_handle}
use Rattle.iox_laws.proofs.WeaveLedger.Counts.{count, one_if, count-cons}
use Rattle.iox_laws.proofs.WeaveLedger.Truths.{never, and-first}
use Rattle.iox_laws.proofs.WeaveLedger.Lists.{IsAmong, NoRepeats, among-map}

pub count-append : {A : Type 0} (test : A → Bool) (xs ys : List A) → count test (xs ++ ys) ≡ count test xs + count test ys
count-append test [] ys = omega arith
count-append test (x ∷ xs) ys =
    joins (one_if (test x)) (count test xs) (count test ys) (count test (xs ++ ys)) (count test (x ∷ (xs ++ ys))) (count test (x ∷ xs))
    (count-append test xs ys) (count-cons test x (xs ++ ys)) (count-cons test x xs)
  where
    joins : (a b c d e f : ℕ) → d ≡ b + c → e ≡ a + d → f ≡ a + b → e ≡ f + c
    joins a b c d e f p q r = omega arith

pub count-all : {A : Type 0} (xs : List A) → count (λ x. true) xs ≡ length xs
count-all [] = refl
count-all (x ∷ xs) = ap suc (count-all xs)

-- ---- filters

pub filter-same : {A : Type 0} (test also : A → Bool) (xs : List A) → ((x : A) → IsAmong x xs → test x ≡ also x) → filter test xs ≡ filter also xs
filter-same test also [] same = refl
filter-same test also (x ∷ xs) same = by_case (test x) (also x) (same x (inl refl)) (filter-same test also xs (λ z a. same z (inr a)))
  where
    by_case : (a b : Bool) → a ≡ b → filter test xs ≡ filter also xs
        → (if a then x ∷ filter test xs else filter test xs) ≡ (if b then x ∷ filter also xs else filter also xs)
    by_case true true e rest = ap (λ ys. x ∷ ys) rest
    by_case false false e rest = rest
    by_case true false e rest = never true refl e
    by_case false true e rest = never true refl (sym e)

pub filter-last : {A : Type 0} (test : A → Bool) (xs : List A) (x : A) → filter test (xs ++ x ∷ []) ≡ filter test xs ++ (if test x then x ∷ [] else [])
filter-last test [] x = refl
filter-last test (z ∷ zs) x = by_case (test z) (filter-last test zs x)
  where
    by_case : (b : Bool) → filter test (zs ++ x ∷ []) ≡ filter test zs ++ (if test x then x ∷ [] else [])
        → (if b then z ∷ filter test (zs ++ x ∷ []) else filter test (zs ++ x ∷ []))
        ≡ (if b then z ∷ filter test zs else filter test zs) ++ (if test x then x ∷ [] else [])
    by_case true rest = ap (λ ys. z ∷ ys) rest
    by_case false rest = rest

pub filter-twice : {A : Type 0} (test also : A → Bool) (xs : List A) → filter test (filter also xs) ≡ filter (λ x. test x && also x) xs
filter-twice test also [] = refl
filter-twice test also (x ∷ xs) = by_case (also x) (filter-twice test also xs)
  where
    passes : (b : Bool) → filter test (filter also xs) ≡ filter (λ z. test z && also z) xs
        → (if b then x ∷ filter test (filter also xs) else filter test (filter also xs))
        ≡ (if b && true then x ∷ filter (λ z. test z && also z) xs else filter (λ z. test z && also z) xs)
    passes true rest = ap (λ ys. x ∷ ys) rest
    passes false rest = rest

    fails : (b : Bool) → filter test (filter also xs) ≡ filter (λ z. test z && also z) xs
        → filter test (filter also xs) ≡ (if b && false then x ∷ filter (λ z. test z && also z) xs else filter (λ z. test z && also z) xs)
    fails true rest = rest
    fails false rest = rest

    by_case : (a : Bool) → filter test (filter also xs) ≡ filter (λ z. test z && also z) xs
        → filter test (if a then x ∷ filter also xs else filter also xs)
        ≡ (if test x && a then x ∷ filter (λ z. test z && also z) xs else filter (λ z. test z && also z) xs)
    by_case true rest = passes (test x) rest
    by_case false rest = fails (test x) rest

-- ---- handles

-- what passes a test, and does not stand for this number
abbrev pub passes_but : (Handle → Bool) → ℕ → Handle → Bool
passes_but test n h = test h && not (n == h.number)

pub equal-flip : (m n : ℕ) → (m == n) ≡ (n == m)
equal-flip m n = by_case (m == n) (n == m) refl refl
  where
    by_case : (a b : Bool) → (m == n) ≡ a → (n == m) ≡ b → a ≡ b
    by_case true true e f = refl
    by_case false false e f = refl
    by_case true false e f = never (n == m) (eq-eqb n m (sym (eqb-true m n e))) f
    by_case false true e f = never (m == n) (eq-eqb m n (sym (eqb-true n m f))) e

pub without-passes : (test : Handle → Bool) (h : Handle) (hs : List Handle) → filter test (without_handle h hs) ≡ filter (passes_but test h.number) hs
without-passes test h hs =
    filter-twice test (λ k. not (k.number == h.number)) hs
    ∙ filter-same (λ k. test k && not (k.number == h.number)) (passes_but test h.number) hs
    (λ k a. ap (λ b. test k && not b) (equal-flip k.number h.number))

-- where all that stand for the number fail, none is lost
pub but-same : (test : Handle → Bool) (n : ℕ) (hs : List Handle) → ((k : Handle) → IsAmong k hs → n ≡ k.number → test k ≡ false)
    → filter (passes_but test n) hs ≡ filter test hs
but-same test n hs fails = filter-same (passes_but test n) test hs (λ k a. by_case k a (n == k.number) refl)
  where
    by_case : (k : Handle) → IsAmong k hs → (b : Bool) → (n == k.number) ≡ b → (test k && not b) ≡ test k
    by_case k a true e = rw (fails k a (eqb-true n k.number e)) refl
    by_case k a false e = and-first (test k)

-- one is lost
pub but-one : (test : Handle → Bool) (value : ℕ → Bool) (h : Handle) (hs : List Handle) → NoRepeats (map (λ k. k.number) hs) → IsAmong h hs
    → count value (map (λ k. k.message.serial) (filter test hs))
    ≡ count value (map (λ k. k.message.serial) (filter (passes_but test h.number) hs)) + (if test h then one_if (value h.message.serial) else 0)
but-one test value h [] d a = absurd a
but-one test value h (g ∷ gs) d (inl e) =
    subst (λ k. count value (map (λ x. x.message.serial) (filter test (g ∷ gs)))
    ≡ count value (map (λ x. x.message.serial) (filter (passes_but test k.number) (g ∷ gs))) + (if test k then one_if (value k.message.serial) else 0)) (sym e)
    (first (g.number == g.number) (test g) (eq-eqb g.number g.number refl))
  where
    rest : filter (passes_but test g.number) gs ≡ filter test gs
    rest = but-same test g.number gs (λ k a same. absurd (d.0 (subst (λ n. IsAmong n (map (λ x. x.number) gs)) (sym same) (among-map (λ x. x.number) k gs a))))

    swap : (a b c : ℕ) → c ≡ a + b → c ≡ b + a
    swap a b c e = omega arith

    none : (a : ℕ) → a ≡ a + 0
    none a = omega arith

    first : (a b : Bool) → a ≡ true
        → count value (map (λ x. x.message.serial) (if b then g ∷ filter test gs else filter test gs))
        ≡ count value (map (λ x. x.message.serial) (if b && not a then g ∷ filter (passes_but test g.number) gs else filter (passes_but test g.number) gs))
        + (if b then one_if (value g.message.serial) else 0)
    first true true u =
        swap (one_if (value g.message.serial)) (count value (map (λ x. x.message.serial) (filter (passes_but test g.number) gs)))
        (count value (g.message.serial ∷ map (λ x. x.message.serial) (filter test gs)))
        (count-cons value g.message.serial (map (λ x. x.message.serial) (filter test gs))
        ∙ ap (λ hs. one_if (value g.message.serial) + count value (map (λ (x : Handle). x.message.serial) hs)) (sym rest))
    first true false u = ap (λ hs. count value (map (λ (x : Handle). x.message.serial) hs)) (sym rest)
        ∙ none (count value (map (λ x. x.message.serial) (filter (passes_but test g.number) gs)))
    first false b u = never false u refl
but-one test value h (g ∷ gs) d (inr a) = by_case (test g) (h.number == g.number) refl (but-one test value h gs d.1 a)
  where
    more : (a b c d e f : ℕ) → a ≡ b + c → d ≡ e + a → f ≡ e + b → d ≡ f + c
    more a b c d e f p q r = omega arith

    by_case : (b c : Bool) → (h.number == g.number) ≡ c
        → count value (map (λ k. k.message.serial) (filter test gs))
        ≡ count value (map (λ k. k.message.serial) (filter (passes_but test h.number) gs)) + (if test h then one_if (value h.message.serial) else 0)
        → count value (map (λ k. k.message.serial) (if b then g ∷ filter test gs else filter test gs))
        ≡ count value (map (λ k. k.message.serial) (if b && not c then g ∷ filter (passes_but test h.number) gs else filter (passes_but test h.number) gs))
        + (if test h then one_if (value h.message.serial) else 0)
    by_case b true e rest = absurd (d.0 (subst (λ n. IsAmong n (map (λ x. x.number) gs)) (eqb-true h.number g.number e) (among-map (λ x. x.number) h gs a)))
    by_case true false e rest =
        more (count value (map (λ k. k.message.serial) (filter test gs))) (count value (map (λ k. k.message.serial) (filter (passes_but test h.number) gs)))
        (if test h then one_if (value h.message.serial) else 0) (count value (g.message.serial ∷ map (λ k. k.message.serial) (filter test gs)))
        (one_if (value g.message.serial)) (count value (g.message.serial ∷ map (λ k. k.message.serial) (filter (passes_but test h.number) gs))) rest
        (count-cons value g.message.serial (map (λ k. k.message.serial) (filter test gs)))
        (count-cons value g.message.serial (map (λ k. k.message.serial) (filter (passes_but test h.number) gs)))
    by_case false false e rest = rest

-- what stands for one that fails, and fails too
pub with-passes : (test : Handle → Bool) (h : Handle) (hs : List Handle) → test h ≡ false
    → ((k : Handle) → IsAmong k hs → k.number ≡ h.number → test k ≡ false) → filter test (with_handle h hs) ≡ filter test hs
with-passes test h [] e fails = refl
with-passes test h (g ∷ gs) e fails = by_case (g.number == h.number) refl (with-passes test h gs e (λ k a. fails k (inr a)))
  where
    gone : (b c : Bool) → b ≡ false → c ≡ false → (if b then h ∷ filter test gs else filter test gs) ≡ (if c then g ∷ filter test gs else filter test gs)
    gone false false p q = refl
    gone true c p q = never true refl p
    gone false true p q = never true refl q

    stays : (b : Bool) → filter test (with_handle h gs) ≡ filter test gs
        → (if b then g ∷ filter test (with_handle h gs) else filter test (with_handle h gs)) ≡ (if b then g ∷ filter test gs else filter test gs)
    stays true rest = ap (λ ks. g ∷ ks) rest
    stays false rest = rest

    by_case : (b : Bool) → (g.number == h.number) ≡ b → filter test (with_handle h gs) ≡ filter test gs
        → filter test (if b then h ∷ gs else g ∷ with_handle h gs) ≡ (if test g then g ∷ filter test gs else filter test gs)
    by_case true same rest = gone (test h) (test g) e (fails g (inl refl) (eqb-true g.number h.number same))
    by_case false same rest = stays (test g) rest
