-- Lists of ways: what a test finds there, once one way is taken out.
use Rattle.std.specs.Prelude.{◌≡◌, ℕ, suc, ◌+◌, Bool, true, false, not, ◌&&◌, ◌||◌, List, [], ◌∷◌, length, Some, refl}
use Rattle.std.specs.List.{list_any}
use Rattle.std.proofs.Common.{sym, ap, ap₂, ◌∙◌, true≢false, arith}
use Rattle.iox_model.specs.declared.way.Way.{Way}
use Rattle.iox_model.specs.Maps.{is_empty, first_of, rest_of, same_way, has_way, without_way}
use Rattle.iox_laws.proofs.WeaveLaws.MapLemmas.{either, same_way-true, same_way-flip}
use Rattle.iox_laws.proofs.WeaveLaws.WholeLemmas.{some-is}
use Rattle.iox_laws.proofs.WeaveLedger.Truths.{by_cases, none-some, or-left, or-right, or-rest, both_true, second-fails}

-- ---- truths

pub or-none : (a : Bool) → (a || false) ≡ a
or-none true = refl
or-none false = refl

pub or-all : (a : Bool) → (a || true) ≡ true
or-all true = refl
or-all false = refl

pub and-none : (a : Bool) → (a && false) ≡ false
and-none true = refl
and-none false = refl

pub or-assoc : (a b c : Bool) → (a || (b || c)) ≡ ((a || b) || c)
or-assoc true b c = refl
or-assoc false b c = refl

or-swap : (a b c : Bool) → (a || (b || c)) ≡ (b || (a || c))
or-swap true true c = refl
or-swap true false c = refl
or-swap false b c = refl

pub or-in : (a b c : Bool) → ((a || b) || c) ≡ (b || (a || c))
or-in true true c = refl
or-in true false c = refl
or-in false b c = refl

-- ---- a test of ways

-- the same test, but only of the other ways
abbrev pub elsewhere : Way → (Way → Bool) → Way → Bool
elsewhere w test v = not (same_way v w) && test v

-- the way, or one of the others
pub any_split : (test : Way → Bool) (w : Way) (left : List Way) → has_way w left ≡ true
    → list_any test left ≡ (test w || list_any test (without_way w left))
any_split test w [] e = absurd (true≢false (sym e))
any_split test w (u ∷ us) e =
    either (λ ws. list_any test (u ∷ us) ≡ (test w || list_any test ws)) (same_way u w) us (u ∷ without_way w us)
    (λ same. ap (λ v. test v || list_any test us) (same_way-true u w same))
    (λ other. ap (λ b. test u || b) (any_split test w us (or-rest (same_way w u) (has_way w us) e (same_way-flip w u (same_way w u) other refl)))
    ∙ or-swap (test u) (test w) (list_any test (without_way w us)))

-- a way that does not pass is not missed
pub any_without : (test : Way → Bool) (w : Way) (left : List Way) → test w ≡ false
    → list_any test (without_way w left) ≡ list_any test left
any_without test w [] never = refl
any_without test w (u ∷ us) never =
    either (λ ws. list_any test ws ≡ list_any test (u ∷ us)) (same_way u w) us (u ∷ without_way w us)
    (λ same. sym (ap (λ b. b || list_any test us) (ap test (same_way-true u w same) ∙ never)))
    (λ other. ap (λ b. test u || b) (any_without test w us never))

pub any_in : (test : Way → Bool) (w : Way) (left : List Way) → has_way w left ≡ true → test w ≡ true → list_any test left ≡ true
any_in test w left e does = any_split test w left e ∙ ap (λ b. b || list_any test (without_way w left)) does

pub any_same : (test other : Way → Bool) (left : List Way) → ((w : Way) → test w ≡ other w) → list_any test left ≡ list_any other left
any_same test other left same = λ i. list_any (λ w. same w i) left

elsewhere-none : (test : Way → Bool) (w v : Way) → test w ≡ false → elsewhere w test v ≡ test v
elsewhere-none test w v never =
    by_cases (same_way v w)
    (λ same. ap (λ b. not b && test v) same ∙ sym (ap test (same_way-true v w same) ∙ never))
    (λ other. ap (λ b. not b && test v) other)

-- the way does not pass, so the others are all that matter
pub any_elsewhere : (test : Way → Bool) (w : Way) (left : List Way) → test w ≡ false
    → list_any test (without_way w left) ≡ list_any (elsewhere w test) left
any_elsewhere test w left never = any_without test w left never ∙ sym (any_same (elsewhere w test) test left (λ v. elsewhere-none test w v never))

elsewhere-itself : (test : Way → Bool) (w v : Way) → (test w || test v) ≡ (test w || elsewhere w test v)
elsewhere-itself test w v =
    by_cases (same_way v w)
    (λ same. ap (λ u. test w || test u) (same_way-true v w same) ∙ twice (test w) ∙ sym (ap (λ b. test w || (not b && test v)) same ∙ or-none (test w)))
    (λ other. sym (ap (λ b. test w || (not b && test v)) other))
  where
    twice : (b : Bool) → (b || b) ≡ b
    twice true = refl
    twice false = refl

or-both : (a b c d e : Bool) → (a || b) ≡ (a || d) → (a || c) ≡ (a || e) → (a || (b || c)) ≡ (a || (d || e))
or-both true b c d e p q = refl
or-both false b c d e p q = ap₂ (λ x y. x || y) p q

any_either : (test : Way → Bool) (w : Way) (left : List Way) → (test w || list_any test left) ≡ (test w || list_any (elsewhere w test) left)
any_either test w [] = refl
any_either test w (u ∷ us) =
    or-both (test w) (test u) (list_any test us) (elsewhere w test u) (list_any (elsewhere w test) us) (elsewhere-itself test w u) (any_either test w us)

-- the way, or one that is elsewhere
pub any_here : (test : Way → Bool) (w : Way) (left : List Way) → has_way w left ≡ true
    → list_any test left ≡ (test w || list_any (elsewhere w test) left)
any_here test w left e =
    sym (known (test w) (list_any test left) (λ does. any_in test w left e does)) ∙ any_either test w left
  where
    known : (a b : Bool) → (a ≡ true → b ≡ true) → (a || b) ≡ b
    known true b f = sym (f refl)
    known false b f = refl

-- what is so elsewhere by one test is so by the other
pub elsewhere_same : (test other : Way → Bool) (w : Way) (left : List Way) → ((v : Way) → same_way v w ≡ false → test v ≡ other v)
    → list_any (elsewhere w test) left ≡ list_any (elsewhere w other) left
elsewhere_same test other w left same = any_same (elsewhere w test) (elsewhere w other) left each
  where
    each : (v : Way) → elsewhere w test v ≡ elsewhere w other v
    each v =
        by_cases (same_way v w) (λ is. ap (λ b. not b && test v) is ∙ sym (ap (λ b. not b && other v) is))
        (λ apart. ap (λ b. not (same_way v w) && b) (same v apart))

-- ---- one way less

pub has_other : (v w : Way) (left : List Way) → same_way v w ≡ false → has_way v (without_way w left) ≡ has_way v left
has_other v w left apart = any_without (same_way v) w left apart

pub length_without : (w : Way) (left : List Way) → has_way w left ≡ true → length left ≡ length (without_way w left) + 1
length_without w [] e = absurd (true≢false (sym e))
length_without w (u ∷ us) e =
    either (λ ws. length (u ∷ us) ≡ length ws + 1) (same_way u w) us (u ∷ without_way w us)
    (λ same. more (length us) (length us) refl)
    (λ other. more2 (length us) (length (without_way w us))
    (length_without w us (or-rest (same_way w u) (has_way w us) e (same_way-flip w u (same_way w u) other refl))))
  where
    more : (a b : ℕ) → a ≡ b → suc a ≡ b + 1
    more a b e = omega arith

    more2 : (a b : ℕ) → a ≡ b + 1 → suc a ≡ suc b + 1
    more2 a b e = omega arith

-- ---- those seen full

-- one more that is full is among them
pub full_more : (test : Way → Bool) (w v : Way) (left full : List Way) → has_way w left ≡ true → test w ≡ true
    → ((same_way v w || has_way v full) || (has_way v (without_way w left) && test v)) ≡ (has_way v full || (has_way v left && test v))
full_more test w v left full e does =
    by_cases (same_way v w)
    (λ same.
    let is : v ≡ w = same_way-true v w same in
    or-left (same_way v w || has_way v full) (has_way v (without_way w left) && test v) (or-left (same_way v w) (has_way v full) same)
    ∙ sym (or-right (has_way v full) (has_way v left && test v)
    (both_true (has_way v left) (test v) (ap (λ u. has_way u left) is ∙ e) (ap test is ∙ does))))
    (λ apart. ap₂ (λ b c. (b || has_way v full) || (c && test v)) apart (has_other v w left apart))

-- and one with room is not
pub full_less : (test : Way → Bool) (w v : Way) (left full : List Way) → test w ≡ false
    → (has_way v full || (has_way v (without_way w left) && test v)) ≡ (has_way v full || (has_way v left && test v))
full_less test w v left full never =
    by_cases (same_way v w)
    (λ same.
    let out : test v ≡ false = ap test (same_way-true v w same) ∙ never in
    ap (λ b. has_way v full || b) (second-fails (has_way v (without_way w left)) (test v) out ∙ sym (second-fails (has_way v left) (test v) out)))
    (λ apart. ap (λ b. has_way v full || (b && test v)) (has_other v w left apart))

-- ---- the first in line

pub empty-is : {A : Type 0} (xs : List A) → is_empty xs ≡ true → xs ≡ []
empty-is [] e = refl
empty-is (x ∷ xs) e = absurd (true≢false (sym e))

pub first-rest : {A : Type 0} (xs : List A) (x : A) → first_of xs ≡ Some x → xs ≡ x ∷ rest_of xs
first-rest [] x e = none-some x e
first-rest (y ∷ ys) x e = ap (λ z. z ∷ ys) (some-is y x e)
