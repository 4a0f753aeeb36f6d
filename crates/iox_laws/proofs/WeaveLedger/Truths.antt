-- Truth values by cases, and tests that answer a refusal.
use Rattle.std.specs.Prelude.{◌≡◌, Bool, true, false, not, ◌&&◌, ◌||◌, Option, Some, None, ◌⊎◌, refl}
use Rattle.std.proofs.Common.{sym, subst, ◌∙◌, true≢false, inl, inr}
use Rattle.iox_model.specs.Maps.{refused_if}

pub is-or-not : (b : Bool) → (b ≡ true) ⊎ (b ≡ false)
is-or-not true = inl refl
is-or-not false = inr refl

pub by_cases : {P : Type 0} (b : Bool) → (b ≡ true → P) → (b ≡ false → P) → P
by_cases true f g = f refl
by_cases false f g = g refl

-- what is not true is false
pub false_if : (b : Bool) → (b ≡ true → ⊥) → b ≡ false
false_if true f = absurd (f refl)
false_if false f = refl

pub never : {A : Type 0} (b : Bool) → b ≡ true → b ≡ false → A
never b e h = absurd (true≢false (sym e ∙ h))

pub not-false : (b : Bool) → not b ≡ false → b ≡ true
not-false true e = refl
not-false false e = absurd (true≢false e)

-- ---- both

pub both_true : (a b : Bool) → a ≡ true → b ≡ true → (a && b) ≡ true
both_true true b e f = f
both_true false b e f = e

pub all_three : (a b c : Bool) → a ≡ true → b ≡ true → c ≡ true → (a && (b && c)) ≡ true
all_three a b c d e f = both_true a (b && c) d (both_true b c e f)

pub and-first : (a : Bool) → (a && true) ≡ a
and-first true = refl
and-first false = refl

pub and-flip : (a b : Bool) → (a && b) ≡ (b && a)
and-flip true true = refl
and-flip true false = refl
and-flip false true = refl
and-flip false false = refl

pub second-fails : (a b : Bool) → b ≡ false → (a && b) ≡ false
second-fails true b e = e
second-fails false b e = refl

-- ---- one of two

pub one_of : (a b : Bool) → (a || b) ≡ true → (a ≡ true) ⊎ (b ≡ true)
one_of true b e = inl refl
one_of false b e = inr e

pub or-left : (a b : Bool) → a ≡ true → (a || b) ≡ true
or-left true b e = refl
or-left false b e = absurd (true≢false (sym e))

pub or-right : (a b : Bool) → b ≡ true → (a || b) ≡ true
or-right true b e = refl
or-right false b e = e

pub or-rest : (a b : Bool) → (a || b) ≡ true → a ≡ false → b ≡ true
or-rest true b e f = absurd (true≢false f)
or-rest false b e f = e

pub or-false : (a b : Bool) → (a || b) ≡ false → (a ≡ false) × (b ≡ false)
or-false true b e = absurd (true≢false e)
or-false false b e = (refl, e)

pub or-neither : (a b : Bool) → a ≡ false → b ≡ false → (a || b) ≡ false
or-neither true b e f = absurd (true≢false e)
or-neither false b e f = f

pub or-through : (a b c : Bool) → (b ≡ true → c ≡ true) → (a || b) ≡ true → (a || c) ≡ true
or-through true b c f e = refl
or-through false b c f e = f e

-- ---- nothing, and a refusal

abbrev IsNothing : {A : Type 0} → Option A → Type 0
IsNothing None = Unit {0}
IsNothing (Some x) = ⊥

pub none-some : {A : Type 0} {P : Type 0} (a : A) → None ≡ Some a → P
none-some a e = absurd (subst IsNothing e tt)

-- a test that refuses nothing was not passed
pub passed : {A : Type 0} (b : Bool) (r : A) → refused_if b r ≡ None → b ≡ false
passed true r e = none-some r (sym e)
passed false r e = refl

pub passes : {A : Type 0} (b : Bool) (r : A) → refused_if (not b) r ≡ None → b ≡ true
passes true r e = refl
passes false r e = none-some r (sym e)
