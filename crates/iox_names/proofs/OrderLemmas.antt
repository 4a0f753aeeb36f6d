-- The order of texts goes by their bytes.
use Rattle.std.proofs.Common.{ℕ, ◌≡◌, ◌<◌, ◌∙◌, List, [], ◌∷◌, ◌++◌, refl, sym, ap}
use Rattle.std.specs.Cmp.{nat_cmp_is}
use Rattle.std.specs.Cmp.Lexicographic.{same_text, texts_ties}
use Rattle.std.specs.Ordering.{nat_cmp, is_eq}
use Rattle.std.specs.declared.cmp.Ordering.TheVariants.{Equal, Less}
use Rattle.iox_names.specs.Texts.{text_cmp}

nat_cmp-same : (x : ℕ) → nat_cmp x x ≡ Equal
nat_cmp-same x = sym (nat_cmp_is x x Equal refl)

nat_cmp-less : (x y : ℕ) → x < y → nat_cmp x y ≡ Less
nat_cmp-less x y h = sym (nat_cmp_is x y Less h)

-- a text is equal to itself
pub text_cmp-same : (a : List ℕ) → text_cmp a a ≡ Equal
text_cmp-same [] = refl
text_cmp-same (x ∷ a) = rw (nat_cmp-same x) (text_cmp-same a)

-- and to no other
pub same-text_cmp : (a b : List ℕ) → text_cmp a b ≡ Equal → a ≡ b
same-text_cmp a b h = same_text a b (sym (texts_ties a b ∙ ap is_eq h))

-- it is before what it is the front of
pub text_cmp-front : (a : List ℕ) (byte : ℕ) (rest : List ℕ) → text_cmp a (a ++ byte ∷ rest) ≡ Less
text_cmp-front [] byte rest = refl
text_cmp-front (x ∷ a) byte rest = rw (nat_cmp-same x) (text_cmp-front a byte rest)

-- and before what has a greater byte where they first differ
pub text_cmp-first : (front : List ℕ) (less more : ℕ) (a b : List ℕ) → less < more →
    text_cmp (front ++ less ∷ a) (front ++ more ∷ b) ≡ Less
text_cmp-first [] less more a b h = rw (nat_cmp-less less more h) refl
text_cmp-first (x ∷ front) less more a b h = rw (nat_cmp-same x) (text_cmp-first front less more a b h)
