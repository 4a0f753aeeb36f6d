-- The order of pairs is total, and tells apart whatever differs.
use Rattle.std.proofs.Common.{◌≡◌, ◌∙◌, Bool, true, false, refl, sym, ap, true≢false}
use Rattle.std.specs.Cmp.{IsTotalOrder, then_total, first_so, second_so}
use Rattle.std.specs.Cmp.Lexicographic.{nat_list_eq_equiv, on_texts, same_text}
use Rattle.std.specs.Ordering.{is_gt, is_lt, ordering_reverse, ordering_then}
use Rattle.std.specs.declared.cmp.Ordering.{Ordering}
use Rattle.std.specs.declared.cmp.Ordering.TheVariants.{Equal, Less, Greater}
use Rattle.iox_names.specs.Texts.{text_cmp, text_eq}
use Rattle.iox_names.proofs.OrderLemmas.{same-text_cmp, text_cmp-same}
use Rattle.iox_names.specs.Pairs.{is_before, pair_cmp, pair_eq}
use Rattle.iox_names.specs.declared.attribute.Attribute.{Attribute}

pair_cmp-total : IsTotalOrder pair_cmp
pair_cmp-total = then_total (on_texts (λ it. it.key)) (on_texts (λ it. it.value))

-- what is less is told so
is_lt-Less : (order : Ordering) → is_lt order ≡ true → order ≡ Less
is_lt-Less Less h = refl
is_lt-Less Equal h = absurd (true≢false (sym h))
is_lt-Less Greater h = absurd (true≢false (sym h))

-- two pairs with equal parts are one
pub same-parts : (a b : Attribute) → a.key ≡ b.key → a.value ≡ b.value → a ≡ b
same-parts a b key value = λ i. record { key = key i; value = value i }

-- a pair is equal to itself
pub pair_eq-same : (a : Attribute) → pair_eq a a ≡ true
pair_eq-same a =
    let key : text_eq a.key a.key ≡ true = nat_list_eq_equiv.refl a.key in
    let value : text_eq a.value a.value ≡ true = nat_list_eq_equiv.refl a.value in
    rw (key, value) refl

-- and to no other
pub same-pair_eq : (a b : Attribute) → pair_eq a b ≡ true → a ≡ b
same-pair_eq a b h = same-parts a b
    (same_text a.key b.key (sym (first_so (text_eq a.key b.key) (text_eq a.value b.value) h)))
    (same_text a.value b.value (sym (second_so (text_eq a.key b.key) (text_eq a.value b.value) h)))

-- no pair is before itself
pub before-itself : (a : Attribute) → is_before a a ≡ false
before-itself a =
    let key : text_cmp a.key a.key ≡ Equal = text_cmp-same a.key in
    let value : text_cmp a.value a.value ≡ Equal = text_cmp-same a.value in
    rw (key, value) refl

reverse-Less : (o r : Ordering) → o ≡ ordering_reverse r → is_lt r ≡ true → is_lt o ≡ false
reverse-Less o r e h = rw (e, is_lt-Less r h) refl

-- of two pairs one is not before the other
pub before-other : (a b : Attribute) → is_before a b ≡ true → is_before b a ≡ false
before-other a b h = reverse-Less (pair_cmp b a) (pair_cmp a b) (pair_cmp-total.antisymm b a) h

not-both : (b : Bool) → (b ≡ true → true ≡ false) → b ≡ false
not-both true h = h refl
not-both false h = refl

-- what is before a pair is before each that this one does not follow
pub before-through : (p a b : Attribute) → is_before b a ≡ false → is_before p a ≡ true → is_before b p ≡ false
before-through p a b not-before before = not-both (is_before b p) (λ h.
    let less : pair_cmp b a ≡ Less = pair_cmp-total.trans b p a (is_lt-Less (pair_cmp b p) h)
    (is_lt-Less (pair_cmp p a) before) in
    sym (ap is_lt less) ∙ not-before)

then-Equal-first : (a b : Ordering) → ordering_then a b ≡ Equal → a ≡ Equal
then-Equal-first Less b h = h
then-Equal-first Equal b h = refl
then-Equal-first Greater b h = h

then-Equal-second : (a b : Ordering) → ordering_then a b ≡ Equal → b ≡ Equal
then-Equal-second Less b h = absurd (true≢false (ap is_lt h))
then-Equal-second Equal b h = h
then-Equal-second Greater b h = absurd (true≢false (ap is_gt h))

neither-Less : (o r : Ordering) → o ≡ ordering_reverse r → is_lt o ≡ false → is_lt r ≡ false → o ≡ Equal
neither-Less Less r e h k = absurd (true≢false h)
neither-Less Equal r e h k = refl
neither-Less Greater Less e h k = absurd (true≢false k)
neither-Less Greater Equal e h k = e
neither-Less Greater Greater e h k = absurd (true≢false (ap is_gt e))

-- two pairs of which neither is before the other are one
pub neither-before : (a b : Attribute) → is_before a b ≡ false → is_before b a ≡ false → a ≡ b
neither-before a b h k =
    let equal : pair_cmp a b ≡ Equal = neither-Less (pair_cmp a b) (pair_cmp b a) (pair_cmp-total.antisymm a b) h k in
    same-parts a b
    (same-text_cmp a.key b.key (then-Equal-first (text_cmp a.key b.key) (text_cmp a.value b.value) equal))
    (same-text_cmp a.value b.value (then-Equal-second (text_cmp a.key b.key) (text_cmp a.value b.value) equal))
