-- A set stays sorted, and a pair goes in at its place.
use Rattle.std.proofs.Common.{ℕ, suc, ◌≡◌, ◌≤◌, ◌<◌, ◌+◌, ◌-◌, ◌∙◌, Bool, true, false, List, [], ◌∷◌, ◌++◌, take, drop, length, refl, sym, ap, arith, length-append, length-drop}
use Rattle.std.specs.Prelude.{◌&&◌, not, if◌then◌else◌}
use Rattle.std.specs.Cmp.{first_so, second_so}
use Rattle.std.specs.List.{insert, list_all, slice_set}
use Rattle.std.proofs.lemmas.List.{drop-append-le, drop-take, drop_at, length-take-le, length-set, take-set-le, take-take, take_at, take_more_set}
use Rattle.std.proofs.lemmas.Slice.{take-put_mid}
use borrow.Rule.Slice.PartMut.{put_mid}
use Rattle.iox_names.specs.Pairs.{is_before}
use Rattle.iox_names.specs.declared.attribute.Attribute.{Attribute}
use Rattle.iox_attributes.specs.Sets.{is_sorted, with_pair}
use Rattle.iox_attributes.specs.Storage.{place_of}
use Rattle.iox_attributes.proofs.PairLemmas.{before-other, before-through}

-- both
pub and-so : (a b : Bool) → a ≡ true → b ≡ true → (a && b) ≡ true
and-so a b h k = rw (h, k) refl

pub not-true : (b : Bool) → not b ≡ true → b ≡ false
not-true true e = sym e
not-true false e = refl

-- what holds of all pairs and of one more holds of the set with that one
all-placed : (test : Attribute → Bool) (pair first : Attribute) (rest : List Attribute) (b : Bool) → test pair ≡ true →
    test first ≡ true → list_all test rest ≡ true → list_all test (with_pair pair rest) ≡ true →
    list_all test (if b then pair ∷ first ∷ rest else first ∷ with_pair pair rest) ≡ true
all-placed test pair first rest true p f r w = and-so (test pair) (test first && list_all test rest) p
    (and-so (test first) (list_all test rest) f r)
all-placed test pair first rest false p f r w = and-so (test first) (list_all test (with_pair pair rest)) f w

pub all-with_pair : (test : Attribute → Bool) (pair : Attribute) (set : List Attribute) → test pair ≡ true →
    list_all test set ≡ true → list_all test (with_pair pair set) ≡ true
all-with_pair test pair [] p r = and-so (test pair) true p refl
all-with_pair test pair (first ∷ rest) p r =
    let f = first_so (test first) (list_all test rest) r in
    let more = second_so (test first) (list_all test rest) r in
    all-placed test pair first rest (is_before pair first) p f more (all-with_pair test pair rest p more)

-- none is before a pair that is before the first of a sorted list
none-before : (pair first : Attribute) (rest : List Attribute) → is_before pair first ≡ true →
    list_all (λ later. not (is_before later first)) rest ≡ true → list_all (λ later. not (is_before later pair)) rest ≡ true
none-before pair first [] h all = refl
none-before pair first (later ∷ rest) h all =
    let now = first_so (not (is_before later first)) (list_all (λ it. not (is_before it first)) rest) all in
    let others = second_so (not (is_before later first)) (list_all (λ it. not (is_before it first)) rest) all in
    and-so (not (is_before later pair)) (list_all (λ it. not (is_before it pair)) rest)
    (ap not (before-through pair first later (not-true (is_before later first) now) h))
    (none-before pair first rest h others)

sorted-placed : (pair first : Attribute) (rest : List Attribute) (b : Bool) → is_before pair first ≡ b →
    is_sorted (first ∷ rest) ≡ true → is_sorted (with_pair pair rest) ≡ true →
    is_sorted (if b then pair ∷ first ∷ rest else first ∷ with_pair pair rest) ≡ true
sorted-placed pair first rest true e sorted more =
    let none = first_so (list_all (λ it. not (is_before it first)) rest) (is_sorted rest) sorted in
    and-so (not (is_before first pair) && list_all (λ it. not (is_before it pair)) rest) (is_sorted (first ∷ rest))
    (and-so (not (is_before first pair)) (list_all (λ it. not (is_before it pair)) rest)
    (ap not (before-other pair first e)) (none-before pair first rest e none))
    sorted
sorted-placed pair first rest false e sorted more =
    let none = first_so (list_all (λ it. not (is_before it first)) rest) (is_sorted rest) sorted in
    and-so (list_all (λ it. not (is_before it first)) (with_pair pair rest)) (is_sorted (with_pair pair rest))
    (all-with_pair (λ it. not (is_before it first)) pair rest (ap not e) none) more

-- a sorted list with one pair more is sorted
pub sorted-with_pair : (pair : Attribute) (set : List Attribute) → is_sorted set ≡ true →
    is_sorted (with_pair pair set) ≡ true
sorted-with_pair pair [] sorted = refl
sorted-with_pair pair (first ∷ rest) sorted =
    sorted-placed pair first rest (is_before pair first) refl sorted (sorted-with_pair pair rest
    (second_so (list_all (λ it. not (is_before it first)) rest) (is_sorted rest) sorted))

place-placed : (pair first : Attribute) (rest : List Attribute) (b : Bool) →
    with_pair pair rest ≡ insert rest (place_of pair rest) pair →
    (if b then pair ∷ first ∷ rest else first ∷ with_pair pair rest)
    ≡ insert (first ∷ rest) (if b then 0 else 1 + place_of pair rest) pair
place-placed pair first rest true same = refl
place-placed pair first rest false same =
    let next : 1 + place_of pair rest ≡ suc (place_of pair rest) = omega arith in
    rw next (ap (λ (tail : List Attribute). first ∷ tail) same)

-- a pair goes in at its place
pub with_pair-insert : (pair : Attribute) (set : List Attribute) →
    with_pair pair set ≡ insert set (place_of pair set) pair
with_pair-insert pair [] = refl
with_pair-insert pair (first ∷ rest) =
    place-placed pair first rest (is_before pair first) (with_pair-insert pair rest)

length-placed : (pair first : Attribute) (rest : List Attribute) (b : Bool) →
    length (with_pair pair rest) ≡ length rest + 1 →
    length (if b then pair ∷ first ∷ rest else first ∷ with_pair pair rest) ≡ length (first ∷ rest) + 1
length-placed pair first rest true h = omega arith
length-placed pair first rest false h = omega (arith, h)

-- a set with one pair more has one more
pub length-with_pair : (pair : Attribute) (set : List Attribute) → length (with_pair pair set) ≡ length set + 1
length-with_pair pair [] = refl
length-with_pair pair (first ∷ rest) =
    length-placed pair first rest (is_before pair first) (length-with_pair pair rest)

place-le : (pair first : Attribute) (rest : List Attribute) (b : Bool) → place_of pair rest ≤ length rest →
    (if b then 0 else 1 + place_of pair rest) ≤ length (first ∷ rest)
place-le pair first rest true h = omega arith
place-le pair first rest false h = omega (arith, h)

-- its place is not past the end
pub place_of-le : (pair : Attribute) (set : List Attribute) → place_of pair set ≤ length set
place_of-le pair [] = omega arith
place_of-le pair (first ∷ rest) = place-le pair first rest (is_before pair first) (place_of-le pair rest)

-- the part from a place to the end, with a pair behind it
tail-is : (xs : List Attribute) (len place : ℕ) (pair : Attribute) → place ≤ len → len < length xs →
    take (len + 1 - place) (drop place (slice_set xs len pair)) ≡ drop place (take len xs) ++ pair ∷ []
tail-is xs len place pair below room =
    let sum : place + (len + 1 - place) ≡ len + 1 = omega arith in
    let sized : length (take len xs) ≡ len = length-take-le len xs (omega arith) in
    sym (drop-take place (len + 1 - place) (slice_set xs len pair))
    ∙ rw (sum, take_more_set xs len pair room) (drop-append-le place (take len xs) (pair ∷ []) (rw sized below))

rotated : (part tail : List Attribute) (pair : Attribute) → part ≡ tail ++ pair ∷ [] →
    drop (length part - 1) part ++ take (length part - 1) part ≡ pair ∷ tail
rotated part tail pair is =
    let sized : length (tail ++ pair ∷ []) ≡ length tail + 1 = length-append tail (pair ∷ []) in
    let less : length (tail ++ pair ∷ []) - 1 ≡ length tail = omega arith in
    rw (is, less, drop_at tail (pair ∷ []) (length tail) refl, take_at tail (pair ∷ []) (length tail) refl) refl

-- what stands behind a place goes one further, and the pair that stood last goes there
pub insert-rotated : (xs part : List Attribute) (len place : ℕ) (pair : Attribute) → place ≤ len → len < length xs →
    part ≡ drop (length (take (len + 1 - place) (drop place (slice_set xs len pair))) - 1)
    (take (len + 1 - place) (drop place (slice_set xs len pair)))
    ++ take (length (take (len + 1 - place) (drop place (slice_set xs len pair))) - 1)
    (take (len + 1 - place) (drop place (slice_set xs len pair))) →
    take (len + 1) (put_mid place (len + 1 - place) (slice_set xs len pair) part) ≡ insert (take len xs) place pair
insert-rotated xs part len place pair below room is =
    let tail : List Attribute = drop place (take len xs) in
    let part-is : part ≡ pair ∷ drop place (take len xs) = is ∙ rotated
    (take (len + 1 - place) (drop place (slice_set xs len pair))) (drop place (take len xs)) pair
    (tail-is xs len place pair below room) in
    let sized : length (take len xs) ≡ len = length-take-le len xs (omega arith) in
    let rest : length (drop place (take len xs)) ≡ length (take len xs) - place = length-drop place (take len xs) in
    let long : length part ≡ length (drop place (take len xs)) + 1 = rw part-is (omega arith) in
    let whole : length (slice_set xs len pair) ≡ length xs = length-set xs len pair in
    take-put_mid place (len + 1 - place) (slice_set xs len pair) part (len + 1) (omega arith) (omega arith)
    ∙ rw (take-set-le place xs len pair below, part-is, take-take place len xs below) refl
