-- A set is told by how often each pair was added.
use Rattle.std.proofs.Common.{ℕ, suc, zero, ◌≡◌, ◌<◌, ◌+◌, ◌∙◌, Bool, true, false, List, [], ◌∷◌, length, refl, sym, ap, subst, arith, true≢false}
use Rattle.std.specs.Prelude.{◌||◌, ◌↔◌, if◌then◌else◌, not, IsSome}
use Rattle.std.specs.Cmp.{first_so, second_so}
use Rattle.std.specs.List.{list_all, slice_get}
use Rattle.iox_names.specs.Pairs.{is_before, pair_eq}
use Rattle.iox_names.specs.declared.attribute.Attribute.{Attribute}
use Rattle.iox_attributes.specs.Sets.{count, is_sorted, set_of, with_pair}
use Rattle.iox_attributes.specs.Verifiers.{has_pair}
use Rattle.iox_attributes.proofs.PairLemmas.{before-itself, neither-before, pair_eq-same, same-pair_eq}
use Rattle.iox_attributes.proofs.SortedLemmas.{sorted-with_pair}
use Rattle.iox_attributes.proofs.VerifierLemmas.{not-before, or-either}

-- how often a pair is another: once or never
abbrev once : Attribute → Attribute → ℕ
once first pair = if pair_eq first pair then 1 else 0

exchange : (x y n m : ℕ) → m ≡ x + n → y + m ≡ x + (y + n)
exchange x y n m h = omega (arith, h)

cancel : (x n m : ℕ) → x + n ≡ x + m → n ≡ m
cancel x n m h = omega (arith, h)

count-placed : (pair added first : Attribute) (rest : List Attribute) (b : Bool) →
    count pair (with_pair added rest) ≡ once added pair + count pair rest →
    count pair (if b then added ∷ first ∷ rest else first ∷ with_pair added rest)
    ≡ once added pair + count pair (first ∷ rest)
count-placed pair added first rest true h = refl
count-placed pair added first rest false h =
    exchange (once added pair) (once first pair) (count pair rest) (count pair (with_pair added rest)) h

-- a set with one pair more has it once more
count-with_pair : (pair added : Attribute) (set : List Attribute) →
    count pair (with_pair added set) ≡ once added pair + count pair set
count-with_pair pair added [] = refl
count-with_pair pair added (first ∷ rest) =
    count-placed pair added first rest (is_before added first) (count-with_pair pair added rest)

-- a set has each pair as often as it was added
pub count-set_of : (a : List Attribute) (pair : Attribute) → count pair (set_of a) ≡ count pair a
count-set_of [] pair = refl
count-set_of (added ∷ a) pair =
    count-with_pair pair added (set_of a) ∙ ap (λ (n : ℕ). once added pair + n) (count-set_of a pair)

-- and is sorted
pub sorted-set_of : (a : List Attribute) → is_sorted (set_of a) ≡ true
sorted-set_of [] = refl
sorted-set_of (added ∷ a) = sorted-with_pair added (set_of a) (sorted-set_of a)

none-below : {P : Type 0} (n : ℕ) → n < 0 → P
none-below n h = absurd (omega (arith, h))

has-one : (b rest : Bool) (n : ℕ) → (0 < n → rest ≡ true) → 0 < (if b then 1 else 0) + n → (b || rest) ≡ true
has-one true rest n more h = refl
has-one false rest n more h = more (omega (arith, h))

has-counted : (set : List Attribute) (pair : Attribute) → 0 < count pair set → has_pair set pair ≡ true
has-counted [] pair h = none-below 0 h
has-counted (first ∷ rest) pair h =
    has-one (pair_eq first pair) (has_pair rest pair) (count pair rest) (has-counted rest pair) h

-- no pair of a sorted list is before its first
first-not-before : (first other : Attribute) (rest : List Attribute) → is_sorted (first ∷ rest) ≡ true →
    0 < count other (first ∷ rest) → is_before other first ≡ false
first-not-before first other rest sorted h =
    or-either (pair_eq first other) (has_pair rest other) (has-counted (first ∷ rest) other h)
    (λ same. rw (← same-pair_eq first other same) (before-itself first))
    (λ later. not-before rest first other
    (first_so (list_all (λ it. not (is_before it first)) rest) (is_sorted rest) sorted) later)

some-more : (b : Bool) (n : ℕ) → b ≡ true → 0 < (if b then 1 else 0) + n
some-more true n h = omega arith
some-more false n h = absurd (true≢false (sym h))

count-first : (first : Attribute) (rest : List Attribute) → 0 < count first (first ∷ rest)
count-first first rest = some-more (pair_eq first first) (count first rest) (pair_eq-same first)

-- sorted lists that have each pair equally often are one
pub same-counts : (a b : List Attribute) → is_sorted a ≡ true → is_sorted b ≡ true →
    ((pair : Attribute) → count pair a ≡ count pair b) → a ≡ b
same-counts [] [] s t h = refl
same-counts [] (y ∷ b) s t h = none-below 0 (subst (λ (n : ℕ). 0 < n) (sym (h y)) (count-first y b))
same-counts (x ∷ a) [] s t h = none-below 0 (subst (λ (n : ℕ). 0 < n) (h x) (count-first x a))
same-counts (x ∷ a) (y ∷ b) s t h =
    let one : x ≡ y = neither-before x y
    (first-not-before y x b t (subst (λ (n : ℕ). 0 < n) (h x) (count-first x a)))
    (first-not-before x y a s (subst (λ (n : ℕ). 0 < n) (sym (h y)) (count-first y b))) in
    let tails : (pair : Attribute) → count pair a ≡ count pair b = λ pair.
    cancel (once x pair) (count pair a) (count pair b)
    (h pair ∙ ap (λ (first : Attribute). once first pair + count pair b) (sym one)) in
    let rest : a ≡ b = same-counts a b
    (second_so (list_all (λ it. not (is_before it x)) a) (is_sorted a) s)
    (second_so (list_all (λ it. not (is_before it y)) b) (is_sorted b) t) tails in
    λ i. one i ∷ rest i

-- so are sets to which the same pairs were added equally often
pub same-set_of : (a b : List Attribute) → (set_of a ≡ set_of b) ↔ ((pair : Attribute) → count pair a ≡ count pair b)
same-set_of a b = (
  λ same pair. sym (count-set_of a pair) ∙ ap (count pair) same ∙ count-set_of b pair,
  λ counts. same-counts (set_of a) (set_of b) (sorted-set_of a) (sorted-set_of b)
      (λ pair. count-set_of a pair ∙ counts pair ∙ sym (count-set_of b pair)),
)

-- an item is there below the number of items
pub item-there : (values : List (List ℕ)) (index : ℕ) → IsSome (slice_get values index) ↔ (index < length values)
item-there [] index = (λ h. absurd (true≢false (sym h)), λ h. none-below index h)
item-there (first ∷ rest) zero = (λ h. omega arith, λ h. refl)
item-there (first ∷ rest) (suc index) = (
  λ h. let there = (item-there rest index).0 h in omega arith,
  λ h. (item-there rest index).1 (omega (arith, h)),
)
