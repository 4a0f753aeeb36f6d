-- What is missing of the rest of a list is missing of the whole, where the first is there.
use Rattle.std.proofs.Common.{ℕ, ◌≡◌, ◌∙◌, Bool, true, false, List, [], ◌∷◌, refl, sym, ap, true≢false}
use Rattle.std.specs.Prelude.{◌||◌, not}
use Rattle.std.specs.Cmp.{first_so, second_so}
use Rattle.std.specs.List.{list_all}
use Rattle.iox_names.specs.Pairs.{is_before, pair_eq}
use Rattle.iox_names.specs.declared.attribute.Attribute.{Attribute}
use Rattle.iox_attributes.specs.Sets.{is_sorted}
use Rattle.iox_attributes.specs.Verifiers.{IsFirstMissing, IsLeastMissing, has_key, has_pair}
use Rattle.iox_attributes.proofs.PairLemmas.{before-itself, pair_eq-same, same-pair_eq}
use Rattle.iox_attributes.proofs.SortedLemmas.{not-true}

or-second : (a b : Bool) → b ≡ true → (a || b) ≡ true
or-second true b h = refl
or-second false b h = h

or-first : (a b : Bool) → a ≡ true → (a || b) ≡ true
or-first a b h = rw h refl

-- by cases on which of the two holds
pub or-either : {P : Type 0} (a b : Bool) → (a || b) ≡ true → (a ≡ true → P) → (b ≡ true → P) → P
or-either true b h first second = first refl
or-either false b h first second = second h

-- the first is there
pub least-more : (defined rest : List Attribute) (first pair : Attribute) → has_pair defined first ≡ true →
    IsLeastMissing rest defined pair → IsLeastMissing (first ∷ rest) defined pair
least-more defined rest first pair there h = record {
  stands = or-second (pair_eq first pair) (has_pair rest pair) h.stands;
  missing = h.missing;
  least = λ other one before. or-either (pair_eq first other) (has_pair rest other) one
      (λ same. rw (← same-pair_eq first other same) there) (λ later. h.least other later before);
}

pub not-before : (rest : List Attribute) (first other : Attribute) → list_all (λ it. not (is_before it first)) rest ≡ true →
    has_pair rest other ≡ true → is_before other first ≡ false
not-before [] first other all h = absurd (true≢false (sym h))
not-before (it ∷ rest) first other all h =
    let now = first_so (not (is_before it first)) (list_all (λ it. not (is_before it first)) rest) all in
    let others = second_so (not (is_before it first)) (list_all (λ it. not (is_before it first)) rest) all in
    or-either (pair_eq it other) (has_pair rest other) h
    (λ same. rw (← same-pair_eq it other same) (not-true (is_before it first) now))
    (λ later. not-before rest first other others later)

absurd-so : {P : Type 0} (b : Bool) → b ≡ true → b ≡ false → P
absurd-so b h k = absurd (true≢false (sym h ∙ k))

-- the first is not
pub least-first : (defined rest : List Attribute) (first : Attribute) → is_sorted (first ∷ rest) ≡ true →
    has_pair defined first ≡ false → IsLeastMissing (first ∷ rest) defined first
least-first defined rest first sorted missing = record {
  stands = or-first (pair_eq first first) (has_pair rest first) (pair_eq-same first);
  missing = missing;
  least = λ other one before. or-either (pair_eq first other) (has_pair rest other) one
      (λ same. absurd-so (is_before other first) before (rw (← same-pair_eq first other same) (before-itself first)))
      (λ later. absurd-so (is_before other first) before
      (not-before rest first other (first_so (list_all (λ it. not (is_before it first)) rest) (is_sorted rest) sorted) later));
}

-- the first key is there
pub first-more : (defined : List Attribute) (rest : List (List ℕ)) (first key : List ℕ) → has_key defined first ≡ true →
    IsFirstMissing rest defined key → IsFirstMissing (first ∷ rest) defined key
first-more defined rest first key there h = record {
  front = first ∷ h.front;
  rest = h.rest;
  stands = ap (λ (tail : List (List ℕ)). first ∷ tail) h.stands;
  earlier = rw there h.earlier;
  missing = h.missing;
}

-- the first key is not
pub first-here : (defined : List Attribute) (rest : List (List ℕ)) (first : List ℕ) → has_key defined first ≡ false →
    IsFirstMissing (first ∷ rest) defined first
first-here defined rest first missing = record {
  front = [];
  rest = rest;
  stands = refl;
  earlier = refl;
  missing = missing;
}
