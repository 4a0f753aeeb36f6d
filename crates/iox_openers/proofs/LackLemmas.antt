-- What is defined meets what is required, or lacks just one thing.
use Rattle.std.proofs.Common.{ℕ, ◌≡◌, ◌∙◌, Bool, true, false, List, [], ◌∷◌, ◌++◌, refl, sym, ap, subst, true≢false, inl, inr}
use Rattle.std.specs.Prelude.{◌⊎◌}
use Rattle.std.specs.Cmp.{first_so, second_so}
use Rattle.std.specs.List.{list_all}
use Rattle.iox_names.specs.Pairs.{is_before, pair_eq}
use Rattle.iox_names.specs.declared.attribute.Attribute.{Attribute}
use Rattle.iox_attributes.specs.Verifiers.{Requirements, Meets, IsFirstMissing, IsLeastMissing, has_key, has_pair, pair}
use Rattle.iox_attributes.proofs.PairLemmas.{before-itself, before-other, before-through, neither-before, pair_eq-same, same-pair_eq}
use Rattle.iox_attributes.proofs.SortedLemmas.{and-so}
use Rattle.iox_attributes.proofs.VerifierLemmas.{first-here, first-more, least-more, or-either}
use Rattle.iox_model.specs.Commands.{Cause, MissingPair, MissingKey}
use Rattle.iox_openers.specs.Openers.{IsLacking}

-- what is and is not so
never : {P : Type 0} (b : Bool) → b ≡ true → b ≡ false → P
never b holds fails = absurd (true≢false (sym holds ∙ fails))

not-true : (b : Bool) → (b ≡ true → b ≡ false) → b ≡ false
not-true true h = h refl
not-true false h = refl

-- ---- pairs

-- each required pair is defined, if all are
each-defined : (required defined : List Attribute) (pair : Attribute) →
    list_all (has_pair defined) required ≡ true → has_pair required pair ≡ true → has_pair defined pair ≡ true
each-defined [] defined pair all h = absurd (true≢false (sym h))
each-defined (first ∷ rest) defined pair all h =
    or-either (pair_eq first pair) (has_pair rest pair) h
    (λ same. rw (← same-pair_eq first pair same)
    (first_so (has_pair defined first) (list_all (has_pair defined) rest) all))
    (λ later. each-defined rest defined pair
    (second_so (has_pair defined first) (list_all (has_pair defined) rest) all) later)

-- no missing pair is before the least
least-before : (required defined : List Attribute) (a b : Attribute) → IsLeastMissing required defined a →
    IsLeastMissing required defined b → is_before b a ≡ false
least-before required defined a b h k = not-true (is_before b a) (λ before.
    never (has_pair defined b) (h.least b k.stands before) k.missing)

-- there is one least missing pair
one-least : (required defined : List Attribute) (a b : Attribute) → IsLeastMissing required defined a →
    IsLeastMissing required defined b → a ≡ b
one-least required defined a b h k =
    neither-before a b (least-before required defined b a k h) (least-before required defined a b h k)

-- all are defined, or one is the least that is not
abbrev PairsOr : List Attribute → List Attribute → Type 0
PairsOr required defined =
    (list_all (has_pair defined) required ≡ true) ⊎ ((pair : Attribute) × IsLeastMissing required defined pair)

by_cases : {P : Type 0} (b : Bool) → (b ≡ true → P) → (b ≡ false → P) → P
by_cases true holds fails = holds refl
by_cases false holds fails = fails refl

-- The first is missing. It is the least, if all of the rest that is before it is there.
least-first : (rest defined : List Attribute) (first : Attribute) → has_pair defined first ≡ false →
    ((other : Attribute) → has_pair rest other ≡ true → is_before other first ≡ true → has_pair defined other ≡ true) →
    IsLeastMissing (first ∷ rest) defined first
least-first rest defined first missing there = record {
  stands = rw (pair_eq-same first) refl;
  missing = missing;
  least = λ other one before. or-either (pair_eq first other) (has_pair rest other) one
      (λ same. never (is_before first first)
      (subst (λ (it : Attribute). is_before it first ≡ true) (sym (same-pair_eq first other same)) before)
      (before-itself first))
      (λ later. there other later before);
}

-- what is before the first is there, if the least of the rest is not before the first
there-before : (rest defined : List Attribute) (first pair : Attribute) → is_before pair first ≡ false →
    IsLeastMissing rest defined pair → (other : Attribute) → has_pair rest other ≡ true →
    is_before other first ≡ true → has_pair defined other ≡ true
there-before rest defined first pair behind h other later before =
    by_cases (is_before other pair) (h.least other later) (λ not-before.
    let one : other ≡ pair = neither-before other pair not-before (before-through other first pair behind before) in
    never (is_before pair first) (subst (λ (it : Attribute). is_before it first ≡ true) one before) behind)

-- the least of the rest stays the least, if it is before the first
least-later : (rest defined : List Attribute) (first pair : Attribute) → is_before pair first ≡ true →
    IsLeastMissing rest defined pair → IsLeastMissing (first ∷ rest) defined pair
least-later rest defined first pair ahead h = record {
  stands = by_cases (pair_eq first pair) (λ same. rw same refl) (λ other. rw other h.stands);
  missing = h.missing;
  least = λ other one before. or-either (pair_eq first other) (has_pair rest other) one
      (λ same. never (is_before first pair)
      (subst (λ (it : Attribute). is_before it pair ≡ true) (sym (same-pair_eq first other same)) before)
      (before-other pair first ahead))
      (λ later. h.least other later before);
}

pairs-with : (rest defined : List Attribute) (first : Attribute) → PairsOr rest defined →
    PairsOr (first ∷ rest) defined
pairs-with rest defined first (inl all) = by_cases (has_pair defined first)
    (λ there. inl (and-so (has_pair defined first) (list_all (has_pair defined) rest) there all))
    (λ missing. inr (
      first,
      least-first rest defined first missing
          (λ other later before. each-defined rest defined other all later),
    ))
pairs-with rest defined first (inr (pair, h)) = by_cases (has_pair defined first)
    (λ there. inr (pair, least-more defined rest first pair there h))
    (λ missing. by_cases (is_before pair first)
    (λ ahead. inr (pair, least-later rest defined first pair ahead h))
    (λ behind. inr (first, least-first rest defined first missing (there-before rest defined first pair behind h))))

pairs-or : (required defined : List Attribute) → PairsOr required defined
pairs-or [] defined = inl refl
pairs-or (first ∷ rest) defined = pairs-with rest defined first (pairs-or rest defined)

-- ---- keys

abbrev KeysOr : List (List ℕ) → List Attribute → Type 0
KeysOr required defined =
    (list_all (has_key defined) required ≡ true) ⊎ ((key : List ℕ) × IsFirstMissing required defined key)

keys-with : (rest : List (List ℕ)) (defined : List Attribute) (first : List ℕ) → KeysOr rest defined →
    KeysOr (first ∷ rest) defined
keys-with rest defined first or = by_cases (has_key defined first)
    (λ there. elim or [
      | inl all ↦ inl (and-so (has_key defined first) (list_all (has_key defined) rest) there all)
      | inr p ↦ inr (p.0, first-more defined rest first p.0 there p.1)
    ])
    (λ missing. inr (first, first-here defined rest first missing))

-- all are defined, or one is the first that is not
keys-or : (required : List (List ℕ)) (defined : List Attribute) → KeysOr required defined
keys-or [] defined = inl refl
keys-or (first ∷ rest) defined = keys-with rest defined first (keys-or rest defined)

-- what stands behind a front passes the test, if all do
test-behind : (test : List ℕ → Bool) (front rest : List (List ℕ)) (key : List ℕ) →
    list_all test (front ++ key ∷ rest) ≡ true → test key ≡ true
test-behind test [] rest key all = first_so (test key) (list_all test rest) all
test-behind test (first ∷ front) rest key all =
    test-behind test front rest key (second_so (test first) (list_all test (front ++ key ∷ rest)) all)

first-of : (a b : List ℕ) (rest more : List (List ℕ)) → a ∷ rest ≡ b ∷ more → a ≡ b
first-of a b rest more h = cc

rest-of : (a b : List ℕ) (rest more : List (List ℕ)) → a ∷ rest ≡ b ∷ more → rest ≡ more
rest-of a b rest more h = cc

-- a list has one first that fails a test
one-failing : (test : List ℕ → Bool) (front other rest more : List (List ℕ)) (a b : List ℕ) →
    front ++ a ∷ rest ≡ other ++ b ∷ more → list_all test front ≡ true → list_all test other ≡ true →
    test a ≡ false → test b ≡ false → a ≡ b
one-failing test [] [] rest more a b e h k fails none = first-of a b rest more e
one-failing test [] (y ∷ other) rest more a b e h k fails none =
    never (test y) (first_so (test y) (list_all test other) k)
    (ap test (sym (first-of a y rest (other ++ b ∷ more) e)) ∙ fails)
one-failing test (x ∷ front) [] rest more a b e h k fails none =
    never (test x) (first_so (test x) (list_all test front) h)
    (ap test (first-of x b (front ++ a ∷ rest) more e) ∙ none)
one-failing test (x ∷ front) (y ∷ other) rest more a b e h k fails none =
    one-failing test front other rest more a b (rest-of x y (front ++ a ∷ rest) (other ++ b ∷ more) e)
    (second_so (test x) (list_all test front) h) (second_so (test y) (list_all test other) k) fails none

-- there is one first missing key
one-first : (required : List (List ℕ)) (defined : List Attribute) (a b : List ℕ) →
    IsFirstMissing required defined a → IsFirstMissing required defined b → a ≡ b
one-first required defined a b h k =
    one-failing (has_key defined) h.front k.front h.rest k.rest a b (sym h.stands ∙ k.stands)
    h.earlier k.earlier h.missing k.missing

-- ---- both

-- what meets the requirements lacks nothing
pub met-lacks_nothing : (required : Requirements) (defined : List Attribute) (cause : Cause) →
    Meets required defined → IsLacking required defined cause → ⊥
met-lacks_nothing required defined (MissingPair key value) met h = never (has_pair defined (pair key value))
    (each-defined required.pairs defined (pair key value) met.pairs h.stands) h.missing
met-lacks_nothing required defined (MissingKey key) met h = never (has_key defined key)
    (test-behind (has_key defined) h.1.front h.1.rest key
    (subst (λ (list : List (List ℕ)). list_all (has_key defined) list ≡ true) h.1.stands met.keys)) h.1.missing

-- there is one cause
pub one-cause : (required : Requirements) (defined : List Attribute) (a b : Cause) →
    IsLacking required defined a → IsLacking required defined b → a ≡ b
one-cause required defined (MissingPair k v) (MissingPair l w) h g =
    let one : pair k v ≡ pair l w = one-least required.pairs defined (pair k v) (pair l w) h g in
    λ i. MissingPair (one i).key (one i).value
one-cause required defined (MissingPair k v) (MissingKey l) h g = never (has_pair defined (pair k v))
    (each-defined required.pairs defined (pair k v) g.0 h.stands) h.missing
one-cause required defined (MissingKey k) (MissingPair l w) h g = never (has_pair defined (pair l w))
    (each-defined required.pairs defined (pair l w) h.0 g.stands) g.missing
one-cause required defined (MissingKey k) (MissingKey l) h g =
    ap MissingKey (one-first required.keys defined k l h.1 g.1)

-- what is defined meets what is required, or there is a cause
pub meets-or-lacks : (required : Requirements) (defined : List Attribute) →
    Meets required defined ⊎ ((cause : Cause) × IsLacking required defined cause)
meets-or-lacks required defined = elim (pairs-or required.pairs defined) [
  | inr p ↦ inr (MissingPair p.0.key p.0.value, p.1)
  | inl pairs ↦ elim (keys-or required.keys defined) [
    | inl keys ↦ inl (record { pairs = pairs; keys = keys })
    | inr k ↦ inr (MissingKey k.0, (pairs, k.1))
  ]
]
