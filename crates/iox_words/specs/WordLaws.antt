-- How the words of a type keep the laws of words: along a bijection to another type, and part by
-- part.
use Rattle.std.proofs.Common.{ℕ, ◌≡◌, ◌+◌, ◌<◌, ◌^◌, List, ◌++◌, Option, Some, None, length, take, drop, refl, ap, sym, ◌∙◌, arith, All, MatchOption, length-append, Bool, true, false, if◌then◌else◌}
use Rattle.std.specs.Prelude.{IfSome, IsTrue}
use Rattle.std.specs.Option.{option_map}
use Rattle.std.proofs.lemmas.List.{take-append-drop, take_at, drop_at}
use Rattle.std.proofs.lemmas.List.Elements.{All-same, All-append}
use Rattle.iox_words.specs.WordLists.{AreWords}
use Rattle.iox_words.specs.WordParts.{both, IsWordsInParts, of_parts, IsWordsWhere, passing, of_where}

-- what holds of a value that is read holds, translated, of what it is mapped to
forth-option_map : {A B : Type 0} (o : Option A) (from : A → B) (N : Type 0) (Q : A → Type 0) (R : B →
    Type 0) →
    ((a : A) → Q a → R (from a)) → MatchOption o N Q → MatchOption (option_map from o) N R
forth-option_map None from N Q R there h = h
forth-option_map (Some a) from N Q R there h = there a h

-- a type whose values are in bijection with another's has the same words
pub AreWords-option_map : {A B : Type 0} (count : ℕ) (IsA : A → Type 0) (words : A → List ℕ)
    (are : List ℕ → Type 0) (of : List ℕ → Option A)
    (IsB : B → Type 0) (to : B → A) (from : A → B) →
    AreWords count IsA words are of →
    ((b : B) → IsB b → IsA (to b) × (from (to b) ≡ b)) → ((a : A) → IsA a → IsB (from a) × (to
    (from a) ≡ a)) →
    AreWords count IsB (λ b. words (to b)) are (λ list. option_map from (of list))
AreWords-option_map {A} {B} count IsA words are of IsB to from laws there here = record {
  counted = laws.counted;
  bounded = laws.bounded;
  meets = λ b h. laws.meets (to b) (there b h).0;
  back = λ b h. rw (laws.back (to b) (there b h).0) (ap Some (there b h).1);
  forth = λ list. forth-option_map (of list) from (are list → ⊥) (λ a. are list × IsA a × (words a ≡ list))
      (λ b. are list × IsB b × (words (to b) ≡ list))
      (λ a h. (h.0, (here a h.1).0, ap words (here a h.1).1 ∙ h.2)) (laws.forth list);
}

module _ {A B : Type 0} (m n : ℕ) (IsA : A → Type 0) (words_a : A → List ℕ) (are_a : List ℕ → Type 0)
    (of_a : List ℕ → Option A)
    (IsB : B → Type 0) (words_b : B → List ℕ) (are_b : List ℕ → Type 0) (of_b : List ℕ → Option B)
    (first : AreWords m IsA words_a are_a of_a) (second : AreWords n IsB words_b are_b of_b) where
  -- a list is as long as its first part and its second
  whole : (list : List ℕ) → length list ≡ length (take m list) + length (drop m list)
  whole list = ap length (sym (take-append-drop m list)) ∙ length-append (take m list) (drop m list)

  -- words in two parts are as many as both parts have
  counted-parts : (list : List ℕ) → IsWordsInParts m are_a are_b list → length list ≡ m + n
  counted-parts list h =
      let a : length (take m list) ≡ m = first.counted (take m list) h.0 in
      let b : length (drop m list) ≡ n = second.counted (drop m list) h.1 in
      let w = whole list in
      omega arith

  -- each word of the two parts has at most 64 bits
  bounded-parts : (list : List ℕ) → IsWordsInParts m are_a are_b list → All (λ word. word < 2 ^ 64) list
  bounded-parts list h =
      All-same (λ word. word < 2 ^ 64) list (take m list ++ drop m list) (sym (take-append-drop m list))
      (All-append (λ word. word < 2 ^ 64) (take m list) (drop m list) (first.bounded (take m list) h.0)
      (second.bounded (drop m list) h.1))

  -- the first part of the words is the first value's
  take-words : (a : A) (rest : List ℕ) → IsA a → take m (words_a a ++ rest) ≡ words_a a
  take-words a rest h = take_at (words_a a) rest m (first.counted (words_a a) (first.meets a h))

  -- the second part of the words is the second value's
  drop-words : (a : A) (rest : List ℕ) → IsA a → drop m (words_a a ++ rest) ≡ rest
  drop-words a rest h = drop_at (words_a a) rest m (first.counted (words_a a) (first.meets a h))

  -- the words of a pair are words in two parts
  meets-parts : (p : A × B) → IsA p.0 × IsB p.1 → IsWordsInParts m are_a are_b (words_a p.0 ++ words_b p.1)
  meets-parts p h = (
    rw (take-words p.0 (words_b p.1) h.0) (first.meets p.0 h.0),
    rw (drop-words p.0 (words_b p.1) h.0) (second.meets p.1 h.1),
  )

  -- a pair is read back from its words
  back-parts : (p : A × B) → IsA p.0 × IsB p.1 → of_parts m of_a of_b (words_a p.0 ++ words_b p.1) ≡ Some p
  back-parts p h =
      rw (
        take-words p.0 (words_b p.1) h.0,
        drop-words p.0
            (words_b p.1) h.0,
        first.back p.0 h.0,
        second.back p.1 h.1,
      ) refl

  -- two parts that are both read are the words of the pair
  forth-both : (front back : List ℕ) (a : Option A) (b : Option B) →
      MatchOption a (are_a front → ⊥) (λ value. are_a front × IsA value × (words_a value ≡ front)) →
      MatchOption b (are_b back → ⊥) (λ value. are_b back × IsB value × (words_b value ≡ back)) →
      MatchOption (both a b) (are_a front × are_b back → ⊥)
      (λ p. (are_a front × are_b back) × (IsA p.0 × IsB p.1) × (words_a p.0 ++ words_b p.1 ≡ front ++ back))
  forth-both front back None b h k = λ are. h are.0
  forth-both front back (Some a) None h k = λ are. k are.1
  forth-both front back (Some a) (Some b) h k = ((h.0, k.0), (h.1, k.1), cc)

  -- words in two parts that are read are those of their pair
  forth-parts : (list : List ℕ) →
      MatchOption (of_parts m of_a of_b list) (IsWordsInParts m are_a are_b list → ⊥)
      (λ p. IsWordsInParts m are_a are_b list × (IsA p.0 × IsB p.1) × (words_a p.0 ++ words_b p.1 ≡ list))
  forth-parts list =
      rw (take-append-drop m list) at
      (forth-both (take m list) (drop m list) (of_a (take m list)) (of_b (drop m list)) (first.forth
      (take m list)) (second.forth (drop m list)))

  -- words in two parts: those of the first, then those of the second
  pub AreWords-pair : AreWords (m + n) (λ (p : A × B). IsA p.0 × IsB p.1)
      (λ p. words_a p.0 ++ words_b p.1) (IsWordsInParts m are_a are_b) (of_parts m of_a of_b)
  AreWords-pair = record {
    counted = counted-parts;
    bounded = bounded-parts;
    meets = meets-parts;
    back = back-parts;
    forth = forth-parts;
  }
