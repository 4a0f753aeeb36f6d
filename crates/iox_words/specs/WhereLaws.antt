-- The words of the values that pass a test keep the laws.
use Rattle.std.proofs.Common.{ℕ, ◌≡◌, List, Option, Some, None, refl, MatchOption, Bool, true, false, if◌then◌else◌}
use Rattle.std.specs.Prelude.{IfSome, IsTrue}
use Rattle.iox_words.specs.WordLists.{AreWords}
use Rattle.iox_words.specs.WordParts.{IsWordsWhere, passing, of_where}

module _ {A : Type 0} (test : A → Bool) (count : ℕ) (IsA : A → Type 0) (words : A → List ℕ)
    (are : List ℕ → Type 0) (of : List ℕ → Option A)
    (laws : AreWords count IsA words are of) where
  -- the words of a value that passes the test are such words
  meets-where : (a : A) → IsA a × IsTrue (test a) → IsWordsWhere test are of (words a)
  meets-where a h = (laws.meets a h.0, rw (laws.back a h.0) h.1)

  -- a value that passes the test is read back from its words
  back-where : (a : A) → IsA a × IsTrue (test a) → of_where test of (words a) ≡ Some a
  back-where a h = let passes : test a ≡ true = h.1 in rw (laws.back a h.0, passes) refl

  -- a value that was read is taken only if it passes the test
  forth-test : (list : List ℕ) (a : A) (b : Bool) → test a ≡ b → are list × IsA a × (words a ≡ list) →
      MatchOption (if b then Some a else None) (are list × IsTrue (test a) → ⊥)
      (λ value. (are list × IsTrue (test a)) × (IsA value × IsTrue (test value)) × (words value ≡ list))
  forth-test list a true e h = ((h.0, e), (h.1, e), h.2)
  forth-test list a false e h = λ k. let no : test a ≡ true = k.1 in absurd (cc)

  -- words that are read and pass the test are those of their value
  forth-passing : (list : List ℕ) (o : Option A) → MatchOption o (are list → ⊥) (λ value. are list ×
      IsA value × (words value ≡ list)) →
      MatchOption (passing test o) (are list × IfSome o (λ value. IsTrue (test value)) → ⊥)
      (λ value. (are list × IfSome o (λ value. IsTrue (test value))) × (IsA value × IsTrue (test value)) ×
      (words value ≡ list))
  forth-passing list None h = λ k. h k.0
  forth-passing list (Some a) h = forth-test list a (test a) refl h

  -- the words of the values that pass a test
  pub AreWords-where : AreWords count (λ a. IsA a × IsTrue (test a)) words (IsWordsWhere test are of)
      (of_where test of)
  AreWords-where = record {
    counted = λ list h. laws.counted list h.0;
    bounded = λ list h. laws.bounded list h.0;
    meets = meets-where;
    back = back-where;
    forth = λ list. forth-passing list (of list) (laws.forth list);
  }
