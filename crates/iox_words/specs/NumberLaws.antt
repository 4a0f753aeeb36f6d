-- The words of numbers keep the laws of words.
use Rattle.std.proofs.Common.{ℕ, zero, suc, ◌≡◌, ◌+◌, ◌*◌, ◌/◌, ◌%◌, ◌<◌, ◌≤◌, ◌^◌, List, [], ◌∷◌, Some, None, length, refl, ap, arith, nat_lt, All, Bool, true, false, ◌&&◌, if◌then◌else◌, MatchOption}
use Rattle.std.specs.Bool.{Decides}
use Rattle.std.proofs.lemmas.Bool.Decides.{nat_tests, Decides-ltb, Decides-and}
use Rattle.iox_words.specs.WordLists.{AreWords}
use Rattle.iox_words.specs.Numbers.{one_word, IsOneWord, of_one_word, two_words, IsTwoWords, of_two_words}

-- a value is given only if a test passes, so that what follows from the test holds of the value
given_by_test : {A : Type 0} (b : Bool) (P : Type 0) → Decides b P → (value : A) (Q : A → Type 0) → (P →
    Q value) → MatchOption (if b then Some value else None) (P → ⊥) Q
given_by_test true P tells value Q follows = follows (tells.0 refl)
given_by_test false P tells value Q follows = λ p. let no : false ≡ true = tells.1 p in cc

-- one word below a bound is a list of words below it
all_one : (bound word : ℕ) → word < bound → All (λ w. w < bound) (word ∷ [])
all_one bound word h zero d _ = h
all_one bound word h (suc k) d in_list = absurd (omega arith)

-- two words below a bound are a list of words below it
all_two : (bound high low : ℕ) → high < bound → low < bound → All (λ w. w < bound) (high ∷ low ∷ [])
all_two bound high low p q zero d _ = p
all_two bound high low p q (suc zero) d _ = q
all_two bound high low p q (suc (suc k)) d in_list = absurd (omega arith)

-- a number below a limit is one word
counted-one : (limit : ℕ) (list : List ℕ) → IsOneWord limit list → length list ≡ 1
counted-one limit [] h = absurd h
counted-one limit (word ∷ []) h = refl
counted-one limit (word ∷ other ∷ list) h = absurd h

-- the one word has at most 64 bits
bounded-one : (limit : ℕ) → limit ≤ 2 ^ 64 → (list : List ℕ) → IsOneWord limit list → All
    (λ word. word < 2 ^ 64) list
bounded-one limit within [] h = absurd h
bounded-one limit within (word ∷ []) h = all_one (2 ^ 64) word (omega arith)
bounded-one limit within (word ∷ other ∷ list) h = absurd h

-- a number is read back from its word
back-one : (limit value : ℕ) → value < limit → of_one_word limit (one_word value) ≡ Some value
back-one limit value h = grind (arith, nat_tests)

-- a word that is read is that of its number; a list that is not one such word is not read
forth-one : (limit : ℕ) (list : List ℕ) →
    MatchOption (of_one_word limit list) (IsOneWord limit list → ⊥) (λ value. IsOneWord limit list ×
    (value < limit) × (one_word value ≡ list))
forth-one limit [] = λ h. h
forth-one limit (word ∷ []) =
    given_by_test (nat_lt word limit) (word < limit) (Decides-ltb word limit) word
    (λ value. (word < limit) × (value < limit) × (one_word value ≡ word ∷ [])) (λ h. (h, h, refl))
forth-one limit (word ∷ other ∷ list) = λ h. h

-- one word below a limit is a number below it
pub one_word_is_a_number : (limit : ℕ) → limit ≤ 2 ^ 64 → AreWords 1 (λ n. n < limit) one_word
    (IsOneWord limit) (of_one_word limit)
one_word_is_a_number limit within = record {
  counted = counted-one limit;
  bounded = bounded-one limit within;
  meets = λ value h. h;
  back = back-one limit;
  forth = forth-one limit;
}

-- a number below 2 ^ 128 is two words
counted-two : (list : List ℕ) → IsTwoWords list → length list ≡ 2
counted-two [] h = absurd h
counted-two (high ∷ []) h = absurd h
counted-two (high ∷ low ∷ []) h = refl
counted-two (high ∷ low ∷ other ∷ list) h = absurd h

-- each of the two words has at most 64 bits
bounded-two : (list : List ℕ) → IsTwoWords list → All (λ word. word < 2 ^ 64) list
bounded-two [] h = absurd h
bounded-two (high ∷ []) h = absurd h
bounded-two (high ∷ low ∷ []) h = all_two (2 ^ 64) high low h.0 h.1
bounded-two (high ∷ low ∷ other ∷ list) h = absurd h

-- the two words of a number are two words
meets-two : (value : ℕ) → value < 2 ^ 128 → IsTwoWords (two_words value)
meets-two value h = (omega arith, omega arith)

-- a number is read back from its two words
back-two : (value : ℕ) → value < 2 ^ 128 → of_two_words (two_words value) ≡ Some value
back-two value h =
    let high : value / 2 ^ 64 < 2 ^ 64 = (meets-two value h).0 in
    let low : value % 2 ^ 64 < 2 ^ 64 = (meets-two value h).1 in
    let whole : value / 2 ^ 64 * 2 ^ 64 + value % 2 ^ 64 ≡ value = omega arith in
    grind (arith, nat_tests)

-- the two words of a number are its upper and its lower 64 bits
two_words-of : (high low : ℕ) → low < 2 ^ 64 → two_words (high * 2 ^ 64 + low) ≡ high ∷ low ∷ []
two_words-of high low h =
    let top : (high * 2 ^ 64 + low) / 2 ^ 64 ≡ high = omega arith in
    let rest : (high * 2 ^ 64 + low) % 2 ^ 64 ≡ low = omega arith in
    cc

-- two words that are read are those of their number; a list that is not two such words is not read
forth-two : (list : List ℕ) →
    MatchOption (of_two_words list) (IsTwoWords list → ⊥) (λ value. IsTwoWords list × (value < 2 ^ 128) ×
    (two_words value ≡ list))
forth-two [] = λ h. h
forth-two (high ∷ []) = λ h. h
forth-two (high ∷ low ∷ []) =
    given_by_test (nat_lt high (2 ^ 64) && nat_lt low (2 ^ 64)) ((high < 2 ^ 64) × (low < 2 ^ 64))
    (Decides-and (nat_lt high (2 ^ 64)) (nat_lt low (2 ^ 64)) (Decides-ltb high (2 ^ 64))
    (Decides-ltb low (2 ^ 64)))
    (high * 2 ^ 64 + low)
    (λ value. ((high < 2 ^ 64) × (low < 2 ^ 64)) × (value < 2 ^ 128) × (two_words value ≡ high ∷ low ∷ []))
    (λ h. (h, omega arith, two_words-of high low h.1))
forth-two (high ∷ low ∷ other ∷ list) = λ h. h

-- two words are a number below 2 ^ 128
pub two_words_are_a_number : AreWords 2 (λ n. n < 2 ^ 128) two_words IsTwoWords of_two_words
two_words_are_a_number = record {
  counted = counted-two;
  bounded = bounded-two;
  meets = meets-two;
  back = back-two;
  forth = forth-two;
}
