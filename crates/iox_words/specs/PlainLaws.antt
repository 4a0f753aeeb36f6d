-- The words of `bool` and of the unit type keep the laws of words.
use Rattle.std.proofs.Common.{ℕ, zero, suc, ◌≡◌, ◌<◌, List, [], ◌∷◌, length, refl, ap, arith, lit≤, Bool, true, false, if◌then◌else◌, MatchOption}
use Rattle.std.specs.Prelude.{⊤, ◌==◌}
use Rattle.iox_words.specs.WordLists.{AreWords}
use Rattle.iox_words.specs.WordLaws.{AreWords-option_map}
use Rattle.iox_words.specs.Numbers.{one_word, IsOneWord, of_one_word, bool_word, of_bool_word, no_word, IsNoWord, of_no_word}
use Rattle.iox_words.specs.NumberLaws.{one_word_is_a_number}

-- a bool is a number below 2, and is read back from it
bool_there : (b : Bool) → ⊤ → ((if b then 1 else 0) < 2) × (((if b then 1 else 0) == 1) ≡ b)
bool_there true h = (omega arith, refl)
bool_there false h = (omega arith, refl)

-- a number below 2 is a bool's, and is read back from it
bool_here : (n : ℕ) → n < 2 → ⊤ × ((if (n == 1) then 1 else 0) ≡ n)
bool_here zero h = (tt, refl)
bool_here (suc zero) h = (tt, refl)
bool_here (suc (suc n)) h = absurd (omega arith)

-- one word below 2 is a bool
pub one_word_is_a_bool : AreWords 1 (λ _. ⊤) bool_word (IsOneWord 2) of_bool_word
one_word_is_a_bool =
    AreWords-option_map 1 (λ n. n < 2) one_word (IsOneWord 2) (of_one_word 2)
    (λ _. ⊤) (λ b. if b then 1 else 0) (λ n. n == 1) (one_word_is_a_number 2 (lit≤ tt)) bool_there bool_here

-- the empty list is read as the unit, and no other list is read
forth-none : (list : List ℕ) → MatchOption (of_no_word list) (IsNoWord list → ⊥) (λ value. IsNoWord list ×
    ⊤ × (no_word value ≡ list))
forth-none [] = (refl, tt, refl)
forth-none (word ∷ list) = λ h. absurd (cc)

-- no words are the unit
pub no_word_is_the_unit : AreWords 0 (λ _. ⊤) no_word IsNoWord of_no_word
no_word_is_the_unit = record {
  counted = λ list h. ap length h;
  bounded = λ list h. rw h (λ k d in_list. absurd (omega arith));
  meets = λ value h. refl;
  back = λ value h. refl;
  forth = forth-none;
}
