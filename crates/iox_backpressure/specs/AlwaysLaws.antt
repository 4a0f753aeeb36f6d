-- The words of a handler with one answer keep the laws of words.
use Rattle.std.proofs.Common.{ℕ, zero, suc, ◌≡◌, ◌<◌, List, Option, refl, arith, lit≤}
use Rattle.std.specs.Prelude.{⊤}
use Rattle.std.specs.Option.{option_map}
use Rattle.iox_words.specs.WordLists.{AreWords}
use Rattle.iox_words.specs.WordLaws.{AreWords-option_map}
use Rattle.iox_words.specs.Numbers.{IsOneWord, of_one_word, one_word}
use Rattle.iox_words.specs.NumberLaws.{one_word_is_a_number}
use Rattle.iox_model.specs.declared.backpressure.BackpressureAction.{BackpressureAction}
use Rattle.iox_model.specs.declared.backpressure.BackpressureAction.TheVariants.{DiscardData, DiscardDataAndFail, FollowBackpressureStrategy}
use Rattle.iox_backpressure.specs.declared.always.Always.{Always}
use Rattle.iox_backpressure.specs.Answers.{action_of, number_of}

-- the handler with the answer of this number
abbrev always_by : ℕ → Always
always_by n = record { action = action_of n }

-- the handler of these words
abbrev pub always_of : List ℕ → Option Always
always_of list = option_map always_by (of_one_word 3 list)

-- an answer is a number below 3, and is read back from it
there : (a : BackpressureAction) → (number_of a < 3) × (action_of (number_of a) ≡ a)
there FollowBackpressureStrategy = (omega arith, refl)
there DiscardData = (omega arith, refl)
there DiscardDataAndFail = (omega arith, refl)

-- the number of a handler's answer is below 3, and the handler is read back from it
always_there : (h : Always) → ⊤ → (number_of h.action < 3) × (always_by (number_of h.action) ≡ h)
always_there h e = ((there h.action).0, λ i. record { action = (there h.action).1 i })

-- a number below 3 is an answer's, and is read back from it
here : (n : ℕ) → n < 3 → ⊤ × (number_of (action_of n) ≡ n)
here zero h = (tt, refl)
here (suc zero) h = (tt, refl)
here (suc (suc zero)) h = (tt, refl)
here (suc (suc (suc n))) h = absurd (omega arith)

-- one word below 3 is such a handler
pub one_word_is_an_answer : AreWords 1 (λ _. ⊤) (λ (h : Always). one_word (number_of h.action)) (IsOneWord 3) always_of
one_word_is_an_answer =
    AreWords-option_map 1 (λ n. n < 3) one_word (IsOneWord 3) (of_one_word 3)
    (λ _. ⊤) (λ (h : Always). number_of h.action) always_by (one_word_is_a_number 3 (lit≤ tt)) always_there here
