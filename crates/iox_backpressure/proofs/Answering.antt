-- The answers of a handler are found among its words.
use Rattle.std.specs.Prelude.{◌≡◌, ℕ, ◌+◌, ◌*◌, ◌/◌, ◌%◌, ◌<◌, ◌^◌, Option, Some, refl}
use Rattle.std.specs.Option.{option_map}
use Rattle.std.proofs.Common.{sym, ap, ap₂, ◌∙◌, arith}
use Rattle.std.proofs.lemmas.List.FromFn.{get_or-map-range_with_len}
use Rattle.iox_types.specs.declared.backpressure.BackpressureStrategy.{BackpressureStrategy}
use Rattle.iox_model.specs.declared.backpressure.BackpressureAction.{BackpressureAction}
use Rattle.iox_model.specs.declared.backpressure.BackpressureAction.TheVariants.{DiscardData, DiscardDataAndFail, FollowBackpressureStrategy}
use Rattle.iox_model.specs.Settings.{fails_by}
use Rattle.iox_backpressure.specs.Answers.{action_of, action_in, number_of, shown_by, words_for, words_of}
use Rattle.iox_backpressure.specs.Failing.{fails_with}

read_back : (a : BackpressureAction) → action_of (number_of a) ≡ a
read_back FollowBackpressureStrategy = refl
read_back DiscardData = refl
read_back DiscardDataAndFail = refl

-- among so many words
answer_among : (n : ℕ) (action : ℕ → ℕ → BackpressureAction) (sender receiver : ℕ) → receiver < 2 ^ 64 → sender * 2 ^ 64 + receiver < n
    → action_in (words_for n action) sender receiver ≡ action sender receiver
unfolding action_in words_for
answer_among n action sender receiver r within =
    let high : (sender * 2 ^ 64 + receiver) / 2 ^ 64 ≡ sender = omega arith in
    let low : (sender * 2 ^ 64 + receiver) % 2 ^ 64 ≡ receiver = omega arith in
    ap action_of
    (get_or-map-range_with_len (λ k. number_of (action (k / 2 ^ 64) (k % 2 ^ 64))) 0 n (sender * 2 ^ 64 + receiver) (sender * 2 ^ 64 + receiver) 0 within (omega arith))
    ∙ ap₂ (λ (a b : ℕ). action_of (number_of (action a b))) high low
    ∙ read_back (action sender receiver)

-- among its words, for two ports
pub answer_is : (action : ℕ → ℕ → BackpressureAction) (sender receiver : ℕ) → sender < 2 ^ 64 → receiver < 2 ^ 64
    → action_in (words_of action) sender receiver ≡ action sender receiver
unfolding words_of
answer_is action sender receiver s r = answer_among (2 ^ 128) action sender receiver r (omega arith)

-- ---- in code

-- what a handler that is set means for a send is said by its answer
pub fails_by_answer : {H : Type 0} (action : H → ℕ → ℕ → BackpressureAction) (o : Option H) (h : H) → o ≡ Some h → (strategy : BackpressureStrategy) (sender receiver : ℕ)
    → sender < 2 ^ 64 → receiver < 2 ^ 64 → (a : BackpressureAction) → a ≡ action h sender receiver
    → fails_by a strategy ≡ fails_with (option_map (shown_by action) o) strategy sender receiver
fails_by_answer action o h is strategy sender receiver s r a told =
    ap (λ b. fails_by b strategy) (told ∙ sym (answer_is (action h) sender receiver s r))
    ∙ sym (ap (λ p. fails_with (option_map (shown_by action) p) strategy sender receiver) is)
