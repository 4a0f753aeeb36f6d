-- A handler as a state shows it: by its answers.
use Rattle.std.specs.Prelude.{ℕ, ◌+◌, ◌*◌, ◌/◌, ◌%◌, ◌^◌, ◌==◌, if◌then◌else◌, List, map, slice_index}
use Rattle.std.specs.List.{range_with_len}
use Rattle.iox_model.specs.declared.backpressure.BackpressureAction.{BackpressureAction}
use Rattle.iox_model.specs.declared.backpressure.BackpressureAction.TheVariants.{DiscardData, DiscardDataAndFail, FollowBackpressureStrategy}

-- the number of an answer
abbrev pub number_of : BackpressureAction → ℕ
number_of FollowBackpressureStrategy = 0
number_of DiscardData = 1
number_of DiscardDataAndFail = 2

-- the answer of a number
abbrev pub action_of : ℕ → BackpressureAction
action_of n =
    if n == 0 then FollowBackpressureStrategy
    else if n == 1 then DiscardData else DiscardDataAndFail

-- the answers for so many pairs of a sender and a receiver, in ascending order
unfoldable pub words_for : ℕ → (ℕ → ℕ → BackpressureAction) → List ℕ
words_for n action =
    map (λ k. number_of (action (k / 2 ^ 64) (k % 2 ^ 64))) (range_with_len 0 n)

-- The words of a handler that answers so: its answer for each sender and each receiver. The number of
-- a port has 64 bits.
unfoldable pub words_of : (ℕ → ℕ → BackpressureAction) → List ℕ
words_of action = words_for (2 ^ 128) action

-- what a handler of these words answers for this sender and this receiver
unfoldable pub action_in : List ℕ → ℕ → ℕ → BackpressureAction
action_in words sender receiver = action_of (slice_index words (sender * 2 ^ 64 + receiver))

-- the words of a handler, where handlers answer so
abbrev pub shown_by : {H : Type 0} → (H → ℕ → ℕ → BackpressureAction) → H → List ℕ
shown_by action handler = words_of (action handler)

-- what a handler answers that always follows the port's strategy
abbrev pub following : {H : Type 0} → H → ℕ → ℕ → BackpressureAction
following handler sender receiver = FollowBackpressureStrategy
