-- What a handler means for a send.
use Rattle.std.specs.Prelude.{ℕ, Bool, List, Option}
use Rattle.std.specs.Option.{option_map_or}
use Rattle.iox_types.specs.declared.backpressure.BackpressureStrategy.{BackpressureStrategy}
use Rattle.iox_model.specs.Settings.{fails_by, fails_by_strategy}
use Rattle.iox_backpressure.specs.Answers.{action_in}

-- Whether a send from this sender fails where that receiver is full, by the words of the sender's
-- handler and by its strategy: a handler that is set decides.
abbrev pub fails_with : Option (List ℕ) → BackpressureStrategy → ℕ → ℕ → Bool
fails_with handler strategy sender receiver =
    option_map_or (λ words. fails_by (action_in words sender receiver) strategy) handler
    (fails_by_strategy strategy)
