-- What commands one after another come to: each step of a run is a step of a history.
use Rattle.std.specs.Prelude.{◌≡◌, List, [], ◌∷◌, ◌++◌}
use Rattle.iox_model.specs.Commands.{Command, Reply}
use Rattle.iox_model.specs.Runs.{IsHistory, IsReachableState, IsRun, OfService, ServiceStep}
use Rattle.iox_model.specs.States.{State}

-- the steps of a run: each command with its reply
abbrev pub steps_of : List Command → List Reply → List ServiceStep
steps_of (command ∷ commands) (reply ∷ replies) = OfService command reply ∷ steps_of commands replies
steps_of commands replies = []

-- A run from the state is a history from there. It leads to a state that can be reached: by the
-- history that led to this one, and then by the steps of the run.
pub record RunsAreHistories (s : State) : Type 0 where
  pub history :
      (t : State) (commands : List Command) (replies : List Reply) → IsRun s commands replies t
      → IsHistory s (steps_of commands replies) t
  pub reached :
      (t : State) (commands : List Command) (replies : List Reply) → IsRun s commands replies t
      → (r : IsReachableState s)
      → (q : IsReachableState t) × (q.steps ≡ r.steps ++ steps_of commands replies)
