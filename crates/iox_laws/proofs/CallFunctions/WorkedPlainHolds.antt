-- The worked states are reached by their commands, and the functions answer so.
use Rattle.std.specs.Prelude.{ℕ, List, [], refl}
use Rattle.iox_model.specs.States.{State}
use Rattle.iox_model.specs.Defaults.{defaults}
use Rattle.iox_laws.specs.WorkedExamples.Examples.{service, set_up, is_set_up}
use Rattle.iox_laws.proofs.WeaveLaws.PlayedRuns.{state_by, is_run_to}
use Rattle.iox_laws.specs.CallFunctions.WorkedPlain.{two_clients, two_clients_answers, VisitsTheGoneFirst, one_active, two_responses, two_responses_answers, SendsBesideAnOverfullPair}

abbrev after_two : State
after_two = state_by (service defaults) (set_up two_clients) []

pub visits_the_gone_first : VisitsTheGoneFirst
visits_the_gone_first = (
  after_two,
  is_run_to (service defaults) (set_up two_clients) (is_set_up two_clients_answers) [] refl refl,
  refl,
  refl,
)

abbrev lanes : List ℕ
lanes = []

abbrev after_responses : State
after_responses = state_by (service one_active) (set_up two_responses) lanes

pub sends_beside_an_overfull_pair : SendsBesideAnOverfullPair
sends_beside_an_overfull_pair = (
  after_responses,
  is_run_to (service one_active) (set_up two_responses) (is_set_up two_responses_answers) lanes refl refl,
  refl,
  (refl, tt),
  refl,
)
