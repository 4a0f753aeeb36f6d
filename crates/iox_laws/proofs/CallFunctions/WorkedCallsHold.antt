-- The worked states are reached by their commands, what the laws ask is so there, and the functions
-- answer so.
use Rattle.std.specs.Prelude.{List, [], refl}
use Rattle.iox_model.specs.Commands.{Command}
use Rattle.iox_model.specs.Settings.{Limits}
use Rattle.iox_model.specs.States.{State}
use Rattle.iox_model.specs.Defaults.{defaults}
use Rattle.iox_laws.specs.WorkedExamples.Examples.{service, set_up, is_set_up}
use Rattle.iox_laws.proofs.WeaveLaws.PlayedRuns.{state_by, is_run_to}
use Rattle.iox_laws.specs.CallFunctions.WorkedLoans.{ClientLends, requested_once, is_requested_once, ServerLends, ClientCopies}
use Rattle.iox_laws.specs.CallFunctions.WorkedResponses.{one_response, one_waits, one_waits_answers, ResponsePushesOut, plain_response, FullClientRefuses, given_up, given_up_answers, NobodyAwaits}
use Rattle.iox_laws.specs.CallFunctions.WorkedReleases.{HintIsTold, ReleaseCloses, value_released, value_released_answers, LastReleaseDisconnects}

abbrev after : Limits → List Command → State
after l commands = state_by (service l) (set_up commands) []

pub client_lends : ClientLends
client_lends = (
  after defaults [],
  is_run_to (service defaults) (set_up []) (is_set_up []) [] refl refl,
  λ w. refl,
  (refl, refl),
  refl,
  refl,
  refl,
  (refl, refl),
  refl,
  refl,
)

pub server_lends : ServerLends
server_lends = (
  after defaults (requested_once []),
  is_run_to (service defaults) (set_up (requested_once [])) (is_set_up (is_requested_once [])) [] refl refl,
  λ w. refl,
  (refl, refl),
  refl,
  refl,
)

pub client_copies : ClientCopies
client_copies = (
  after defaults [],
  is_run_to (service defaults) (set_up []) (is_set_up []) [] refl refl,
  λ w. refl,
  (refl, refl),
  record { apart = (refl, tt); within = λ on. (refl, tt) },
  refl,
  refl,
  refl,
)

pub response_pushes_out : ResponsePushesOut
response_pushes_out = (
  after one_response one_waits,
  is_run_to (service one_response) (set_up one_waits) (is_set_up one_waits_answers) [] refl refl,
  λ w. refl,
  _,
  refl,
  refl,
  (refl, tt),
  refl,
  refl,
  refl,
)

pub full_client_refuses : FullClientRefuses
full_client_refuses = (
  after plain_response one_waits,
  is_run_to (service plain_response) (set_up one_waits) (is_set_up one_waits_answers) [] refl refl,
  λ w. refl,
  _,
  refl,
  refl,
  refl,
  refl,
)

pub nobody_awaits : NobodyAwaits
nobody_awaits = (
  after defaults given_up,
  is_run_to (service defaults) (set_up given_up) (is_set_up given_up_answers) [] refl refl,
  λ w. refl,
  _,
  refl,
  refl,
  (refl, tt),
  refl,
  refl,
)

pub hint_is_told : HintIsTold
hint_is_told = (
  after defaults (requested_once []),
  is_run_to (service defaults) (set_up (requested_once [])) (is_set_up (is_requested_once [])) [] refl refl,
  refl,
  refl,
)

pub release_closes : ReleaseCloses
release_closes = (
  after defaults (requested_once []),
  is_run_to (service defaults) (set_up (requested_once [])) (is_set_up (is_requested_once [])) [] refl refl,
  refl,
  refl,
  refl,
  refl,
)

pub last_release_disconnects : LastReleaseDisconnects
last_release_disconnects = (
  after defaults value_released,
  is_run_to (service defaults) (set_up value_released) (is_set_up value_released_answers) [] refl refl,
  refl,
  refl,
  refl,
  refl,
  refl,
)
