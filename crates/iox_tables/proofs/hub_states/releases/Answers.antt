use Rattle.iox_tables.proofs.HubStates.Holding.{ports_are_released}
use Rattle.iox_tables.proofs.HubStates.Releasing.{loans_are_released, pendings_are_released, requests_are_released, responses_are_released}
use Rattle.iox_tables.proofs.hub_states.releases.Goals as goal

pub returns-clause-loans : goal.returns-clause-loans
returns-clause-loans c = loans_are_released

pub returns-clause-pendings : goal.returns-clause-pendings
returns-clause-pendings c = pendings_are_released

pub returns-clause-responses : goal.returns-clause-responses
returns-clause-responses c = responses_are_released

pub returns-clause-requests : goal.returns-clause-requests
returns-clause-requests c = requests_are_released

pub returns-clause-ports : goal.returns-clause-ports
returns-clause-ports c = ports_are_released
