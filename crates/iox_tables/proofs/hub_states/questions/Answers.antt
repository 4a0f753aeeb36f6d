use Rattle.iox_tables.proofs.HubStates.Asking.{pendings_are_told, servers_are_told}
use Rattle.iox_tables.proofs.hub_states.questions.Goals as goal

pub returns-clause-servers : goal.returns-clause-servers
returns-clause-servers c = servers_are_told

pub returns-clause-pendings : goal.returns-clause-pendings
returns-clause-pendings c = pendings_are_told
