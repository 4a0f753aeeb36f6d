use Rattle.iox_tables.proofs.HubStates.Serving.{responses_are_received, servers_receive}
use Rattle.iox_tables.proofs.HubStates.Both.{visits_are_of_both}
use Rattle.iox_tables.proofs.hub_states.receives.Goals as goal

pub returns-clause-servers : goal.returns-clause-servers
returns-clause-servers c = servers_receive

pub returns-clause-responses : goal.returns-clause-responses
returns-clause-responses c = responses_are_received

pub returns-clause-both : goal.returns-clause-both
returns-clause-both c = visits_are_of_both
