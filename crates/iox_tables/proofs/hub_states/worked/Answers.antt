use Rattle.iox_tables.proofs.HubStates.WorkedHolds.{server_receives_once}
use Rattle.iox_tables.proofs.hub_states.worked.Goals as goal

pub returns : goal.returns
returns c = server_receives_once
