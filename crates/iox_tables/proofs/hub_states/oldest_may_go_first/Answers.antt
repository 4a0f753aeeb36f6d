use Rattle.iox_tables.proofs.HubStates.Pushing.{oldest_goes_first}
use Rattle.iox_tables.proofs.hub_states.oldest_may_go_first.Goals as goal

pub returns : goal.returns
returns c = oldest_goes_first
