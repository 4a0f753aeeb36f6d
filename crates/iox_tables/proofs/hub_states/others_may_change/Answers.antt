use Rattle.iox_tables.proofs.HubStates.Frames.{others_may_change}
use Rattle.iox_tables.proofs.hub_states.others_may_change.Goals as goal

pub returns : goal.returns
returns c = others_may_change
