use Rattle.iox_laws.proofs.WeaveWorlds.Inductions.{served_is_reachable}
use Rattle.iox_laws.proofs.weave_worlds.services_reach_states_of_hubs.Goals as goal

pub returns : goal.returns
returns c = served_is_reachable
