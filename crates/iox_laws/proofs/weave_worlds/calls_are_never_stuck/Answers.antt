use Rattle.iox_laws.proofs.WeaveWorlds.Reached.{never_stuck}
use Rattle.iox_laws.proofs.weave_worlds.calls_are_never_stuck.Goals as goal

pub returns : goal.returns
returns c = never_stuck
