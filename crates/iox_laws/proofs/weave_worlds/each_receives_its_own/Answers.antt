use Rattle.iox_laws.proofs.WeaveWorlds.Waiting.{receives_its_own}
use Rattle.iox_laws.proofs.weave_worlds.each_receives_its_own.Goals as goal

pub returns : goal.returns
returns c = receives_its_own
