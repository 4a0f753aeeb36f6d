use Rattle.iox_laws.proofs.WeaveWorlds.Endings.{each_comes_to_its_end}
use Rattle.iox_laws.proofs.weave_worlds.calls_come_to_their_end.Goals as goal

pub returns : goal.returns
returns c = each_comes_to_its_end
