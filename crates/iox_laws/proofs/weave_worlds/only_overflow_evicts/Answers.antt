use Rattle.iox_laws.proofs.WeaveWorlds.Waiting.{only_overflow_evicts}
use Rattle.iox_laws.proofs.weave_worlds.only_overflow_evicts.Goals as goal

pub returns : goal.returns
returns c = only_overflow_evicts
