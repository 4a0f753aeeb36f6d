use Rattle.iox_laws.proofs.RunLaws.Evicting.{only_overflow_evicts}
use Rattle.iox_laws.proofs.run_laws.only_overflow_evicts.Goals as goal

pub returns : goal.returns
returns c = only_overflow_evicts
