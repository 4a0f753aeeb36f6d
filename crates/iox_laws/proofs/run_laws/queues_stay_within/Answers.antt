use Rattle.iox_laws.proofs.RunLaws.Bounded.{queues_stay_within}
use Rattle.iox_laws.proofs.run_laws.queues_stay_within.Goals as goal

pub returns : goal.returns
returns c = queues_stay_within
