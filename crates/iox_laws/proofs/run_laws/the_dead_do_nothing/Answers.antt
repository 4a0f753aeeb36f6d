use Rattle.iox_laws.proofs.RunLaws.Dead.{the_dead_stay_dead}
use Rattle.iox_laws.proofs.run_laws.the_dead_do_nothing.Goals as goal

pub returns : goal.returns
returns c = the_dead_stay_dead
