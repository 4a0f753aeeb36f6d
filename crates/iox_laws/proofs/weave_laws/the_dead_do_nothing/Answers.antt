use Rattle.iox_laws.proofs.WeaveLaws.DeathLaws.{only_the_living_act, the_dead_stay_dead}
use Rattle.iox_laws.proofs.weave_laws.the_dead_do_nothing.Goals as goal

pub returns-clause-beat : goal.returns-clause-beat
returns-clause-beat c = only_the_living_act

pub returns-clause-weave : goal.returns-clause-weave
returns-clause-weave c = the_dead_stay_dead
