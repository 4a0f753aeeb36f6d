use Rattle.iox_laws.proofs.RunLaws.Bounded.{queues_rest_within, queues_of_the_gone_rest_within}
use Rattle.iox_laws.proofs.run_laws.queues_rest_within.Goals as goal

pub returns-clause-there : goal.returns-clause-there
returns-clause-there c = queues_rest_within

pub returns-clause-gone : goal.returns-clause-gone
returns-clause-gone c = queues_of_the_gone_rest_within
