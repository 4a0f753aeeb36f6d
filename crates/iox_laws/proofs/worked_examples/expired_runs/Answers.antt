use Rattle.iox_laws.proofs.WorkedExamples.WorkedRunsHold.{plays-expires_two, plays-expires_one, plays-expires_none}
use Rattle.iox_laws.proofs.worked_examples.expired_runs.Goals as goal

pub returns-clause-two : goal.returns-clause-two
returns-clause-two c = plays-expires_two

pub returns-clause-one : goal.returns-clause-one
returns-clause-one c = plays-expires_one

pub returns-clause-none : goal.returns-clause-none
returns-clause-none c = plays-expires_none
