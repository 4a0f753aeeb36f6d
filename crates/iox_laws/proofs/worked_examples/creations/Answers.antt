use Rattle.iox_laws.proofs.WorkedExamples.WorkedRunsHold.{raises_limits, refuses_limits, refuses_ids}
use Rattle.iox_laws.proofs.worked_examples.creations.Goals as goal

pub returns-clause-raised : goal.returns-clause-raised
returns-clause-raised c = raises_limits

pub returns-clause-limits : goal.returns-clause-limits
returns-clause-limits c = refuses_limits

pub returns-clause-ids : goal.returns-clause-ids
returns-clause-ids c = refuses_ids
