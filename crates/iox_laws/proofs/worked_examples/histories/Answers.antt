use Rattle.iox_laws.proofs.WorkedExamples.WorkedStepsHold.{fills_a_loan, releases_a_written_loan}
use Rattle.iox_laws.proofs.worked_examples.histories.Goals as goal

pub returns-clause-filled : goal.returns-clause-filled
returns-clause-filled c = fills_a_loan

pub returns-clause-released : goal.returns-clause-released
returns-clause-released c = releases_a_written_loan
