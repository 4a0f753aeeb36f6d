use Rattle.iox_laws.proofs.RunLedger.Once.{delivered_once_over_runs, received_once_over_runs}
use Rattle.iox_laws.proofs.run_ledger.messages_come_at_most_once.Goals as goal

pub returns-clause-delivered : goal.returns-clause-delivered
returns-clause-delivered c = delivered_once_over_runs

pub returns-clause-received : goal.returns-clause-received
returns-clause-received c = received_once_over_runs
