use Rattle.iox_laws.proofs.RunLaws.InOrder.{in_order_over_runs, in_order_in_a_call}
use Rattle.iox_laws.proofs.run_laws.messages_come_in_order.Goals as goal

pub returns-clause-runs : goal.returns-clause-runs
returns-clause-runs c = in_order_over_runs

pub returns-clause-in_a_call : goal.returns-clause-in_a_call
returns-clause-in_a_call c = in_order_in_a_call
