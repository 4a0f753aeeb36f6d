use Rattle.iox_laws.proofs.MessageLaws.Comes.{whole_on_wires}
use Rattle.iox_laws.proofs.MessageLaws.Orders.{whole_over_runs, whole_in_a_call}
use Rattle.iox_laws.proofs.message_laws.messages_come_whole.Goals as goal

pub returns-clause-runs : goal.returns-clause-runs
returns-clause-runs c = whole_over_runs

pub returns-clause-in_a_call : goal.returns-clause-in_a_call
returns-clause-in_a_call c = whole_in_a_call

pub returns-clause-wires : goal.returns-clause-wires
returns-clause-wires c = whole_on_wires
