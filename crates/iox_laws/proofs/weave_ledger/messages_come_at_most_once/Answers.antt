use Rattle.iox_laws.proofs.WeaveLedger.Once.{delivered_once, received_once}
use Rattle.iox_laws.proofs.weave_ledger.messages_come_at_most_once.Goals as goal

pub returns-clause-delivered : goal.returns-clause-delivered
returns-clause-delivered c = delivered_once

pub returns-clause-received : goal.returns-clause-received
returns-clause-received c = received_once
