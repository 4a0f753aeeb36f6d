use Rattle.iox_laws.proofs.MessageLaws.Holdings.{had_as_delivered}
use Rattle.iox_laws.proofs.MessageLaws.WireHoldings.{had_as_delivered_on_wires}
use Rattle.iox_laws.proofs.message_laws.received_is_delivered.Goals as goal

pub returns-clause-services : goal.returns-clause-services
returns-clause-services c = had_as_delivered

pub returns-clause-wires : goal.returns-clause-wires
returns-clause-wires c = had_as_delivered_on_wires
