use Rattle.iox_laws.proofs.MessageLaws.OnWires.{call_delivers_what_is_sent}
use Rattle.iox_laws.proofs.MessageLaws.Sendings.{delivers_what_is_sent}
use Rattle.iox_laws.proofs.message_laws.delivered_is_sent.Goals as goal

pub returns-clause-services : goal.returns-clause-services
returns-clause-services c = delivers_what_is_sent

pub returns-clause-wires : goal.returns-clause-wires
returns-clause-wires c = call_delivers_what_is_sent
