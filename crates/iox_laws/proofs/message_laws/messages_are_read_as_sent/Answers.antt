use Rattle.iox_laws.proofs.MessageLaws.OnWires.{each_was_sent_on_wires, read_on_wires_as_sent}
use Rattle.iox_laws.proofs.MessageLaws.Origins.{each_was_sent, read_as_sent}
use Rattle.iox_laws.proofs.message_laws.messages_are_read_as_sent.Goals as goal

pub returns-clause-origins : goal.returns-clause-origins
returns-clause-origins c = each_was_sent

pub returns-clause-words : goal.returns-clause-words
returns-clause-words c = read_as_sent

pub returns-clause-origins_on_wires : goal.returns-clause-origins_on_wires
returns-clause-origins_on_wires c = each_was_sent_on_wires

pub returns-clause-words_on_wires : goal.returns-clause-words_on_wires
returns-clause-words_on_wires c = read_on_wires_as_sent
