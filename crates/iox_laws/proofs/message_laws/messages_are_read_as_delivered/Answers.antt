use Rattle.iox_laws.proofs.MessageLaws.Readings.{reads_its_message, read_as_delivered}
use Rattle.iox_laws.proofs.message_laws.messages_are_read_as_delivered.Goals as goal

pub returns-clause-words : goal.returns-clause-words
returns-clause-words c = reads_its_message

pub returns-clause-received : goal.returns-clause-received
returns-clause-received c = read_as_delivered
