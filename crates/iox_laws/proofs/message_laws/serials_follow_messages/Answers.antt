use Rattle.iox_laws.proofs.MessageLaws.Serials.{serials_are_of_messages, serials_follow_messages}
use Rattle.iox_laws.proofs.message_laws.serials_follow_messages.Goals as goal

pub returns-clause-images : goal.returns-clause-images
returns-clause-images c = serials_are_of_messages

pub returns-clause-order : goal.returns-clause-order
returns-clause-order c = serials_follow_messages
