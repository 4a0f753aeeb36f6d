use Rattle.iox_wire_steps.proofs.OwnMessages.{own_messages_are_apart, own_messages_are_lent}
use Rattle.iox_wire_steps.proofs.own_messages_are_apart.Goals as goal

pub returns-clause-lent : goal.returns-clause-lent
returns-clause-lent c = own_messages_are_lent

pub returns-clause-apart : goal.returns-clause-apart
returns-clause-apart c = own_messages_are_apart
