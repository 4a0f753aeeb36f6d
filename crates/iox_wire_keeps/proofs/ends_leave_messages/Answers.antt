use Rattle.iox_wire_keeps.proofs.MessageEnds.{ends_leave_messages}
use Rattle.iox_wire_keeps.proofs.ends_leave_messages.Goals as goal

pub returns : goal.returns
returns c = ends_leave_messages
