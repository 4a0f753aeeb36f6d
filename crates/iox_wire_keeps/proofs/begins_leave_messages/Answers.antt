use Rattle.iox_wire_keeps.proofs.MessageBegins.{begins_leave_messages}
use Rattle.iox_wire_keeps.proofs.begins_leave_messages.Goals as goal

pub returns : goal.returns
returns c = begins_leave_messages
