use Rattle.iox_wire_keeps.proofs.Accesses.{accesses_leave_messages}
use Rattle.iox_wire_keeps.proofs.accesses_leave_messages.Goals as goal

pub returns : goal.returns
returns c = accesses_leave_messages
