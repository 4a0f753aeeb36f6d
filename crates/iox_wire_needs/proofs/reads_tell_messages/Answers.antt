use Rattle.iox_wire_needs.proofs.ReadWords.{begun_reads_tell_none, reads_tell_messages, stepped_reads_tell_none}
use Rattle.iox_wire_needs.proofs.reads_tell_messages.Goals as goal

pub returns-clause-begins : goal.returns-clause-begins
returns-clause-begins c = begun_reads_tell_none

pub returns-clause-steps : goal.returns-clause-steps
returns-clause-steps c = stepped_reads_tell_none

pub returns-clause-tells : goal.returns-clause-tells
returns-clause-tells c = reads_tell_messages
