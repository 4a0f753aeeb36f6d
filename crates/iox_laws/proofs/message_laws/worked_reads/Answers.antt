use Rattle.iox_laws.proofs.MessageLaws.WorkedReadsHold.{reads_the_first}
use Rattle.iox_laws.proofs.message_laws.worked_reads.Goals as goal

pub returns : goal.returns
returns c = reads_the_first
