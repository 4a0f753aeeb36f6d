use Rattle.iox_wire_stands.proofs.QueuesFollow.{accesses_keep_queues}
use Rattle.iox_wire_stands.proofs.accesses_keep_queues.Goals as goal

pub returns : goal.returns
returns c = accesses_keep_queues
