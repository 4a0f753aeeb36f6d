use Rattle.iox_wire_locals.proofs.BeginProofs.{ports_begin, handles_begin}
use Rattle.iox_wire_locals.proofs.ReplyProofs.{replies_are_the_machines}
use Rattle.iox_wire_locals.proofs.begins_are_the_machines.Goals as goal

pub returns-clause-ports : goal.returns-clause-ports
returns-clause-ports c = ports_begin

pub returns-clause-handles : goal.returns-clause-handles
returns-clause-handles c = handles_begin

pub returns-clause-replies : goal.returns-clause-replies
returns-clause-replies c = replies_are_the_machines
