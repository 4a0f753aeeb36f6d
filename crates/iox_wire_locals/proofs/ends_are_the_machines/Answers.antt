use Rattle.iox_wire_locals.proofs.EndProofs.{tables_settle}
use Rattle.iox_wire_locals.proofs.ends_are_the_machines.Goals as goal

pub returns : goal.returns
returns c = tables_settle
