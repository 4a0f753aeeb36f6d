use Rattle.iox_wire_weaves.proofs.CountsTold.{kept_is_told, outstanding_is_told}
use Rattle.iox_wire_weaves.proofs.desks_tell.Goals as goal

pub returns-clause-kept : goal.returns-clause-kept
returns-clause-kept c = kept_is_told

pub returns-clause-outstanding : goal.returns-clause-outstanding
returns-clause-outstanding c = outstanding_is_told
