use Rattle.iox_wire_steps.proofs.Needed.{what_is_told_is_needed}
use Rattle.iox_wire_steps.proofs.what_is_told_is_needed.Goals as goal

pub returns : goal.returns
returns c = what_is_told_is_needed
