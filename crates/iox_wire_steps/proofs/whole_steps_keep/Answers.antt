use Rattle.iox_wire_steps.proofs.StepsWhole.{whole_steps_keep}
use Rattle.iox_wire_steps.proofs.whole_steps_keep.Goals as goal

pub returns : goal.returns
returns c = whole_steps_keep
