use Rattle.iox_wire_stands.proofs.StepsKept.{steps_keep}
use Rattle.iox_wire_stands.proofs.steps_keep.Goals as goal

pub returns : goal.returns
returns c = steps_keep
