use Rattle.iox_wire_steps.proofs.ReturnSteps.{return_steps_keep}
use Rattle.iox_wire_steps.proofs.return_steps_keep.Goals as goal

pub returns : goal.returns
returns c = return_steps_keep
