use Rattle.iox_wire_steps.proofs.StateSteps.{state_steps_keep}
use Rattle.iox_wire_steps.proofs.state_steps_keep.Goals as goal

pub returns : goal.returns
returns c = state_steps_keep
