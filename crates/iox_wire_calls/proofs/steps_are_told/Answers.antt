use Rattle.iox_wire_calls.proofs.StepsTold.{steps_are_told}
use Rattle.iox_wire_calls.proofs.steps_are_told.Goals as goal

pub returns : goal.returns
returns c = steps_are_told
