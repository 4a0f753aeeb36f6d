use Rattle.iox_wire_weaves.proofs.StepsShown.{steps_are_safe}
use Rattle.iox_wire_weaves.proofs.steps_are_safe.Goals as goal

pub returns : goal.returns
returns c = steps_are_safe
