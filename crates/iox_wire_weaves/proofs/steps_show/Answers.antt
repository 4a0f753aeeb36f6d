use Rattle.iox_wire_weaves.proofs.StepsShown.{steps_show}
use Rattle.iox_wire_weaves.proofs.steps_show.Goals as goal

pub returns : goal.returns
returns c = steps_show
