use Rattle.iox_wire_needs.proofs.WireSteps.{step_keeps}
use Rattle.iox_wire_needs.proofs.step_keeps.Goals as goal

pub returns : goal.returns
returns c = step_keeps
