use Rattle.iox_wire_weaves.proofs.CallsSaid.{calls_are_said}
use Rattle.iox_wire_weaves.proofs.calls_are_said.Goals as goal

pub returns : goal.returns
returns c = calls_are_said
