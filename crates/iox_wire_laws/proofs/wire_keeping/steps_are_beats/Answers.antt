use Rattle.iox_wire_laws.proofs.WireKeeping.StepBeats.{steps_are_beats}
use Rattle.iox_wire_laws.proofs.wire_keeping.steps_are_beats.Goals as goal

pub returns : goal.returns
returns c = steps_are_beats
