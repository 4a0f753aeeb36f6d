use Rattle.iox_wire_needs.proofs.HandleCounts.{handles_are_few}
use Rattle.iox_wire_needs.proofs.handles_are_few.Goals as goal

pub returns : goal.returns
returns c = handles_are_few
