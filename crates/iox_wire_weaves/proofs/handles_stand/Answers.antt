use Rattle.iox_wire_weaves.proofs.HandlesStanding.{handles_stand}
use Rattle.iox_wire_weaves.proofs.handles_stand.Goals as goal

pub returns : goal.returns
returns c = handles_stand
