use Rattle.iox_wire_steps.proofs.EndsStand.{ends_keep}
use Rattle.iox_wire_steps.proofs.ends_keep.Goals as goal

pub returns : goal.returns
returns c = ends_keep
