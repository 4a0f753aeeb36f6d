use Rattle.iox_wire_steps.proofs.EndsStand.{standing_nodes_end}
use Rattle.iox_wire_steps.proofs.standing_nodes_end.Goals as goal

pub returns : goal.returns
returns c = standing_nodes_end
