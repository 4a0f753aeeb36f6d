use Rattle.iox_wire_steps.proofs.FarPools.{far_slots_may_change}
use Rattle.iox_wire_steps.proofs.far_slots_may_change.Goals as goal

pub returns : goal.returns
returns c = far_slots_may_change
