use Rattle.iox_wire_pools.proofs.EndedSlots.{ends_are_known}
use Rattle.iox_wire_pools.proofs.slots_stay_known_as_calls_end.Goals as goal

pub returns : goal.returns
returns c = ends_are_known
