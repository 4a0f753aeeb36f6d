use Rattle.iox_wire_calls.proofs.LaneSlots.{free_slots_have_lanes}
use Rattle.iox_wire_calls.proofs.free_slots_have_lanes.Goals as goal

pub returns : goal.returns
returns c = free_slots_have_lanes
