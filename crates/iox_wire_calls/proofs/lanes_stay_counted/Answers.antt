use Rattle.iox_wire_calls.proofs.LaneBegins.{begins_keep_lanes}
use Rattle.iox_wire_calls.proofs.LaneEnds.{ends_keep_lanes}
use Rattle.iox_wire_calls.proofs.LaneSteps.{accesses_keep_lanes}
use Rattle.iox_wire_calls.proofs.lanes_stay_counted.Goals as goal

pub returns-clause-begins : goal.returns-clause-begins
returns-clause-begins c = begins_keep_lanes

pub returns-clause-accesses : goal.returns-clause-accesses
returns-clause-accesses c = accesses_keep_lanes

pub returns-clause-ends : goal.returns-clause-ends
returns-clause-ends c = ends_keep_lanes
