use Rattle.iox_wire_keeps.proofs.Bounds.{begins_leave_bounds, bounds_tell, opened_wires_are_bound, steps_leave_bounds}
use Rattle.iox_wire_keeps.proofs.accesses_bound.Goals as goal

pub returns-clause-opened : goal.returns-clause-opened
returns-clause-opened c = opened_wires_are_bound

pub returns-clause-begins : goal.returns-clause-begins
returns-clause-begins c = begins_leave_bounds

pub returns-clause-steps : goal.returns-clause-steps
returns-clause-steps c = steps_leave_bounds

pub returns-clause-told : goal.returns-clause-told
returns-clause-told c = bounds_tell
