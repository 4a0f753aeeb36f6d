use Rattle.iox_wire_laws.proofs.WireKeeping.CountsKept.{begins_keep_own, steps_keep_own, own_stays_counted, ends_keep_counts}
use Rattle.iox_wire_laws.proofs.WireKeeping.WritesKept.{writes_keep_counts}
use Rattle.iox_wire_laws.proofs.wire_keeping.nodes_keep_their_counts.Goals as goal

pub returns-clause-begins : goal.returns-clause-begins
returns-clause-begins c = begins_keep_own

pub returns-clause-steps : goal.returns-clause-steps
returns-clause-steps c = steps_keep_own

pub returns-clause-counted : goal.returns-clause-counted
returns-clause-counted c = own_stays_counted

pub returns-clause-ends : goal.returns-clause-ends
returns-clause-ends c = ends_keep_counts

pub returns-clause-writes : goal.returns-clause-writes
returns-clause-writes c = writes_keep_counts
