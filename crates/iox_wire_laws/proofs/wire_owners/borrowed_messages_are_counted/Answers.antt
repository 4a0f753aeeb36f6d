use Rattle.iox_wire_laws.proofs.WireOwners.Borrowed.{counts_tell_limits, ends_keep_borrowed, own_parts_keep_borrowed}
use Rattle.iox_wire_laws.proofs.wire_owners.borrowed_messages_are_counted.Goals as goal

pub returns-clause-limits : goal.returns-clause-limits
returns-clause-limits c = counts_tell_limits

pub returns-clause-own : goal.returns-clause-own
returns-clause-own c = own_parts_keep_borrowed

pub returns-clause-ends : goal.returns-clause-ends
returns-clause-ends c = ends_keep_borrowed
