use Rattle.iox_wire_laws.proofs.WireSlots.Counting.{dry_if_none_is_free, free_and_kept_are_the_pool}
use Rattle.iox_wire_laws.proofs.wire_slots.free_slots_are_those_not_kept.Goals as goal

pub returns-clause-counted : goal.returns-clause-counted
returns-clause-counted c = free_and_kept_are_the_pool

pub returns-clause-dry : goal.returns-clause-dry
returns-clause-dry c = dry_if_none_is_free
