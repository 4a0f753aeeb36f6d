use Rattle.iox_wire_pools.proofs.WorkedUses.{requests_are_used_twice, unused_slots_are_freed_twice, worked_uses_are_counted}
use Rattle.iox_wire_pools.proofs.worked_uses.Goals as goal

pub returns-clause-opened : goal.returns-clause-opened
returns-clause-opened c = worked_uses_are_counted

pub returns-clause-sent : goal.returns-clause-sent
returns-clause-sent c = requests_are_used_twice

pub returns-clause-unused : goal.returns-clause-unused
returns-clause-unused c = unused_slots_are_freed_twice
