use Rattle.iox_wire_pools.proofs.AccessUses.{accesses_keep_uses}
use Rattle.iox_wire_pools.proofs.BeginUses.{begins_keep_uses}
use Rattle.iox_wire_pools.proofs.EndUses.{ends_keep_uses}
use Rattle.iox_wire_pools.proofs.uses_stay_counted.Goals as goal

pub returns-clause-accesses : goal.returns-clause-accesses
returns-clause-accesses c = accesses_keep_uses

pub returns-clause-begins : goal.returns-clause-begins
returns-clause-begins c = begins_keep_uses

pub returns-clause-ends : goal.returns-clause-ends
returns-clause-ends c = ends_keep_uses
