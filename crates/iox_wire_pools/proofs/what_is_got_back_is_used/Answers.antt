use Rattle.iox_wire_pools.proofs.FoundUses.{what_is_got_back_is_out, what_is_out_is_used}
use Rattle.iox_wire_pools.proofs.what_is_got_back_is_used.Goals as goal

pub returns-clause-out : goal.returns-clause-out
returns-clause-out c = what_is_got_back_is_out

pub returns-clause-used : goal.returns-clause-used
returns-clause-used c = what_is_out_is_used
