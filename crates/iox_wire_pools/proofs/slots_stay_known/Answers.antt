use Rattle.iox_wire_pools.proofs.KnownSlots.{deliveries_are_known, get_backs_are_known}
use Rattle.iox_wire_pools.proofs.slots_stay_known.Goals as goal

pub returns-clause-got_back : goal.returns-clause-got_back
returns-clause-got_back c = get_backs_are_known

pub returns-clause-delivered : goal.returns-clause-delivered
returns-clause-delivered c = deliveries_are_known
