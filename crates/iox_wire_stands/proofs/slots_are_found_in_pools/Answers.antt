use Rattle.iox_wire_stands.proofs.SendsFollow.{slots_are_found_in_pools}
use Rattle.iox_wire_stands.proofs.slots_are_found_in_pools.Goals as goal

pub returns : goal.returns
returns c = slots_are_found_in_pools
