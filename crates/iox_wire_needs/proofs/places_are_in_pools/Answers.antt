use Rattle.iox_wire_needs.proofs.Places.{places_are_in_pools}
use Rattle.iox_wire_needs.proofs.places_are_in_pools.Goals as goal

pub returns : goal.returns
returns c = places_are_in_pools
