use Rattle.iox_hub_laws.proofs.OfHubs.{hub_slots}
use Rattle.iox_hub_laws.proofs.limits.slots_are_of_holders.Goals as goal

pub returns : goal.returns
returns g c = hub_slots c.is_in_order.ensures
