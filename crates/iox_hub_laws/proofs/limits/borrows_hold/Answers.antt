use Rattle.iox_hub_laws.proofs.OfHubs.{borrows_hold}
use Rattle.iox_hub_laws.proofs.limits.borrows_hold.Goals as goal

pub returns : goal.returns
returns g c = borrows_hold c.is_in_order.ensures
