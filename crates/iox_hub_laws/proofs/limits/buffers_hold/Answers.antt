use Rattle.iox_hub_laws.proofs.OfHubs.{hub_buffers_hold}
use Rattle.iox_hub_laws.proofs.limits.buffers_hold.Goals as goal

pub returns : goal.returns
returns g c = hub_buffers_hold c.is_in_order.ensures
