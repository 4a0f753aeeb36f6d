use Rattle.iox_hub_laws.proofs.OfHubs.{hub_keeps_no_gone}
use Rattle.iox_hub_laws.proofs.limits.nothing_is_kept_of_the_gone.Goals as goal

pub returns : goal.returns
returns g c = hub_keeps_no_gone c.is_in_order.ensures
