use Rattle.iox_hub_laws.proofs.OfHubs.{hub_keeps_few_gone}
use Rattle.iox_hub_laws.proofs.limits.few_are_kept_of_the_gone.Goals as goal

pub returns : goal.returns
returns g c = hub_keeps_few_gone c.is_in_order.ensures
