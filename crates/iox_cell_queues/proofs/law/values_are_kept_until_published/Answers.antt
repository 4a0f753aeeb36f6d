use Rattle.iox_cell_queues.proofs.OwnLemmas.{own_stays}
use Rattle.iox_cell_queues.proofs.law.values_are_kept_until_published.Goals as goal

pub returns : goal.returns
returns g c = own_stays
