use Rattle.iox_cell_queues.proofs.ApartLemmas.{stretch_leaves_queues}
use Rattle.iox_cell_queues.proofs.law.queues_apart_stay.Goals as goal

pub returns : goal.returns
returns g c base extent site list after apart keeps held = stretch_leaves_queues g.T.Words base extent site list after apart keeps held
