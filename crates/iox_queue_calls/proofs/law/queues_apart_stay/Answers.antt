use Rattle.iox_queue_calls.proofs.ApartLemmas.{stretch_leaves_queues}
use Rattle.iox_queue_calls.proofs.law.queues_apart_stay.Goals as goal

pub returns : goal.returns
returns c base extent site words after apart keeps held = stretch_leaves_queues base extent site words after apart keeps held
