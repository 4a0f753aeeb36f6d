use Rattle.iox_wire_words.proofs.Begins.{empty_queues_fit}
use Rattle.iox_wire_words.proofs.empty_queues_fit.Goals as goal

pub returns : goal.returns
returns c = empty_queues_fit
