use Rattle.iox_laws.proofs.WeaveBeats.Fresh.{unsent_is_nowhere}
use Rattle.iox_laws.proofs.weave_beats.unsent_loans_are_nowhere.Goals as goal

pub returns : goal.returns
returns c = record { nowhere = unsent_is_nowhere }
