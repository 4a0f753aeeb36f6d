use Rattle.iox_wire_locals.proofs.StateWords.{words_tell_states}
use Rattle.iox_wire_locals.proofs.words_tell_states.Goals as goal

pub returns : goal.returns
returns c = words_tell_states
