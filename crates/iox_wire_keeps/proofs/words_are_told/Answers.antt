use Rattle.iox_wire_keeps.proofs.Stored.{stored_words_are_told}
use Rattle.iox_wire_keeps.proofs.words_are_told.Goals as goal

pub returns : goal.returns
returns c = stored_words_are_told
