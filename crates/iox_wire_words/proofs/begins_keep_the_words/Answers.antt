use Rattle.iox_wire_words.proofs.Begins.{begins_keep_the_words}
use Rattle.iox_wire_words.proofs.begins_keep_the_words.Goals as goal

pub returns : goal.returns
returns c = begins_keep_the_words
